-- A lone remover of a slot with one child, and of a leaf under a data slot: the locks of its plan, and their expectations.
-- Assumes nothing.
use mathlib.Core.Path.{◌≡◌, refl, sym, ap, ◌∙◌}
use mathlib.Core.Bool.{Bool, true, false, not}
use mathlib.Core.List.{List}
use mathlib.Core.Logic.{◌⊎◌, inl, inr, ⊎_elim, ◌≢◌}
use Prim.Native.Nat.{ℕ, zero, suc, ◌<◌}
use native.Mathlib.Omega.{arith}
use native.Mathlib.Numerals.{add-one}
use lib.ListN.{get_or}
use borrow.Author.Tests.{eq-eqb, ne_eqb, lt-ltb}
use Rattle.moment.specs.Key.{legal_of}
use Rattle.table.specs.Pair.{free, as_data, deleted, slots_of, key_of, state_of, link_of}
use Rattle.tree.specs.Reach.{tab_of, Under, top, kid, Reached}
use Rattle.tree.specs.Walk.{Way}
use Rattle.tree.proofs.Paths.{way_reached}
use Rattle.protocol.specs.Plan.{write_edge, read_edge, read_state, write_state, plan}
use Rattle.protocol.specs.Record.{roles}
use Rattle.protocol.specs.Locks.{state_fits, links_fit}
use Rattle.protocol.specs.Calls.{seated}
use Rattle.protocol.specs.Alone.{Calm}
use Rattle.protocol.specs.declared.Kind.TheVariants.{Remove}
use Rattle.protocol.specs.declared.Phase.TheVariants.{One, UnderData}
use Rattle.protocol.specs.declared.Links.TheVariants.{Is, Neither}
use Rattle.protocol.specs.declared.Action.{Action}
use Rattle.protocol.specs.declared.Action.TheVariants.{Beyond}
use Rattle.protocol.proofs.Alone.Plans.{Apart, Sole}
use Rattle.protocol.proofs.Alone.Steps.{busy, Comes}
use Rattle.protocol.proofs.Alone.Doing.{Case}
use Rattle.protocol.proofs.Alone.Locking.{loosen, Wanted}
use Rattle.protocol.proofs.Alone.Walking.{in_table, came_apart}
use Rattle.protocol.proofs.Alone.Beginning.{ready, begun_linked}
use Rattle.protocol.proofs.Alone.Finishing.{Fate}
use Rattle.protocol.proofs.Alone.Inserting.{edge_state}
use Rattle.protocol.proofs.Alone.Removing.{cut_acts, live_at, on_data, cut}

-- three locks on words of their own
cut_sole : (a b l : Action) (y p : ℕ) (d : Bool) (x : ℕ) → Apart a b → Apart a l → Apart b l → Sole (cut_acts a b l y p d x)
cut_sole a b l y p d x ab al bl = (
  (ab, (al, ((λ e f. e), ((λ e f. e), ((λ e f. e), tt))))),
  ((bl, ((λ e f. e), ((λ e f. e), ((λ e f. e), tt)))), (((λ e f. e), ((λ e f. e), ((λ e f. e), tt))), (((λ e f. refl), ((λ e f. refl), tt)), (((λ e f. refl), tt), (tt, tt))))),
)

-- a side is this one or the other
pub sides : (t d : Bool) → (t ≡ d) ⊎ (t ≡ not d)
sides true true = inl refl
sides true false = inr refl
sides false true = inr refl
sides false false = inl refl

module _ {ws : List ℕ} (c : Calm ws) (k : ℕ) (legal : legal_of k ≡ true) where
  abbrev us : List ℕ
  us = seated ws

  abbrev n : ℕ
  n = slots_of us

  module _ (y : ℕ) (w : Way (tab_of us) k y) (e : key_of us y ≡ k) (s : state_of us y ≡ as_data) (z : y ≢ 0)
      (p : ℕ) (d : Bool) (rp : Reached (tab_of us) p) (was : link_of us p d ≡ y) where
    inside : y < n
    inside = in_table (ready c) (way_reached w)

    above : p < n
    above = in_table (ready c) rp

    -- y hangs on a side of p: their keys differ
    pub apart_from : y ≢ p
    apart_from q = ((ready c).between p y d rp ((λ i. z (sym was ∙ i)), top')).0 (ap (key_of us) q)
      where
        top' : Under (tab_of us) (link_of us p d) y
        top' = top (sym was)

    some_y : state_of us y ≢ free
    some_y q = omega arith

    -- ONE CHILD x, on side t
    module _ (x : ℕ) (t : Bool) (child : link_of us y t ≡ x) (xz : x ≢ 0) (none : link_of us y (not t) ≡ 0) where
      kin : (x ≢ y) × (x ≢ p) × (y ≢ p)
      kin = came_apart (ready c).between t d xz z child was rp

      one_case : Case Remove k n (λ i. One y p d x t i) (cut_acts (read_edge y t x) (write_edge p d y) (write_state y as_data (Is (not t) 0)) y p d x)
      unfolding roles plan
      one_case =
          record {
            legal = legal;
            fit = λ i j. rw (
              ne_eqb y 0 z,
              lt-ltb y n inside,
              lt-ltb p n above,
              ne_eqb x 0 xz,
              lt-ltb x n (in_table (ready c) (kid t (way_reached w) child xz)),
              ne_eqb y p kin.2,
              ne_eqb y x (λ q. kin.0 (sym q)),
              ne_eqb p x (λ q. kin.1 (sym q)),
              lt-ltb i 6 j,
            );
            done = λ i. refl;
            next = λ i. ap (λ (m : ℕ). One y p d x t m) (add-one i);
            same = λ i. refl;
            sole = cut_sole (read_edge y t x) (write_edge p d y) (write_state y as_data (Is (not t) 0)) y p d x
                (λ i f. absurd (kin.2 f)) (λ i f. absurd (edge_state t i)) (λ i f. absurd (kin.2 (sym f)));
          }

      one_wants : (i : ℕ) → i < 3 → Wanted us (get_or (cut_acts (read_edge y t x) (write_edge p d y) (write_state y as_data (Is (not t) 0)) y p d x) i Beyond)
      unfolding state_fits links_fit
      one_wants zero h = (some_y, rw (ne_eqb (state_of us y) deleted (λ q. omega arith)), eq-eqb (link_of us y t) x child)
      one_wants (suc zero) h = ((ready c).some p rp, rw (ne_eqb (state_of us p) deleted (begun_linked c p rp)), eq-eqb (link_of us p d) y was)
      one_wants (suc (suc zero)) h = (some_y, eq-eqb (state_of us y) as_data s, eq-eqb (link_of us y (not t)) 0 none)
      one_wants (suc (suc (suc i))) h = absurd (omega arith)

      pub remove_one : Comes (Fate ws Remove k) us (busy Remove k (One y p d x t 0)) 10
      remove_one =
          loosen 6 10 (omega arith)
          (cut c k legal y w e s z one_case
          (record {
            ends = on_data c k legal y w e s z;
            was = was;
            live = live_at c k legal p rp;
            apart = λ q. kin.2 (sym q);
            differ = kin.0;
            one = λ u. ⊎_elim (λ q. inr (ap (link_of us y) q ∙ child)) (λ q. inl (ap (link_of us y) q ∙ none)) (sides u t);
            from = λ q. (t, child);
            two = inl xz;
          })
          (in_table (ready c) (kid t (way_reached w) child xz)) one_wants)

    -- A LEAF UNDER A DATA SLOT
    module _ (bare : (t : Bool) → link_of us y t ≡ 0) (sp : state_of us p ≡ as_data) where
      data_case : Case Remove k n (λ i. UnderData y p d i) (cut_acts (write_edge p d y) (write_state y as_data Neither) (read_state p as_data) y p d 0)
      unfolding roles plan
      data_case =
          record {
            legal = legal;
            fit = λ i j. rw (ne_eqb y 0 z, lt-ltb y n inside, lt-ltb p n above, ne_eqb y p apart_from, lt-ltb i 6 j);
            done = λ i. refl;
            next = λ i. ap (λ (m : ℕ). UnderData y p d m) (add-one i);
            same = λ i. refl;
            sole = cut_sole (write_edge p d y) (write_state y as_data Neither) (read_state p as_data) y p d 0
                (λ i f. absurd (apart_from (sym f))) (λ i f. absurd (edge_state d i)) (λ i f. absurd (apart_from f));
          }

      data_wants : (i : ℕ) → i < 3 → Wanted us (get_or (cut_acts (write_edge p d y) (write_state y as_data Neither) (read_state p as_data) y p d 0) i Beyond)
      unfolding state_fits links_fit
      data_wants zero h = ((ready c).some p rp, rw (ne_eqb (state_of us p) deleted (begun_linked c p rp)), eq-eqb (link_of us p d) y was)
      data_wants (suc zero) h = (some_y, eq-eqb (state_of us y) as_data s, rw (eq-eqb (link_of us y true) 0 (bare true), eq-eqb (link_of us y false) 0 (bare false)))
      data_wants (suc (suc zero)) h = ((ready c).some p rp, eq-eqb (state_of us p) as_data sp, refl)
      data_wants (suc (suc (suc i))) h = absurd (omega arith)

      pub remove_under_data : Comes (Fate ws Remove k) us (busy Remove k (UnderData y p d 0)) 6
      remove_under_data =
          cut c k legal y w e s z data_case
          (record {
            ends = on_data c k legal y w e s z;
            was = was;
            live = live_at c k legal p rp;
            apart = λ q. apart_from (sym q);
            differ = λ q. z (sym q);
            one = λ t. inl (bare t);
            from = λ q. absurd (q refl);
            two = inr sp;
          })
          (omega (arith, inside)) data_wants
