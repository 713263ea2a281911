-- A lone remover at the end of its walk, on a data slot with two children, with one, or with none and a data slot above it: its
-- locks are given, its stores are made, and it says Yes. Assumes nothing.
use mathlib.Core.Path.{◌≡◌, refl, sym, ap, ◌∙◌, subst}
use mathlib.Core.Bool.{Bool, true, false}
use mathlib.Core.List.{List, [], ◌∷◌}
use mathlib.Core.Logic.{◌⊎◌, ◌≢◌}
use Prim.Native.Nat.{ℕ, zero, suc, ◌<◌}
use native.Mathlib.Omega.{arith}
use native.Mathlib.Numerals.{add-one}
use lib.ListN.{get_or}
use borrow.Author.Tests.{eq-eqb, ne_eqb, lt-ltb}
use Rattle.moment.specs.Key.{legal_of}
use Rattle.table.specs.Pair.{free, as_data, routing, deleted, state_f, slots_of, key_of, state_of, link_of, set_state, set_link}
use Rattle.table.proofs.PairLaws.{field_lt}
use Rattle.tree.specs.Reach.{Tab, tab_of, Reached, InSet}
use Rattle.tree.specs.Walk.{Way}
use Rattle.tree.proofs.Paths.{way_reached}
use Rattle.protocol.specs.Plan.{write_state, plan}
use Rattle.protocol.specs.Record.{roles}
use Rattle.protocol.specs.Locks.{state_fits, links_fit}
use Rattle.protocol.specs.Calls.{seated}
use Rattle.protocol.specs.Alone.{Calm}
use Rattle.protocol.specs.declared.Kind.TheVariants.{Remove}
use Rattle.protocol.specs.declared.Phase.{Phase}
use Rattle.protocol.specs.declared.Phase.TheVariants.{Two}
use Rattle.protocol.specs.declared.Links.TheVariants.{Both}
use Rattle.protocol.specs.declared.Action.{Action}
use Rattle.protocol.specs.declared.Action.TheVariants.{Mark, Link, End, Beyond}
use Rattle.protocol.proofs.HeldLaws.{LocksOnly, locks_only_refl}
use Rattle.protocol.proofs.Words.{locks_tab, state_set, link_set}
use Rattle.protocol.proofs.Paths.Shape.{Live}
use Rattle.protocol.proofs.Alone.Changes.{state_only, link_only}
use Rattle.protocol.proofs.Alone.Calmness.{gone_in}
use Rattle.protocol.proofs.Alone.Steps.{busy, Comes, go_on, stop}
use Rattle.protocol.proofs.Alone.Doing.{Case, Mid, mark_goes, mark_mid, link_goes, link_mid, rests, ends_yes}
use Rattle.protocol.proofs.Alone.Locking.{loosen, Wanted, lock_all, state_stays, link_stays}
use Rattle.protocol.proofs.Alone.Walking.{in_table}
use Rattle.protocol.proofs.Alone.Beginning.{ready, begun_tab, begun_grown, begun_linked}
use Rattle.protocol.proofs.Alone.Told.{yes_ends, removed_yes}
use Rattle.protocol.proofs.Alone.Finishing.{Fate, begun_mid, carry, calm_after, set_after, others_after}
use Rattle.protocol.proofs.Alone.Cutting.{OnData, two_turned, one_turned}

-- the link (p, d) leads to y, whose only child is c (0: none)
pub record Cuts (D : ℕ → Bool) (k y p : ℕ) (d : Bool) (c : ℕ) (B : Tab) : Type 0 where
  pub ends : OnData D k y B
  pub was : B.link p d ≡ y
  pub live : Live B p
  pub apart : p ≢ y
  pub differ : c ≢ y
  pub one : (t : Bool) → (B.link y t ≡ 0) ⊎ (B.link y t ≡ c)
  pub from : c ≢ 0 → (t : Bool) × (B.link y t ≡ c)
  pub two : (c ≢ 0) ⊎ (B.state p ≡ 1)

abbrev pub two_acts : ℕ → List Action
two_acts y = write_state y as_data Both ∷ Mark y routing ∷ End ∷ []

-- three locks, and the stores of one child or none
abbrev pub cut_acts : Action → Action → Action → ℕ → ℕ → Bool → ℕ → List Action
cut_acts a b l y p d c = a ∷ b ∷ l ∷ Mark y deleted ∷ Link p d c ∷ End ∷ []

module _ {ws : List ℕ} (c : Calm ws) (k : ℕ) (legal : legal_of k ≡ true) where
  abbrev us : List ℕ
  us = seated ws

  abbrev n : ℕ
  n = slots_of us

  -- what is reached is data or routing
  pub live_at : (x : ℕ) → Reached (tab_of us) x → Live (tab_of us) x
  live_at x r =
      let a = (ready c).some x r in
      let b = begun_linked c x r in
      let h = field_lt state_f us x in
      omega arith

  module _ (y : ℕ) (w : Way (tab_of us) k y) (e : key_of us y ≡ k) (s : state_of us y ≡ as_data) (z : y ≢ 0) where
    pub on_data : OnData (gone_in ws) k y (tab_of us)
    on_data = record { grown = begun_grown c; linked = begun_linked c; key_is = e; state_is = s; not_root = z }

    pub was_in : InSet ws k
    was_in = (carry (begun_tab c) k).0 (y, z, s, e, way_reached w)

    inside : y < n
    inside = in_table (ready c) (way_reached w)

    -- TWO CHILDREN
    two_case : Case Remove k n (λ i. Two y i) (two_acts y)
    unfolding roles plan
    two_case =
        record {
          legal = legal;
          fit = λ i j. rw (ne_eqb y 0 z, lt-ltb y n inside, lt-ltb i 3 j);
          done = λ i. refl;
          next = λ i. ap (λ (m : ℕ). Two y m) (add-one i);
          same = λ i. refl;
          sole = (((λ e f. e), ((λ e f. e), tt)), (((λ e f. refl), tt), (tt, tt)));
        }

    two_wants : ((d : Bool) → link_of us y d ≢ 0) → (i : ℕ) → i < 1 → Wanted us (get_or (two_acts y) i Beyond)
    unfolding state_fits links_fit
    two_wants l zero h = ((λ q. omega arith), eq-eqb (state_of us y) as_data s, rw (ne_eqb (link_of us y true) 0 (l true), ne_eqb (link_of us y false) 0 (l false)))
    two_wants l (suc i) h = absurd (omega arith)

    pub remove_two : ((d : Bool) → link_of us y d ≢ 0) → Comes (Fate ws Remove k) us (busy Remove k (Two y 0)) 10
    remove_two l =
        loosen 3 10 (omega arith) (lock_all two_case 1 (omega arith) (two_wants l) rest 1 0 us refl (begun_mid c (two_acts y)) (locks_only_refl us))
      where
        rest : (vs : List ℕ) → Mid (two_acts y) n 1 vs → LocksOnly us vs → Comes (Fate ws Remove k) vs (busy Remove k (Two y 1)) 2
        rest vs m o =
            let some : state_of vs y ≢ free = rw (state_stays o y) (λ q. omega arith) in
            let m' = mark_mid two_case m (omega arith) y routing refl some z (omega arith) (omega arith) in
            let same = locks_tab us vs o in
            let only = state_only m.tame y routing some (omega arith) in
            let f = subst (OnData (gone_in ws) k y) (sym same) on_data in
            let t = two_turned f (state_set y routing vs (set_state vs y routing) only) (λ d. rw (link_stays o y d) (l d)) in
            let r = rests two_case m' (omega arith) in
            go_on (mark_goes two_case m (omega arith) y routing refl some)
            (stop 0 (ends_yes two_case m' (omega arith) refl) yes_ends
            (removed_yes was_in (λ i. t.1 ((set_after c same t.0 r k).0 i)) (others_after c same t.0 r), calm_after c same t.0 r))

    -- ONE CHILD OR NONE: the stores, and the end
    module _ {ph : ℕ → Phase} {a b l : Action} {p : ℕ} {d : Bool} {x : ℕ} (cs : Case Remove k n ph (cut_acts a b l y p d x)) (f : Cuts (gone_in ws) k y p d x (tab_of us)) (h : x < n) where
      right : d ≡ false → p ≢ 0
      right q i = let v = f.was in z (sym v ∙ ap (link_of us p) q ∙ ap (λ (j : ℕ). link_of us j false) i ∙ (ready c).tame.right)

      cut_rest : (vs : List ℕ) → Mid (cut_acts a b l y p d x) n 3 vs → LocksOnly us vs → Comes (Fate ws Remove k) vs (busy Remove k (ph 3)) 3
      cut_rest vs m o =
          let v = f.live in
          let some : state_of vs y ≢ free = rw (state_stays o y) (λ q. omega arith) in
          let xs = set_state vs y deleted in
          let only₁ = state_only m.tame y deleted some (omega arith) in
          let m₁ = mark_mid cs m (omega arith) y deleted refl some z (omega arith) (omega arith) in
          let some₁ : state_of xs p ≢ free = rw (only₁.slots state_f p f.apart, state_stays o p) (λ q. omega arith) in
          let h₁ : x < slots_of xs = rw m₁.size h in
          let only₂ = link_only m₁.tame p d x some₁ h₁ in
          let m₂ = link_mid cs m₁ (omega arith) p d x refl some₁ h₁ right in
          let same = locks_tab us vs o in
          let g : Cuts (gone_in ws) k y p d x (tab_of vs) = subst (Cuts (gone_in ws) k y p d x) (sym same) f in
          let t = one_turned g.ends (state_set y deleted vs xs only₁) (link_set p d x xs (set_link xs p d x) only₂)
          g.was g.live g.apart g.differ g.one g.from g.two in
          let r = rests cs m₂ (omega arith) in
          go_on (mark_goes cs m (omega arith) y deleted refl some)
          (go_on (link_goes cs m₁ (omega arith) p d x refl some₁)
          (stop 0 (ends_yes cs m₂ (omega arith) refl) yes_ends
          (removed_yes was_in (λ i. t.1 ((set_after c same t.0 r k).0 i)) (others_after c same t.0 r), calm_after c same t.0 r)))

      -- with its three locks
      pub cut : ((i : ℕ) → i < 3 → Wanted us (get_or (cut_acts a b l y p d x) i Beyond)) → Comes (Fate ws Remove k) us (busy Remove k (ph 0)) 6
      cut wants = lock_all cs 3 (omega arith) wants cut_rest 3 0 us refl (begun_mid c (cut_acts a b l y p d x)) (locks_only_refl us)
