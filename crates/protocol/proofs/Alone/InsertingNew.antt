-- A lone insert whose walk ended at nothing: the lowest free slot is taken, or there is none and it says Full. Assumes nothing.
use mathlib.Core.Path.{◌≡◌, refl, sym, ap, ◌∙◌, subst}
use mathlib.Core.Bool.{Bool, true, false, true≢false, false≢true}
use mathlib.Core.List.{List, [], ◌∷◌}
use mathlib.Core.Logic.{◌⊎◌, inl, inr, ◌≢◌}
use Prim.Native.Nat.{ℕ, zero, suc, ◌<◌}
use native.Mathlib.Omega.{arith}
use native.Mathlib.Decide.{ℕ_discrete}
use native.Mathlib.Numerals.{add-one}
use lib.ListN.{get_or}
use borrow.Author.Tests.{eq-eqb, ne_eqb, lt-ltb}
use Rattle.moment.specs.Key.{legal_of}
use Rattle.table.specs.Free.{is_free}
use Rattle.table.specs.Pair.{free, deleted, state_f, slots_of, key_of, state_of, link_of, set_link}
use Rattle.table.proofs.PairLaws.{field_lt}
use Rattle.tree.specs.Reach.{Tab, tab_of, Reached, Has, InSet}
use Rattle.tree.specs.Walk.{dir, next, Way}
use Rattle.tree.proofs.Paths.{way_reached, absent}
use Rattle.protocol.specs.Plan.{present, write_edge, read_state, plan}
use Rattle.protocol.specs.Record.{roles}
use Rattle.protocol.specs.Locks.{state_fits, links_fit}
use Rattle.protocol.specs.Stores.{lowest_fit, taken, fit}
use Rattle.protocol.specs.Calls.{seated}
use Rattle.protocol.specs.Alone.{Calm, Needs, NoneFree}
use Rattle.protocol.specs.declared.Kind.TheVariants.{Insert}
use Rattle.protocol.specs.declared.Phase.TheVariants.{New}
use Rattle.protocol.specs.declared.Action.{Action}
use Rattle.protocol.specs.declared.Action.TheVariants.{Take, End, Beyond}
use Rattle.protocol.proofs.HeldLaws.{LocksOnly, locks_only_refl}
use Rattle.protocol.proofs.StoreLaws.{lowest_fit_lem, none_fit}
use Rattle.protocol.proofs.Mistakes.{fit_free}
use Rattle.protocol.proofs.Words.{locks_tab, new_set, SetNew}
use Rattle.protocol.proofs.Paths.Shape.{Live}
use Rattle.protocol.proofs.Paths.Stores.{Append}
use Rattle.protocol.proofs.Alone.Veil.{Grown, grown_ordered, grown_some}
use Rattle.protocol.proofs.Alone.Growing.{grown_append, append_back, append_now, append_others}
use Rattle.protocol.proofs.Alone.Calmness.{gone_in}
use Rattle.protocol.proofs.Alone.Steps.{busy, Comes, go_on, stop}
use Rattle.protocol.proofs.Alone.Doing.{Case, Mid, take_goes, take_mid, took_joins, rests, ends_yes, ends_full}
use Rattle.protocol.proofs.Alone.Locking.{loosen, Wanted, lock_all, state_stays}
use Rattle.protocol.proofs.Alone.Walking.{legal_below, in_table}
use Rattle.protocol.proofs.Alone.Beginning.{ready, begun_tab, begun_size, begun_grown, begun_linked}
use Rattle.protocol.proofs.Alone.Told.{yes_ends, full_ends, inserted_yes, inserted_full}
use Rattle.protocol.proofs.Alone.Finishing.{Fate, begun_mid, Turned, calm_after, set_after, set_before, others_after}
use Rattle.protocol.proofs.Alone.Inserting.{Linked, edge_state}

-- AT NOTHING

abbrev new_acts : ℕ → Bool → List Action
new_acts p d = write_edge p d 0 ∷ read_state p present ∷ Take p d ∷ End ∷ []

-- the walk has ended at nothing, on side d of slot p
record Nowhere (D : ℕ → Bool) (k p : ℕ) (d : Bool) (B : Tab) : Type 0 where
  grown : Grown D B
  linked : Linked B
  way : Way B k p
  apart : k ≢ B.key p
  empty : B.link p d ≡ 0
  side : dir B k p ≡ d
  low : k < B.key 0
  small : B.state p < 4

-- no slot that is reached has the key
nowhere_none : {D : ℕ → Bool} {k p : ℕ} {d : Bool} {B : Tab} → Nowhere D k p d B → (y : ℕ) → Reached B y → B.key y ≢ k
nowhere_none {p = p} {B = B} f y r e =
    absent (grown_ordered f.grown) f.way (λ z. f.apart (sym z)) (ap (B.link p) f.side ∙ f.empty) r e

nowhere_live : {D : ℕ → Bool} {k p : ℕ} {d : Bool} {B : Tab} → Nowhere D k p d B → Live B p
nowhere_live {p = p} f =
    let r = way_reached f.way in
    let a = grown_some f.grown p r in
    let b = f.linked p r in
    let h = f.small in
    omega arith

nowhere_turned : {D : ℕ → Bool} {k p : ℕ} {d : Bool} {A B : Tab} (f : ℕ) → Nowhere D k p d A → SetNew A B p d f k → A.state f ≡ free → legal_of k ≡ true
    → Turned D k A B × Has B k
nowhere_turned {D} {k} {p} {d} {A} {B} f w s z legal =
    let b : Append A B p d f k = record {
      key_there = s.key_there;
      keys = s.keys;
      state_there = s.state_there;
      states = s.states;
      there = s.there;
      none = s.none;
      rest = s.rest;
      free = z;
      live = nowhere_live w;
      empty = w.empty;
      apart = w.apart;
      side = w.side;
      way = w.way;
      low = w.low;
    } in (
      record {
        grown = grown_append w.grown b legal;
        linked = λ y r. go y (ℕ_discrete y f) (append_back w.grown b legal r);
        others = append_others w.grown b legal;
      },
      append_now w.grown b legal,
    )
  where
    go : (y : ℕ) → Dec (y ≡ f) → Reached A y ⊎ (y ≡ f) → B.state y ≢ deleted
    go y (yes e) r = rw (e, s.state_there) (omega arith)
    go y (no e) (inl r) = rw (s.states y e) (w.linked y r)
    go y (no e) (inr q) = absurd (e q)

-- nothing was stored
unturned : {D : ℕ → Bool} {k : ℕ} {A : Tab} → Grown D A → Linked A → Turned D k A A
unturned g l = record { grown = g; linked = l; others = λ j n. ((λ h. h), λ h. h) }

fits : (us : List ℕ) (j : ℕ) → state_of us j ≡ free → fit us j ≡ true
unfolding fit is_free
fits us j e = eq-eqb (state_of us j) free e

module _ {ws : List ℕ} (c : Calm ws) (k : ℕ) (legal : legal_of k ≡ true) where
  abbrev us : List ℕ
  us = seated ws

  abbrev n : ℕ
  n = slots_of us

  new_case : (p : ℕ) (d : Bool) → p < n → Case Insert k n (λ i. New p d i) (new_acts p d)
  unfolding roles plan
  new_case p d h =
      record {
        legal = legal;
        fit = λ i j. rw (lt-ltb p n h, lt-ltb i 4 j);
        done = λ i. refl;
        next = λ i. ap (λ (m : ℕ). New p d m) (add-one i);
        same = λ i. refl;
        sole = (((λ e f. absurd (edge_state d e)), ((λ e f. e), ((λ e f. e), tt))), (((λ e f. e), ((λ e f. e), tt)), (((λ e f. refl), tt), (tt, tt))));
      }

  new_wants : (p : ℕ) (d : Bool) → state_of us p ≢ free → state_of us p ≢ deleted → link_of us p d ≡ 0 → (i : ℕ) → i < 2 → Wanted us (get_or (new_acts p d) i Beyond)
  unfolding state_fits links_fit
  new_wants p d a b e zero h = (a, rw (ne_eqb (state_of us p) deleted b), eq-eqb (link_of us p d) 0 e)
  new_wants p d a b e (suc zero) h = (a, rw (ne_eqb (state_of us p) deleted b), refl)
  new_wants p d a b e (suc (suc i)) h = absurd (omega arith)

  module _ (p : ℕ) (w : Way (tab_of us) k p) (apart : k ≢ key_of us p) (stops : next (tab_of us) k p ≡ 0) where
    abbrev d : Bool
    d = dir (tab_of us) k p

    nowhere : Nowhere (gone_in ws) k p d (tab_of us)
    nowhere =
        record {
          grown = begun_grown c;
          linked = begun_linked c;
          way = w;
          apart = apart;
          empty = stops;
          side = refl;
          low = let o = (ready c).tame.ones in omega (arith, legal_below k legal);
          small = field_lt state_f us p;
        }

    needs : Needs ws k
    needs =
        let h : (y : ℕ) → Reached (tab_of ws) y → key_of ws y ≢ k = subst (λ (B : Tab). (y : ℕ) → Reached B y → B.key y ≢ k) (begun_tab c) (nowhere_none nowhere) in
        ((λ (y, m, t, f, r). h y r f), λ y r t. h y r)

    new_out : InSet ws k → ⊥
    new_out = needs.0

    cs : Case Insert k n (λ i. New p d i) (new_acts p d)
    cs = new_case p d (in_table (ready c) (way_reached w))

    state_as : {vs : List ℕ} → LocksOnly us vs → (j : ℕ) → state_of vs j ≡ state_of ws j
    state_as o j = state_stays o j ∙ ap (λ (B : Tab). B.state j) (begun_tab c)

    -- the locks are taken: there is a free slot, or none
    new_rest : (vs : List ℕ) → Mid (new_acts p d) n 2 vs → LocksOnly us vs → Comes (Fate ws Insert k) vs (busy Insert k (New p d 2)) 2
    new_rest vs m o = go (ℕ_discrete (lowest_fit vs) 0)
      where
        same : tab_of vs ≡ tab_of us
        same = locks_tab us vs o

        there : Nowhere (gone_in ws) k p d (tab_of vs)
        there = subst (Nowhere (gone_in ws) k p d) (sym same) nowhere

        some : state_of vs p ≢ free
        some = grown_some there.grown p (way_reached there.way)

        go : Dec (lowest_fit vs ≡ 0) → Comes (Fate ws Insert k) vs (busy Insert k (New p d 2)) 2
        go (yes f) =
            let t : Turned (gone_in ws) k (tab_of vs) (tab_of vs) = unturned there.grown there.linked in
            let r = rests cs m (omega arith) in
            stop 1 (ends_full cs m (omega arith) p d refl some f) full_ends
            (inserted_full needs none (λ i. new_out ((set_before c same t r k).0 ((set_after c same t r k).0 i))) (others_after c same t r), calm_after c same t r)
          where
            at : (j : ℕ) → j < slots_of ws → Dec (j ≡ 0) → state_of ws j ≢ free
            at j h (yes e) q = let z = m.tame.root_data in let s = state_as o 0 in let q' : state_of ws 0 ≡ free = ap (state_of ws) (sym e) ∙ q in omega arith
            at j h (no e) q =
                false≢true (sym (none_fit vs f j (omega arith) (omega (arith, m.size, begun_size c))) ∙ fits vs j (state_as o j ∙ q))

            none : NoneFree ws
            none j h = at j h (ℕ_discrete j 0)
        go (no f) =
            let q = lowest_fit_lem vs f in
            let z = fit_free vs (lowest_fit vs) q.0 in
            let m' = take_mid cs m (omega arith) p d refl some f (λ e. right e) in
            let j = took_joins cs m (omega arith) p d refl some f in
            let r = rests cs m' (omega arith) in
            let xs = set_link (taken vs (lowest_fit vs) k) p d (lowest_fit vs) in
            let put = new_set (lowest_fit vs) k p d vs xs j (λ e. some (ap (state_of vs) (sym e) ∙ z)) in
            let t = nowhere_turned (lowest_fit vs) there put z legal in
            go_on (take_goes cs m (omega arith) p d refl some f)
            (stop 0 (ends_yes cs m' (omega arith) refl) yes_ends (
              inserted_yes new_out (λ h. h.1 (lowest_fit vs) (omega (arith, m.size, begun_size c, q.2)) (sym (state_as o (lowest_fit vs)) ∙ z))
                  ((set_after c same t.0 r k).1 t.1) (others_after c same t.0 r),
              calm_after c same t.0 r,
            ))
          where
            right : d ≡ false → p ≢ 0
            right e z = let h = nowhere.low in true≢false (sym (lt-ltb k (key_of us 0) h) ∙ ap (dir (tab_of us) k) (sym z) ∙ e)

    pub at_nothing : Comes (Fate ws Insert k) us (busy Insert k (New p d 0)) 10
    at_nothing =
        let r = way_reached w in
        loosen 4 10 (omega arith)
        (lock_all cs 2 (omega arith) (new_wants p d ((ready c).some p r) (begun_linked c p r) stops) new_rest 2 0 us refl (begun_mid c (new_acts p d)) (locks_only_refl us))
