-- The last visit of a lone worker's walk, for each kind of work, and what follows from it to the end: at most 11 steps.
-- Assumes nothing.
use mathlib.Core.Path.{◌≡◌, refl, sym, ap, ◌∙◌, subst}
use mathlib.Core.Bool.{Bool, true, false}
use mathlib.Core.List.{List}
use mathlib.Core.Logic.{inl, inr, ◌≢◌}
use Prim.Native.Nat.{ℕ}
use native.Mathlib.Omega.{arith}
use native.Mathlib.Decide.{ℕ_discrete}
use borrow.Author.Tests.{eq-eqb, ne_eqb}
use Rattle.std.specs.Prelude.{Ok}
use Rattle.moment.specs.Key.{legal_of}
use Rattle.table.specs.Pair.{as_data, routing, deleted, key_of, state_of, link_of}
use Rattle.tree.specs.Reach.{tab_of, top, kid, Reached, InSet}
use Rattle.tree.specs.Walk.{dir, next, Way}
use Rattle.tree.proofs.Paths.{way_reached, unique_key, absent}
use Rattle.protocol.specs.Says as verdict
use Rattle.protocol.specs.Walk.{removing, found, nothing, onward, visit}
use Rattle.protocol.specs.Step.{leave, settled, step_of}
use Rattle.protocol.specs.Calls.{seated}
use Rattle.protocol.specs.Alone.{Calm}
use Rattle.protocol.specs.declared.Kind.{Kind}
use Rattle.protocol.specs.declared.Kind.TheVariants.{Lookup, Insert, Remove}
use Rattle.protocol.specs.declared.Phase.TheVariants.{Walk, OnRouting, New}
use Rattle.protocol.proofs.Alone.Veil.{grown_ordered}
use Rattle.protocol.proofs.Alone.Steps.{busy, went, over, Comes, go_on, stop}
use Rattle.protocol.proofs.Alone.Walking.{legal_below, Stops, Came, at_root_lem, by_root, by_two, visits}
use Rattle.protocol.proofs.Alone.Beginning.{ready, begun_tab, begun_grown, begun_linked, leave_back}
use Rattle.protocol.proofs.Alone.Told.{yes_ends, no_ends, looked_yes, looked_no, inserted_no, removed_no}
use Rattle.protocol.proofs.Alone.Finishing.{Fate, carry}
use Rattle.protocol.proofs.Alone.Inserting.{on_routing}
use Rattle.protocol.proofs.Alone.InsertingNew.{at_nothing}
use Rattle.protocol.proofs.Alone.Removing.{live_at, was_in, remove_two}
use Rattle.protocol.proofs.Alone.RemovingOne.{remove_one}
use Rattle.protocol.proofs.Alone.RemovingLeaf.{routing_left, remove_leaf}

both_sides : (P : Bool → Type 0) → P true → P false → (d : Bool) → P d
both_sides P t f true = t
both_sides P t f false = f

module _ {ws : List ℕ} (c : Calm ws) (k : ℕ) (legal : legal_of k ≡ true) where
  abbrev us : List ℕ
  us = seated ws

  -- a work that ends in the walk leaves every word as it was before its start
  back : (kind : Kind) (v : verdict.Verdict) → Fate ws kind k v ws → Fate ws kind k v (leave us)
  back kind v f = subst (Fate ws kind k v) (sym (leave_back c)) f

  module _ (y : ℕ) (w : Way (tab_of us) k y) where
    -- a slot with the wanted key is not the root
    not_root : key_of us y ≡ k → y ≢ 0
    not_root e z = let o = (ready c).tame.ones in let h = legal_below k legal in let q : key_of us 0 ≡ k = ap (key_of us) (sym z) ∙ e in omega arith

    -- the key is out where the slot is not data, and where the walk ends at nothing
    not_data : key_of us y ≡ k → state_of us y ≢ as_data → InSet ws k → ⊥
    not_data e s i =
        let (x, m, t, f, r) = (carry (begun_tab c) k).1 i in
        let q : x ≡ y = unique_key (grown_ordered (begun_grown c)) r (way_reached w) (f ∙ sym e) in
        s (ap (state_of us) (sym q) ∙ t)

    not_there : k ≢ key_of us y → next (tab_of us) k y ≡ 0 → InSet ws k → ⊥
    not_there h n i =
        let (x, m, t, f, r) = (carry (begun_tab c) k).1 i in
        absent (grown_ordered (begun_grown c)) w (λ z. h (sym z)) n r f

    is_routing : state_of us y ≢ as_data → state_of us y ≡ routing
    is_routing s = routing_left (state_of us y) (live_at c k legal y (way_reached w)) s

    module _ (p q : ℕ) (d u : Bool) (came : Came (tab_of us) y p q d u) where
      -- LOOKUP: Yes exactly on a data slot, else No
      lookup_yes : key_of us y ≡ k → state_of us y ≡ as_data → step_of us (busy Lookup k (Walk y p q d u)) ≡ over verdict.yes (leave us)
      unfolding visit found settled
      lookup_yes e s = visits (ready c) Lookup k legal y p q d u w came ∙ rw (eq-eqb (key_of us y) k e, eq-eqb (state_of us y) as_data s)

      lookup_no : key_of us y ≡ k → state_of us y ≢ as_data → step_of us (busy Lookup k (Walk y p q d u)) ≡ over verdict.no (leave us)
      unfolding visit found settled
      lookup_no e s = visits (ready c) Lookup k legal y p q d u w came ∙ rw (eq-eqb (key_of us y) k e, ne_eqb (state_of us y) as_data s)

      lookup_none : k ≢ key_of us y → next (tab_of us) k y ≡ 0 → step_of us (busy Lookup k (Walk y p q d u)) ≡ over verdict.no (leave us)
      unfolding visit onward nothing settled
      lookup_none h n = visits (ready c) Lookup k legal y p q d u w came ∙ rw (ne_eqb (key_of us y) k (λ e. h (sym e)), eq-eqb (next (tab_of us) k y) 0 n)

      lookup_ends : Stops (tab_of us) k y → Comes (Fate ws Lookup k) us (busy Lookup k (Walk y p q d u)) 11
      lookup_ends (inl e) = go (ℕ_discrete (state_of us y) as_data)
        where
          go : Dec (state_of us y ≡ as_data) → Comes (Fate ws Lookup k) us (busy Lookup k (Walk y p q d u)) 11
          go (yes s) = stop 10 (lookup_yes e s) yes_ends (back Lookup verdict.yes (looked_yes (was_in c k legal y w e s (not_root e)), c))
          go (no s) = stop 10 (lookup_no e s) no_ends (back Lookup verdict.no (looked_no (not_data e s), c))
      lookup_ends (inr (h, n)) = stop 10 (lookup_none h n) no_ends (back Lookup verdict.no (looked_no (not_there h n), c))

      -- INSERT on a slot: data, No; routing, on. At nothing: on
      insert_no : key_of us y ≡ k → state_of us y ≡ as_data → step_of us (busy Insert k (Walk y p q d u)) ≡ over verdict.no (leave us)
      unfolding visit found settled
      insert_no e s = visits (ready c) Insert k legal y p q d u w came ∙ rw (eq-eqb (key_of us y) k e, eq-eqb (state_of us y) as_data s)

      insert_routing : key_of us y ≡ k → state_of us y ≢ as_data → step_of us (busy Insert k (Walk y p q d u)) ≡ went Insert k (OnRouting y 0) us
      unfolding visit found settled
      insert_routing e s =
          visits (ready c) Insert k legal y p q d u w came
          ∙ rw (eq-eqb (key_of us y) k e, ne_eqb (state_of us y) as_data s, ne_eqb (state_of us y) deleted (begun_linked c y (way_reached w)))

      insert_new : k ≢ key_of us y → next (tab_of us) k y ≡ 0 → step_of us (busy Insert k (Walk y p q d u)) ≡ went Insert k (New y (dir (tab_of us) k y) 0) us
      unfolding visit onward nothing settled
      insert_new h n = visits (ready c) Insert k legal y p q d u w came ∙ rw (ne_eqb (key_of us y) k (λ e. h (sym e)), eq-eqb (next (tab_of us) k y) 0 n)

      insert_ends : Stops (tab_of us) k y → Comes (Fate ws Insert k) us (busy Insert k (Walk y p q d u)) 11
      insert_ends (inl e) = go (ℕ_discrete (state_of us y) as_data)
        where
          go : Dec (state_of us y ≡ as_data) → Comes (Fate ws Insert k) us (busy Insert k (Walk y p q d u)) 11
          go (yes s) = stop 10 (insert_no e s) no_ends (back Insert verdict.no (inserted_no (was_in c k legal y w e s (not_root e)), c))
          go (no s) = go_on (insert_routing e s) (on_routing c k legal y w e (is_routing s) (not_root e))
      insert_ends (inr (h, n)) = go_on (insert_new h n) (at_nothing c k legal y w h n)

      -- REMOVE: No unless a data slot; else its links decide the case
      remove_no : key_of us y ≡ k → state_of us y ≢ as_data → step_of us (busy Remove k (Walk y p q d u)) ≡ over verdict.no (leave us)
      unfolding visit found settled
      remove_no e s = visits (ready c) Remove k legal y p q d u w came ∙ rw (eq-eqb (key_of us y) k e, ne_eqb (state_of us y) as_data s)

      remove_none : k ≢ key_of us y → next (tab_of us) k y ≡ 0 → step_of us (busy Remove k (Walk y p q d u)) ≡ over verdict.no (leave us)
      unfolding visit onward nothing settled
      remove_none h n = visits (ready c) Remove k legal y p q d u w came ∙ rw (ne_eqb (key_of us y) k (λ e. h (sym e)), eq-eqb (next (tab_of us) k y) 0 n)

      above : y ≢ 0 → Reached (tab_of us) p × (link_of us p d ≡ y)
      above z = go came
        where
          go : Came (tab_of us) y p q d u → Reached (tab_of us) p × (link_of us p d ≡ y)
          go (at_root_lem i f g) = absurd (z i)
          go (by_root i f g l) = (top f, l)
          go (by_two i m f g r) = (kid u r g m, f)

      module _ (e : key_of us y ≡ k) (s : state_of us y ≡ as_data) where
        z : y ≢ 0
        z = not_root e

        remove_steps : step_of us (busy Remove k (Walk y p q d u)) ≡ settled (busy Remove k (Walk y p q d u)) (Ok (removing (link_of us y true) (link_of us y false) y p q d u)) us
        unfolding visit found
        remove_steps = visits (ready c) Remove k legal y p q d u w came ∙ rw (eq-eqb (key_of us y) k e, eq-eqb (state_of us y) as_data s)

        remove_cases : Dec (link_of us y true ≡ 0) → Dec (link_of us y false ≡ 0) → Comes (Fate ws Remove k) us (busy Remove k (Walk y p q d u)) 11
        unfolding removing settled
        remove_cases (yes l) (yes r) =
            go_on (remove_steps ∙ rw (eq-eqb (link_of us y true) 0 l, eq-eqb (link_of us y false) 0 r))
            (remove_leaf c k legal y w e s z (both_sides (λ t. link_of us y t ≡ 0) l r) p q d u came)
        remove_cases (yes l) (no r) =
            go_on (remove_steps ∙ rw (eq-eqb (link_of us y true) 0 l, ne_eqb (link_of us y false) 0 r))
            (remove_one c k legal y w e s z p d (above z).0 (above z).1 (link_of us y false) false refl r l)
        remove_cases (no l) (yes r) =
            go_on (remove_steps ∙ rw (ne_eqb (link_of us y true) 0 l, eq-eqb (link_of us y false) 0 r))
            (remove_one c k legal y w e s z p d (above z).0 (above z).1 (link_of us y true) true refl l r)
        remove_cases (no l) (no r) =
            go_on (remove_steps ∙ rw (ne_eqb (link_of us y true) 0 l, ne_eqb (link_of us y false) 0 r))
            (remove_two c k legal y w e s z (both_sides (λ t. link_of us y t ≢ 0) l r))

      remove_ends : Stops (tab_of us) k y → Comes (Fate ws Remove k) us (busy Remove k (Walk y p q d u)) 11
      remove_ends (inl e) = go (ℕ_discrete (state_of us y) as_data)
        where
          go : Dec (state_of us y ≡ as_data) → Comes (Fate ws Remove k) us (busy Remove k (Walk y p q d u)) 11
          go (yes s) = remove_cases e s (ℕ_discrete (link_of us y true) 0) (ℕ_discrete (link_of us y false) 0)
          go (no s) = stop 10 (remove_no e s) no_ends (back Remove verdict.no (removed_no (not_data e s), c))
      remove_ends (inr (h, n)) = stop 10 (remove_none h n) no_ends (back Remove verdict.no (removed_no (not_there h n), c))

      -- EVERY KIND OF WORK
      pub work_ends : (kind : Kind) → Stops (tab_of us) k y → Comes (Fate ws kind k) us (busy kind k (Walk y p q d u)) 11
      work_ends Lookup t = lookup_ends t
      work_ends Insert t = insert_ends t
      work_ends Remove t = remove_ends t
