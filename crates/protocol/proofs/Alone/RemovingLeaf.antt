-- A lone remover of a leaf: it looks at previous, which is data, or routing; under a routing slot both go. Assumes nothing.
use mathlib.Core.Path.{◌≡◌, refl, sym, ap, ◌∙◌, subst}
use mathlib.Core.Bool.{Bool, true, false, not, true≢false}
use mathlib.Core.List.{List, [], ◌∷◌}
use mathlib.Core.Logic.{◌≢◌}
use Prim.Native.Nat.{ℕ, zero, suc, ◌<◌}
use native.Mathlib.Omega.{arith}
use native.Mathlib.Decide.{ℕ_discrete}
use native.Mathlib.Numerals.{add-one}
use lib.ListN.{get_or}
use borrow.Author.Tests.{eq-eqb, ne_eqb, lt-ltb}
use Rattle.std.specs.Prelude.{Ok}
use Rattle.moment.specs.Key.{legal_of}
use Rattle.table.specs.Pair.{free, as_data, routing, deleted, state_f, lock_f, slots_of, key_of, state_of, link_of, set_state, set_link}
use Rattle.table.specs.declared.Which.TheVariants.{Edge}
use Rattle.tree.specs.Reach.{Tab, tab_of, top, kid, Reached}
use Rattle.tree.specs.Walk.{Way}
use Rattle.tree.proofs.Paths.{way_reached, unique_parent}
use Rattle.protocol.specs.Plan.{write_edge, read_edge, write_state, plan, action_at}
use Rattle.protocol.specs.Record.{roles}
use Rattle.protocol.specs.Locks.{state_fits, links_fit}
use Rattle.protocol.specs.Walk.{look, under}
use Rattle.protocol.specs.Step.{reads_fine, act_step, settled, step_of}
use Rattle.protocol.specs.Calls.{seated}
use Rattle.protocol.specs.Alone.{Calm}
use Rattle.protocol.specs.declared.Kind.TheVariants.{Remove}
use Rattle.protocol.specs.declared.Phase.TheVariants.{Leaf, UnderData, UnderRouting}
use Rattle.protocol.specs.declared.Links.TheVariants.{Any, Neither}
use Rattle.protocol.specs.declared.Action.{Action}
use Rattle.protocol.specs.declared.Action.TheVariants.{Look, Mark, Link, End, Beyond}
use Rattle.protocol.proofs.HeldLaws.{LocksOnly, locks_only_refl}
use Rattle.protocol.proofs.Words.{locks_tab, state_set, link_set}
use Rattle.protocol.proofs.Paths.Shape.{Live}
use Rattle.protocol.proofs.Alone.Tame.{tame_table, tame_pair, tame_slots}
use Rattle.protocol.proofs.Alone.Changes.{state_only, link_only}
use Rattle.protocol.proofs.Alone.Veil.{grown_ordered, grown_two}
use Rattle.protocol.proofs.Alone.Calmness.{gone_in}
use Rattle.protocol.proofs.Alone.Steps.{busy, went, Comes, go_on, stop, step_acts, record_fine_lem}
use Rattle.protocol.proofs.Alone.Doing.{Case, Mid, mark_goes, mark_mid, link_goes, link_mid, rests, ends_yes}
use Rattle.protocol.proofs.Alone.Locking.{loosen, Wanted, lock_all, state_stays}
use Rattle.protocol.proofs.Alone.Walking.{in_table, Came, at_root_lem, by_root, by_two, came_apart}
use Rattle.protocol.proofs.Alone.Beginning.{ready, begun_grown, begun_linked}
use Rattle.protocol.proofs.Alone.Told.{yes_ends, removed_yes}
use Rattle.protocol.proofs.Alone.Finishing.{Fate, begun_mid, calm_after, set_after, others_after}
use Rattle.protocol.proofs.Alone.Inserting.{edge_state}
use Rattle.protocol.proofs.Alone.Cutting.{OnData, both_turned}
use Rattle.protocol.proofs.Alone.Removing.{live_at, on_data, was_in}
use Rattle.protocol.proofs.Alone.RemovingOne.{remove_under_data}

-- the links from q to p and from p to the leaf y and to its other child x
record Twice (D : ℕ → Bool) (k y p : ℕ) (d : Bool) (q : ℕ) (u : Bool) (x : ℕ) (B : Tab) : Type 0 where
  ends : OnData D k y B
  up : B.link q u ≡ p
  down : B.link p d ≡ y
  across : B.link p (not d) ≡ x
  bare : (t : Bool) → B.link y t ≡ 0
  live : Live B q
  routes : B.state p ≡ routing

abbrev under_acts : ℕ → ℕ → Bool → ℕ → Bool → ℕ → List Action
under_acts y p d q u x =
    write_edge p d y ∷ write_state y as_data Neither ∷ read_edge p (not d) x ∷ write_edge q u p ∷ write_state p routing Any
    ∷ Mark y deleted ∷ Mark p deleted ∷ Link q u x ∷ End ∷ []

two_edges : (d : Bool) → lock_f (Edge d) ≢ lock_f (Edge (not d))
two_edges true = omega arith
two_edges false = omega arith

other_side : (d : Bool) → d ≢ not d
other_side true e = absurd (true≢false e)
other_side false e = absurd (true≢false (sym e))

-- data or routing, and not data
pub routing_left : (v : ℕ) → (0 < v) × (v < 3) → v ≢ as_data → v ≡ routing
routing_left v h n = omega arith

module _ {ws : List ℕ} (c : Calm ws) (k : ℕ) (legal : legal_of k ≡ true) where
  abbrev us : List ℕ
  us = seated ws

  abbrev n : ℕ
  n = slots_of us

  module _ (y : ℕ) (w : Way (tab_of us) k y) (e : key_of us y ≡ k) (s : state_of us y ≡ as_data) (z : y ≢ 0) (bare : (t : Bool) → link_of us y t ≡ 0)
      (p q : ℕ) (d u : Bool) where
    -- UNDER A ROUTING SLOT
    module _ (pz : p ≢ 0) (down : link_of us p d ≡ y) (up : link_of us q u ≡ p) (rq : Reached (tab_of us) q) (sp : state_of us p ≡ routing) where
      abbrev x : ℕ
      x = link_of us p (not d)

      rp : Reached (tab_of us) p
      rp = kid u rq up pz

      xz : x ≢ 0
      xz = grown_two (begun_grown c) p (not d) rp sp

      kin : (y ≢ p) × (y ≢ q) × (p ≢ q)
      kin = came_apart (ready c).between d u z pz down up rq

      across : (x ≢ p) × (x ≢ q) × (p ≢ q)
      across = came_apart (ready c).between (not d) u xz pz refl up rq

      yx : y ≢ x
      yx i = other_side d (unique_parent (grown_ordered (begun_grown c)) d (not d) rp rp down (sym i) z).1

      under_case : Case Remove k n (λ i. UnderRouting y p d q u x i) (under_acts y p d q u x)
      unfolding roles plan
      under_case =
          record {
            legal = legal;
            fit = λ i j. rw (
              ne_eqb y 0 z,
              lt-ltb y n (in_table (ready c) (way_reached w)),
              ne_eqb p 0 pz,
              lt-ltb p n (in_table (ready c) rp),
              lt-ltb q n (in_table (ready c) rq),
              ne_eqb x 0 xz,
              lt-ltb x n (in_table (ready c) (kid (not d) rp refl xz)),
              ne_eqb y p kin.0,
              ne_eqb y q kin.1,
              ne_eqb y x yx,
              ne_eqb p q kin.2,
              ne_eqb p x (λ i. across.0 (sym i)),
              ne_eqb q x (λ i. across.1 (sym i)),
              lt-ltb i 9 j,
            );
            done = λ i. refl;
            next = λ i. ap (λ (m : ℕ). UnderRouting y p d q u x m) (add-one i);
            same = λ i. refl;
            sole = (
              (
                (λ i f. absurd (kin.0 (sym f))),
                (
                  (λ i f. absurd (two_edges d i)),
                  (
                    (λ i f. absurd (kin.2 f)),
                    ((λ i f. absurd (edge_state d i)), ((λ i f. i), ((λ i f. i), ((λ i f. i), ((λ i f. i), tt))))),
                  ),
                ),
              ),
              (
                ((λ i f. absurd (kin.0 f)), ((λ i f. absurd (kin.1 f)), ((λ i f. absurd (kin.0 f)), ((λ i f. i), ((λ i f. i), ((λ i f. i), ((λ i f. i), tt))))))),
                (
                  ((λ i f. absurd (kin.2 f)), ((λ i f. absurd (edge_state (not d) i)), ((λ i f. i), ((λ i f. i), ((λ i f. i), ((λ i f. i), tt)))))),
                  (
                    ((λ i f. absurd (kin.2 (sym f))), ((λ i f. i), ((λ i f. i), ((λ i f. i), ((λ i f. i), tt))))),
                    (
                      ((λ i f. i), ((λ i f. i), ((λ i f. i), ((λ i f. i), tt)))),
                      (((λ i f. refl), ((λ i f. refl), ((λ i f. refl), tt))), (((λ i f. refl), ((λ i f. refl), tt)), (((λ i f. refl), tt), (tt, tt)))),
                    ),
                  ),
                ),
              ),
            );
          }

      under_wants : (i : ℕ) → i < 5 → Wanted us (get_or (under_acts y p d q u x) i Beyond)
      unfolding state_fits links_fit
      under_wants zero h = ((ready c).some p rp, rw (ne_eqb (state_of us p) deleted (begun_linked c p rp)), eq-eqb (link_of us p d) y down)
      under_wants (suc zero) h = ((λ i. omega arith), eq-eqb (state_of us y) as_data s, rw (eq-eqb (link_of us y true) 0 (bare true), eq-eqb (link_of us y false) 0 (bare false)))
      under_wants (suc (suc zero)) h = ((ready c).some p rp, rw (ne_eqb (state_of us p) deleted (begun_linked c p rp)), eq-eqb x x refl)
      under_wants (suc (suc (suc zero))) h = ((ready c).some q rq, rw (ne_eqb (state_of us q) deleted (begun_linked c q rq)), eq-eqb (link_of us q u) p up)
      under_wants (suc (suc (suc (suc zero)))) h = ((ready c).some p rp, eq-eqb (state_of us p) routing sp, refl)
      under_wants (suc (suc (suc (suc (suc i))))) h = absurd (omega arith)

      right : u ≡ false → q ≢ 0
      right a b = pz (sym up ∙ ap (link_of us q) a ∙ ap (λ (j : ℕ). link_of us j false) b ∙ (ready c).tame.right)

      twice : Twice (gone_in ws) k y p d q u x (tab_of us)
      twice =
          record { ends = on_data c k legal y w e s z; up = up; down = down; across = refl; bare = bare; live = live_at c k legal q rq; routes = sp }

      under_rest : (vs : List ℕ) → Mid (under_acts y p d q u x) n 5 vs → LocksOnly us vs → Comes (Fate ws Remove k) vs (busy Remove k (UnderRouting y p d q u x 5)) 4
      under_rest vs m o =
          let v = twice.live in
          let some : state_of vs y ≢ free = rw (state_stays o y) (λ i. omega arith) in
          let xs = set_state vs y deleted in
          let only₁ = state_only m.tame y deleted some (omega arith) in
          let m₁ = mark_mid under_case m (omega arith) y deleted refl some z (omega arith) (omega arith) in
          let some₁ : state_of xs p ≢ free = rw (only₁.slots state_f p (λ i. kin.0 (sym i)), state_stays o p) (λ i. omega arith) in
          let zs = set_state xs p deleted in
          let only₂ = state_only m₁.tame p deleted some₁ (omega arith) in
          let m₂ = mark_mid under_case m₁ (omega arith) p deleted refl some₁ pz (omega arith) (omega arith) in
          let some₂ : state_of zs q ≢ free = rw (only₂.slots state_f q (λ i. kin.2 (sym i)), only₁.slots state_f q (λ i. kin.1 (sym i)), state_stays o q) (λ i. omega arith) in
          let h : x < slots_of zs = rw m₂.size (in_table (ready c) (kid (not d) rp refl xz)) in
          let only₃ = link_only m₂.tame q u x some₂ h in
          let m₃ = link_mid under_case m₂ (omega arith) q u x refl some₂ h right in
          let same = locks_tab us vs o in
          let g : Twice (gone_in ws) k y p d q u x (tab_of vs) = subst (Twice (gone_in ws) k y p d q u x) (sym same) twice in
          let r = rests under_case m₃ (omega arith) in
          let t = both_turned g.ends {d = d} (state_set y deleted vs xs only₁) (state_set p deleted xs zs only₂) (link_set q u x zs (set_link zs q u x) only₃)
          g.up g.down g.across g.bare g.live g.routes pz (λ i. kin.0 (sym i)) (λ i. kin.1 (sym i)) (λ i. kin.2 (sym i)) (λ i. yx (sym i)) xz in
          go_on (mark_goes under_case m (omega arith) y deleted refl some)
          (go_on (mark_goes under_case m₁ (omega arith) p deleted refl some₁)
          (go_on (link_goes under_case m₂ (omega arith) q u x refl some₂)
          (stop 0 (ends_yes under_case m₃ (omega arith) refl) yes_ends
          (removed_yes (was_in c k legal y w e s z) (λ i. t.1 ((set_after c same t.0 r k).0 i)) (others_after c same t.0 r), calm_after c same t.0 r))))

      remove_under_routing : Comes (Fate ws Remove k) us (busy Remove k (UnderRouting y p d q u x 0)) 9
      remove_under_routing = lock_all under_case 5 (omega arith) under_wants under_rest 5 0 us refl (begun_mid c (under_acts y p d q u x)) (locks_only_refl us)

    -- THE LOOK AT PREVIOUS
    module _ (came : Came (tab_of us) y p q d u) where
      leaf_roles : roles n Remove (Leaf y p d q u) ≡ true
      unfolding roles
      leaf_roles = go came
        where
          inside : y < n
          inside = in_table (ready c) (way_reached w)

          go : Came (tab_of us) y p q d u → roles n Remove (Leaf y p d q u) ≡ true
          go (at_root_lem i f g) = absurd (z i)
          go (by_root i f g l) =
              let a = tame_slots (ready c).tame in
              rw (f, g, ne_eqb y 0 z, lt-ltb y n inside, lt-ltb 0 n (omega arith))
          go (by_two i m f g r) =
              let a = came_apart (ready c).between d u i m f g r in
              rw (
                ne_eqb y 0 z,
                lt-ltb y n inside,
                lt-ltb p n (in_table (ready c) (kid u r g m)),
                lt-ltb q n (in_table (ready c) r),
                ne_eqb y p a.0,
                ne_eqb y q a.1,
                ne_eqb p 0 m,
                ne_eqb p q a.2,
              )

      looks : Reached (tab_of us) p → step_of us (busy Remove k (Leaf y p d q u)) ≡ settled (busy Remove k (Leaf y p d q u)) (Ok (look us y p d q u)) us
      unfolding action_at plan reads_fine act_step
      looks rp =
          step_acts us Remove k (Leaf y p d q u) (Look y p d q u) (tame_table (ready c).tame)
          (record_fine_lem us Remove k (Leaf y p d q u) legal leaf_roles (let b = (ready c).seat in λ i. omega arith)) refl (tame_pair (ready c).tame p ((ready c).some p rp))

      looks_data : Reached (tab_of us) p → state_of us p ≡ as_data → step_of us (busy Remove k (Leaf y p d q u)) ≡ went Remove k (UnderData y p d 0) us
      unfolding look under settled
      looks_data rp sp = looks rp ∙ rw (ne_eqb (state_of us p) deleted (begun_linked c p rp), eq-eqb (state_of us p) as_data sp)

      looks_routing : Reached (tab_of us) p → state_of us p ≢ as_data → link_of us p (not d) ≢ 0
          → step_of us (busy Remove k (Leaf y p d q u)) ≡ went Remove k (UnderRouting y p d q u (link_of us p (not d)) 0) us
      unfolding look under settled
      looks_routing rp sp xz =
          looks rp ∙ rw (ne_eqb (state_of us p) deleted (begun_linked c p rp), ne_eqb (state_of us p) as_data sp, ne_eqb (link_of us p (not d)) 0 xz)

      pub remove_leaf : Comes (Fate ws Remove k) us (busy Remove k (Leaf y p d q u)) 10
      remove_leaf = go came (ℕ_discrete (state_of us p) as_data)
        where
          on_data_slot : Reached (tab_of us) p → link_of us p d ≡ y → state_of us p ≡ as_data → Comes (Fate ws Remove k) us (busy Remove k (Leaf y p d q u)) 10
          on_data_slot rp was sp =
              loosen 7 10 (omega arith) (go_on (looks_data rp sp) (remove_under_data c k legal y w e s z p d rp was bare sp))

          go : Came (tab_of us) y p q d u → Dec (state_of us p ≡ as_data) → Comes (Fate ws Remove k) us (busy Remove k (Leaf y p d q u)) 10
          go (at_root_lem i f g) t = absurd (z i)
          go (by_root i f g l) t = on_data_slot (top f) l (ap (state_of us) f ∙ (ready c).tame.root_data)
          go (by_two i m f g r) (yes t) = on_data_slot (kid u r g m) f t
          go (by_two i m f g r) (no t) =
              let rp : Reached (tab_of us) p = kid u r g m in
              let v = live_at c k legal p rp in
              let sp : state_of us p ≡ routing = routing_left (state_of us p) v t in
              go_on (looks_routing rp t (grown_two (begun_grown c) p (not d) rp sp)) (remove_under_routing m f g r sp)
