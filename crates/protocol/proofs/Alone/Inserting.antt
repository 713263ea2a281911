-- A lone insert whose walk ended on a routing slot with its key: the slot becomes data. Assumes nothing.
use mathlib.Core.Path.{◌≡◌, refl, sym, ap, ◌∙◌, subst}
use mathlib.Core.Bool.{Bool, true, false}
use mathlib.Core.List.{List, [], ◌∷◌}
use mathlib.Core.Logic.{◌≢◌}
use Prim.Native.Nat.{ℕ, zero, suc, ◌<◌}
use native.Mathlib.Omega.{arith}
use native.Mathlib.Decide.{ℕ_discrete}
use native.Mathlib.Numerals.{add-one}
use lib.ListN.{get_or}
use borrow.Author.Tests.{eq-eqb, ne_eqb, lt-ltb}
use Rattle.moment.specs.Key.{legal_of}
use Rattle.table.specs.Pair.{free, as_data, routing, deleted, lock_f, slots_of, key_of, state_of, set_state}
use Rattle.table.specs.declared.Which.TheVariants.{State, Edge}
use Rattle.tree.specs.Reach.{Tab, tab_of, Reached, Has, InSet}
use Rattle.tree.specs.Walk.{Way}
use Rattle.tree.proofs.Paths.{way_reached, unique_key}
use Rattle.protocol.specs.Plan.{write_state, plan}
use Rattle.protocol.specs.Record.{roles}
use Rattle.protocol.specs.Locks.{state_fits, links_fit}
use Rattle.protocol.specs.Calls.{seated}
use Rattle.protocol.specs.Alone.{Calm, Needs, NoneFree}
use Rattle.protocol.specs.declared.Kind.TheVariants.{Insert}
use Rattle.protocol.specs.declared.Phase.TheVariants.{OnRouting}
use Rattle.protocol.specs.declared.Links.TheVariants.{Any}
use Rattle.protocol.specs.declared.Action.{Action}
use Rattle.protocol.specs.declared.Action.TheVariants.{Mark, End, Beyond}
use Rattle.protocol.proofs.HeldLaws.{LocksOnly, locks_only_refl}
use Rattle.protocol.proofs.Words.{locks_tab, state_set, SetState}
use Rattle.protocol.proofs.Paths.Stores.{Stated}
use Rattle.protocol.proofs.Alone.Veil.{Grown, grown_ordered}
use Rattle.protocol.proofs.Alone.Growing.{grown_stated, stated_back, stated_others, stated_now}
use Rattle.protocol.proofs.Alone.Changes.{state_only}
use Rattle.protocol.proofs.Alone.Calmness.{gone_in}
use Rattle.protocol.proofs.Alone.Steps.{busy, Comes, go_on, stop}
use Rattle.protocol.proofs.Alone.Doing.{Case, Mid, mark_goes, mark_mid, rests, ends_yes}
use Rattle.protocol.proofs.Alone.Locking.{loosen, Wanted, lock_all, state_stays}
use Rattle.protocol.proofs.Alone.Walking.{in_table}
use Rattle.protocol.proofs.Alone.Beginning.{ready, begun_tab, begun_grown, begun_linked}
use Rattle.protocol.proofs.Alone.Told.{yes_ends, inserted_yes}
use Rattle.protocol.proofs.Alone.Finishing.{Fate, begun_mid, Turned, carry, calm_after, set_after, others_after}

-- no deleted slot is reached
abbrev pub Linked : Tab → Type 0
Linked B = (y : ℕ) → Reached B y → B.state y ≢ deleted

-- A RECOLOURED SLOT: data or routing before and after
pub turned_state : {D : ℕ → Bool} {A B : Tab} {s v : ℕ} (g : Grown D A) → Linked A → (b : Stated A B s v) → v < 3 → Turned D (A.key s) A B
turned_state {A = A} {B = B} {s = s} {v = v} g l b h =
    record { grown = grown_stated g b; linked = λ y r. go y r (ℕ_discrete y s); others = stated_others g b }
  where
    go : (y : ℕ) → Reached B y → Dec (y ≡ s) → B.state y ≢ deleted
    go y r (yes e) = rw (e, b.there) (omega arith)
    go y r (no e) = rw (b.states y e) (l y (stated_back g b r))

-- the words of a slot's locks are apart
pub edge_state : (d : Bool) → lock_f (Edge d) ≢ lock_f State
edge_state true = omega arith
edge_state false = omega arith

-- THE ROUTING SLOT

abbrev routing_acts : ℕ → List Action
routing_acts y = write_state y routing Any ∷ Mark y as_data ∷ End ∷ []

-- what is known of the slot
record Routes (D : ℕ → Bool) (k y : ℕ) (B : Tab) : Type 0 where
  grown : Grown D B
  linked : Linked B
  key_is : B.key y ≡ k
  state_is : B.state y ≡ routing

routes_turned : {D : ℕ → Bool} {k y : ℕ} {A B : Tab} → Routes D k y A → SetState A B y as_data → y ≢ 0 → Turned D k A B × Has B k
routes_turned {D} {k} {y} {A} {B} f s n =
    let q = f.state_is in
    let b : Stated A B y as_data = record {
      still = s.still;
      there = s.there;
      states = s.states;
      live = omega arith;
      not_root = n;
      range = omega arith;
      two = λ d e. absurd (omega arith);
    } in
    (rw f.key_is at (turned_state f.grown f.linked b (omega arith)), rw f.key_is at (stated_now f.grown b refl))

module _ {ws : List ℕ} (c : Calm ws) (k : ℕ) (legal : legal_of k ≡ true) where
  abbrev us : List ℕ
  us = seated ws

  abbrev n : ℕ
  n = slots_of us

  routing_case : (y : ℕ) → y ≢ 0 → y < n → Case Insert k n (λ i. OnRouting y i) (routing_acts y)
  unfolding roles plan
  routing_case y z h =
      record {
        legal = legal;
        fit = λ i j. rw (ne_eqb y 0 z, lt-ltb y n h, lt-ltb i 3 j);
        done = λ i. refl;
        next = λ i. ap (λ (m : ℕ). OnRouting y m) (add-one i);
        same = λ i. refl;
        sole = (((λ e f. e), ((λ e f. e), tt)), (((λ e f. refl), tt), (tt, tt)));
      }

  routing_wants : (y : ℕ) → state_of us y ≡ routing → (i : ℕ) → i < 1 → Wanted us (get_or (routing_acts y) i Beyond)
  unfolding state_fits links_fit
  routing_wants y e zero h = ((λ z. omega arith), eq-eqb (state_of us y) routing e, refl)
  routing_wants y e (suc i) h = absurd (omega arith)

  -- on a routing slot the key is not in, and no free slot is needed
  module _ (y : ℕ) (w : Way (tab_of us) k y) (e : key_of us y ≡ k) (s : state_of us y ≡ routing) where
    there : Routes (gone_in ws) k y (tab_of us)
    there = record { grown = begun_grown c; linked = begun_linked c; key_is = e; state_is = s }

    not_in : InSet ws k → ⊥
    not_in i =
        let (x, m, t, f, r) = (carry (begun_tab c) k).1 i in
        let q : x ≡ y = unique_key (grown_ordered (begun_grown c)) r (way_reached w) (f ∙ sym e) in
        let t' : state_of us y ≡ as_data = ap (state_of us) (sym q) ∙ t in
        omega arith

    no_need : Needs ws k × NoneFree ws → ⊥
    no_need (i, f) =
        let (r, t, q) = subst (λ (B : Tab). Reached B y × (B.state y ≡ routing) × (B.key y ≡ k)) (begun_tab c) (way_reached w, s, e) in
        i.1 y r t q

    pub on_routing : y ≢ 0 → Comes (Fate ws Insert k) us (busy Insert k (OnRouting y 0)) 10
    on_routing z =
        loosen 3 10 (omega arith)
        (lock_all cs 1 (omega arith) (routing_wants y s) rest 1 0 us refl (begun_mid c (routing_acts y)) (locks_only_refl us))
      where
        cs : Case Insert k n (λ i. OnRouting y i) (routing_acts y)
        cs = routing_case y z (in_table (ready c) (way_reached w))

        rest : (vs : List ℕ) → Mid (routing_acts y) n 1 vs → LocksOnly us vs → Comes (Fate ws Insert k) vs (busy Insert k (OnRouting y 1)) 2
        rest vs m o =
            let some : state_of vs y ≢ free = rw (state_stays o y) (λ q. omega arith) in
            let m' = mark_mid cs m (omega arith) y as_data refl some z (omega arith) (omega arith) in
            let same = locks_tab us vs o in
            let t = routes_turned (subst (Routes (gone_in ws) k y) (sym same) there) (state_set y as_data vs (set_state vs y as_data) (state_only m.tame y as_data some (omega arith))) z in
            let r = rests cs m' (omega arith) in
            go_on (mark_goes cs m (omega arith) y as_data refl some)
            (stop 0 (ends_yes cs m' (omega arith) refl) yes_ends
            (inserted_yes not_in no_need ((set_after c same t.0 r k).1 t.1) (others_after c same t.0 r), calm_after c same t.0 r))
