-- The walk of a lone worker: where it ends, and that it gets there, a slot a step, with no refusal and no word changed.
-- Assumes nothing.
use mathlib.Core.Path.{◌≡◌, refl, sym, ap, ◌∙◌}
use mathlib.Core.Bool.{Bool, true, false, not, ◌&&◌, ◌||◌, false≢true}
use mathlib.Core.List.{List}
use mathlib.Core.Logic.{◌⊎◌, inl, inr, ◌≢◌}
use Prim.Native.Nat.{ℕ, zero, suc, ◌+◌, ◌≤◌, ◌<◌}
use native.Mathlib.Omega.{arith}
use native.Mathlib.Decide.{ℕ_discrete}
use lib.Dec.{eqb}
use borrow.Author.Tests.{eq-eqb, ne_eqb, lt-ltb}
use Rattle.std.specs.Prelude.{Ok}
use Rattle.moment.specs.Calendar.{moment_exists, date_exists}
use Rattle.moment.specs.Key.{legal_of, in_range, moment_of, fields_of}
use Rattle.moment.proofs.Packing.{legal_is}
use Rattle.table.specs.Pair.{free, state_f, slots_of, key_of, state_of, busy_of}
use Rattle.table.specs.Rules.{all_ones}
use Rattle.tree.specs.Reach.{Tab, tab_of, top, kid, Reached}
use Rattle.tree.specs.Walk.{dir, next, On, here, down, Way}
use Rattle.tree.proofs.Paths.{Between, via, snoc, way_reached}
use Rattle.tree.proofs.Trees.{Tree, none, node, Rooted, slots_on}
use Rattle.protocol.specs.Says.{Verdict}
use Rattle.protocol.specs.Record.{roles}
use Rattle.protocol.specs.Plan.{plan, action_at}
use Rattle.protocol.specs.Walk.{visit, onward}
use Rattle.protocol.specs.Step.{reads_fine, act_step, settled, step_of}
use Rattle.protocol.specs.declared.Kind.{Kind}
use Rattle.protocol.specs.declared.Phase.TheVariants.{Walk}
use Rattle.protocol.specs.declared.Action.TheVariants.{Visit}
use Rattle.protocol.proofs.Alone.Tame.{Tame, tame_table, tame_pair, some_in}
use Rattle.protocol.proofs.Alone.Steps.{busy, went, Comes, go_on, step_acts, record_fine_lem}
use Rattle.protocol.proofs.Alone.Locking.{loosen}

-- a legal key is smaller than the root's
pub legal_below : (k : ℕ) → legal_of k ≡ true → k < all_ones
unfolding legal_of in_range moment_exists date_exists moment_of fields_of
legal_below k e = go (ℕ_discrete k all_ones)
  where
    go : Dec (k ≡ all_ones) → k < all_ones
    go (yes z) = absurd (false≢true (rw z at e))
    go (no z) = let h = ((legal_is k).0 e).0 in omega arith

-- WHERE A WALK ENDS: on its key, or at nothing
abbrev pub Stops : Tab → ℕ → ℕ → Type 0
Stops A k y = (A.key y ≡ k) ⊎ ((k ≢ A.key y) × (next A k y ≡ 0))

tree_end : {A : Tab} {P : ℕ → Type 0} {n x lo hi : ℕ} (k : ℕ) → Tree A P n x lo hi → x ≢ 0 → (y : ℕ) × On A k y x × Stops A k y
tree_end k (none e) z = absurd (z e)
tree_end {A} k (node {x = x} z₀ p a b l r) z =
    go (ℕ_discrete (A.key x) k) (dir A k x) refl (λ m. tree_end k l m) (λ m. tree_end k r m)
  where
    End : Type 0
    End = (y : ℕ) × On A k y x × Stops A k y

    on : (d : Bool) → k ≢ A.key x → dir A k x ≡ d → Dec (A.link x d ≡ 0) → (A.link x d ≢ 0 → (y : ℕ) × On A k y (A.link x d) × Stops A k y) → End
    on d h e (yes m) i = (x, here, inr (h, ap (A.link x) e ∙ m))
    on d h e (no m) i = let (y, t, s) = i m in (y, via (A.link x d) h (ap (A.link x) e) m t, s)

    go : Dec (A.key x ≡ k) → (d : Bool) → dir A k x ≡ d → (A.link x true ≢ 0 → (y : ℕ) × On A k y (A.link x true) × Stops A k y)
        → (A.link x false ≢ 0 → (y : ℕ) × On A k y (A.link x false) × Stops A k y) → End
    go (yes h) d e i j = (x, here, inl h)
    go (no h) true e i j = on true (λ q. h (sym q)) e (ℕ_discrete (A.link x true) 0) i
    go (no h) false e i j = on false (λ q. h (sym q)) e (ℕ_discrete (A.link x false) 0) j

pub walk_end : {A : Tab} {P : ℕ → Type 0} {n : ℕ} (k : ℕ) → Rooted A P n → k < A.key 0 → (y : ℕ) × Way A k y × Stops A k y
walk_end {A} k t h = go (ℕ_discrete (A.link 0 true) 0)
  where
    other : k ≢ A.key 0
    other = omega arith

    left : next A k 0 ≡ A.link 0 true
    left = ap (A.link 0) (lt-ltb k (A.key 0) h)

    go : Dec (A.link 0 true ≡ 0) → (y : ℕ) × Way A k y × Stops A k y
    go (yes m) = (0, here, inr (other, left ∙ m))
    go (no m) = let (y, w, s) = tree_end k t.tree m in (y, via (A.link 0 true) other left m w, s)

-- WHAT THE RECORD HAS NOTED: the slot before, the one before that, and the sides
pub data Came (A : Tab) (at prev before : ℕ) (side up : Bool) : Type 0 where
  at_root_lem : at ≡ 0 → prev ≡ 0 → before ≡ 0 → Came A at prev before side up
  by_root : at ≢ 0 → prev ≡ 0 → before ≡ 0 → A.link prev side ≡ at → Came A at prev before side up
  by_two : at ≢ 0 → prev ≢ 0 → A.link prev side ≡ at → A.link before up ≡ prev → Reached A before → Came A at prev before side up

-- its slots are apart
pub came_apart : {A : Tab} → Between A → {at prev before : ℕ} (side up : Bool) → at ≢ 0 → prev ≢ 0
    → A.link prev side ≡ at → A.link before up ≡ prev → Reached A before
    → (at ≢ prev) × (at ≢ before) × (prev ≢ before)
came_apart {A} b {at} {prev} {before} side up n m e f r =
    let rp : Reached A prev = kid up r f m in
    let bm : A.link before up ≢ 0 = rw f m in
    let pm : A.link prev side ≢ 0 = rw e n in (
      (λ z. (b prev at side rp (pm, top (sym e))).0 (ap A.key z)),
      (λ z. (b before at up r (bm, rw f (kid side (top refl) e n))).0 (ap A.key z)),
      (λ z. (b before prev up r (bm, top (sym f))).0 (ap A.key z)),
    )

pub came_reached : {A : Tab} {at prev before : ℕ} {side up : Bool} → Came A at prev before side up → Reached A prev × Reached A before
came_reached (at_root_lem e f g) = (top f, top g)
came_reached (by_root n f g e) = (top f, top g)
came_reached {up = up} (by_two n m e f r) = (kid up r f m, r)

-- THE WALK. The table: one worker busy, what is reached is not free, ordered
pub record Ready (us : List ℕ) : Type 0 where
  pub tame : Tame us
  pub seat : busy_of us ≡ 1
  pub some : (y : ℕ) → Reached (tab_of us) y → state_of us y ≢ free
  pub between : Between (tab_of us)

module _ {us : List ℕ} (g : Ready us) where
  abbrev A : Tab
  A = tab_of us

  pub in_table : {y : ℕ} → Reached A y → y < slots_of us
  in_table {y} r = some_in g.tame state_f y (g.some y r)

  walk_roles : (kind : Kind) (at prev before : ℕ) (side up : Bool) → Reached A at → Came A at prev before side up
      → roles (slots_of us) kind (Walk at prev before side up) ≡ true
  unfolding roles
  walk_roles kind at prev before side up r c =
      let p = came_reached c in
      rw (lt-ltb at (slots_of us) (in_table r), lt-ltb prev (slots_of us) (in_table p.0), lt-ltb before (slots_of us) (in_table p.1)) (go c)
    where
      go : Came A at prev before side up
          → ((eqb prev 0 && eqb before 0) || ((not (eqb at 0) && true) && (not (eqb prev 0) && true) && not (eqb at prev) && not (eqb at before) && not (eqb prev before))) ≡ true
      go (at_root_lem e f h) = rw (eq-eqb prev 0 f, eq-eqb before 0 h)
      go (by_root n f h e) = rw (eq-eqb prev 0 f, eq-eqb before 0 h)
      go (by_two n m e f q) =
          let d = came_apart g.between side up n m e f q in
          rw (ne_eqb prev 0 m, ne_eqb at 0 n, ne_eqb at prev d.0, ne_eqb at before d.1, ne_eqb prev before d.2)

  module _ (kind : Kind) (k : ℕ) (legal : legal_of k ≡ true) where
    -- a visit is not refused, and changes no word
    pub visits : (at prev before : ℕ) (side up : Bool) → Way A k at → Came A at prev before side up
        → step_of us (busy kind k (Walk at prev before side up)) ≡ settled (busy kind k (Walk at prev before side up)) (Ok (visit us kind k at prev before side up)) us
    unfolding action_at plan reads_fine act_step
    visits at prev before side up w c =
        step_acts us kind k (Walk at prev before side up) (Visit at prev before side up) (tame_table g.tame)
        (record_fine_lem us kind k (Walk at prev before side up) legal (walk_roles kind at prev before side up (way_reached w) c) (let s = g.seat in λ z. omega arith))
        refl (tame_pair g.tame at (g.some at (way_reached w)))

    onwards : (at prev before : ℕ) (side up : Bool) → Way A k at → Came A at prev before side up → k ≢ key_of us at → next A k at ≢ 0
        → step_of us (busy kind k (Walk at prev before side up)) ≡ went kind k (Walk (next A k at) at prev (dir A k at) side) us
    unfolding visit onward settled
    onwards at prev before side up w c h n =
        visits at prev before side up w c ∙ rw (ne_eqb (key_of us at) k (λ e. h (sym e)), ne_eqb (next A k at) 0 n)

    came_on : (at prev before : ℕ) (side up : Bool) → Came A at prev before side up → next A k at ≢ 0 → Came A (next A k at) at prev (dir A k at) side
    came_on at prev before side up (at_root_lem e f h) n = by_root n e f refl
    came_on at prev before side up (by_root m f h e) n = by_two n m refl e (top f)
    came_on at prev before side up (by_two m p e f r) n = by_two n m refl e (kid up r f p)

    on_some : {x y : ℕ} (t : On A k y x) → 0 < slots_on t
    on_some here = omega arith
    on_some (down h n t) = omega arith

    -- TO THE END OF THE WALK, where b steps are left: a slot a step
    pub walk_on_lem : {Q : Verdict → List ℕ → Type 0} {y at : ℕ} (b : ℕ) (t : On A k y at) (prev before : ℕ) (side up : Bool) → Way A k at → Came A at prev before side up
        → ((prev before : ℕ) (side up : Bool) → Way A k y → Came A y prev before side up → Comes Q us (busy kind k (Walk y prev before side up)) b)
        → (m : ℕ) → slots_on t + b ≤ suc m → Comes Q us (busy kind k (Walk at prev before side up)) m
    walk_on_lem b here prev before side up w c rest m l = loosen b m (omega arith) (rest prev before side up w c)
    walk_on_lem b (down h n t) prev before side up w c rest zero l = let s = on_some t in absurd (omega arith)
    walk_on_lem b (down {x = at} h n t) prev before side up w c rest (suc m) l =
        go_on (onwards at prev before side up w c h n)
        (walk_on_lem b t at prev (dir A k at) side (snoc at (next A k at) w h refl n) (came_on at prev before side up c n) rest m (omega arith))
