-- A GOOD MOMENT: the invariant holds of the table, the locks and the records, the rest of the words is clean, the busy count is
-- the number of busy records, and their keys are legal. Then the table is sound.
-- Assumes nothing.
use mathlib.Core.Path.{◌≡◌, refl}
use mathlib.Core.Bool.{Bool, true, false, or-true, ◌||◌}
use mathlib.Core.List.{List, map}
use mathlib.Core.Logic.{◌⊎◌, ⊎_elim, ◌≢◌}
use Prim.Native.Nat.{ℕ, ◌*◌, ◌%◌, ◌≤◌, ◌<◌}
use native.Mathlib.Omega.{arith}
use native.Mathlib.Decide.{ℕ_discrete}
use lib.Dec.{eqb}
use lib.ListN.{length, get_or, get_or-map}
use borrow.Author.Tests.{eq-eqb, ne_eqb, lt-ltb, le-leb}
use Rattle.moment.specs.Key.{legal_of}
use Rattle.moment.proofs.Tests.{tests}
use Rattle.table.specs.Pair.{state_f, slots_of, field_of, state_of, link_of, lock_of, busy_of, zero_pair, busy_f}
use Rattle.table.specs.Rules.{lock_fine, bits_fine, pair_fine, root_fine, size_fine, table_fine}
use Rattle.table.specs.declared.Which.{Which}
use Rattle.table.specs.declared.Which.TheVariants.{State, Edge}
use Rattle.table.proofs.ChangeLaws.{field_in}
use Rattle.tree.specs.Reach.{tab_of}
use Rattle.tree.specs.Sound.{Sound}
use Rattle.tree.proofs.SoundPaths.{sound_from_paths}
use Rattle.protocol.specs.Step.{idle_worker}
use Rattle.protocol.specs.declared.Kind.{Kind}
use Rattle.protocol.specs.declared.Work.TheVariants.{Busy}
use Rattle.protocol.specs.declared.Worker.{Worker}
use Rattle.protocol.proofs.Paths.Shape.{Shape, reached_some}
use Rattle.protocol.proofs.Together.Sum.{sum}
use Rattle.protocol.proofs.Together.Stages.{Doing, idle, doing}
use Rattle.protocol.proofs.Together.Readers.{seat, words_le, words_even}
use Rattle.protocol.proofs.Together.Inv.{Inv}
use Rattle.protocol.proofs.Together.Clean.{Clean}

-- the records as the proof sees them
abbrev pub doings : List Worker → List Doing
doings rs = map doing rs

pub doing_at : (rs : List Worker) (a : ℕ) → get_or (doings rs) a idle ≡ doing (get_or rs a idle_worker)
doing_at rs a = get_or-map doing rs a idle_worker

abbrev pub LegalKey : Worker → Type 0
LegalKey w = (kind : Kind) → w.work ≡ Busy kind → legal_of w.key ≡ true

pub record Good (ws : List ℕ) (rs : List Worker) (O : ℕ → ℕ → Type 0) (T : ℕ → ℕ) : Type 0 where
  pub inv : Inv (slots_of ws) (tab_of ws) (lock_of ws) (doings rs) O T
  pub clean : Clean ws
  pub count : busy_of ws ≡ sum seat (doings rs)
  pub most : busy_of ws ≤ 16
  pub keys : (a : ℕ) → a < length rs → LegalKey (get_or rs a idle_worker)

-- OF ANY WORDS: the shape, the locks and the rest give the bit rules, rule 1, and a sound table
module _ (ws : List ℕ) {rho : ℕ → ℕ} (h : Shape (tab_of ws) rho) (c : Clean ws) (even : (i : ℕ) (l : Which) → (lock_of ws i l ≡ 1) ⊎ ((m : ℕ) × (lock_of ws i l ≡ 2 * m)))
    (low : (i : ℕ) (l : Which) → lock_of ws i l ≤ 32) where
  slots_some : 1 < slots_of ws
  unfolding size_fine
  slots_some = let p = simp tests at c.size in let q = p.0.1 in omega arith

  pub slot_in_lem : (x : ℕ) → state_of ws x ≢ 0 → x < slots_of ws
  slot_in_lem x n = let s = field_in state_f ws x n in omega arith

  pub link_inside : (i : ℕ) (d : Bool) → link_of ws i d < slots_of ws
  link_inside i d = go (ℕ_discrete (link_of ws i d) 0) (ℕ_discrete (state_of ws i) 0)
    where
      go : Dec (link_of ws i d ≡ 0) → Dec (state_of ws i ≡ 0) → link_of ws i d < slots_of ws
      go (yes e) q = let s = slots_some in omega arith
      go (no e) (yes q) = absurd (e (h.bare i d q))
      go (no e) (no q) = slot_in_lem (link_of ws i d) (h.rank i (link_of ws i d) d q refl e).0

  lock_fine_lem : (i : ℕ) (l : Which) → lock_fine (lock_of ws i l) ≡ true
  unfolding lock_fine
  lock_fine_lem i l = ⊎_elim
      (λ e. rw (eq-eqb _ 1 e))
      (λ e.
      let z = e.1 in
      rw (eq-eqb (lock_of ws i l % 2) 0 (omega arith), le-leb (lock_of ws i l) 32 (low i l)) (or-true (eqb (lock_of ws i l) 1)))
      (even i l)

  root_or : (i : ℕ) → (eqb i 0 || eqb (field_of busy_f ws i) 0) ≡ true
  root_or i = go (ℕ_discrete i 0)
    where
      go : Dec (i ≡ 0) → (eqb i 0 || eqb (field_of busy_f ws i) 0) ≡ true
      go (yes e) = rw (eq-eqb i 0 e)
      go (no e) = rw (c.seats i e) (or-true (eqb i 0))

  pub bits_fine_lem : (i : ℕ) → bits_fine ws i ≡ true
  unfolding bits_fine
  bits_fine_lem i =
      rw (
        lt-ltb (link_of ws i true) (slots_of ws) (link_inside i true),
        lt-ltb (link_of ws i false) (slots_of ws) (link_inside i false),
        lock_fine_lem i State,
        lock_fine_lem i (Edge true),
        lock_fine_lem i (Edge false),
        root_or i,
        c.zeros i,
      )

  pub pair_fine_lem : (i : ℕ) → state_of ws i ≢ 0 → pair_fine ws i ≡ true
  unfolding pair_fine
  pair_fine_lem i n = rw (ne_eqb (state_of ws i) 0 n, bits_fine_lem i)

  pub table_fine_lem : busy_of ws ≤ 16 → table_fine ws ≡ true
  unfolding table_fine root_fine
  table_fine_lem b = rw (c.size, c.ones, h.root_data, h.root_right, bits_fine_lem 0, le-leb (busy_of ws) 16 b)

  zero_pair_lem : (i : ℕ) → state_of ws i ≡ 0 → zero_pair ws i ≡ true
  unfolding zero_pair
  zero_pair_lem i e = rw (c.empty i 0 (omega arith) e, c.empty i 1 (omega arith) e)

  pub is_sound : Sound ws
  is_sound =
      sound_from_paths ws h.edge (λ i l. bits_fine_lem i) (λ i l e. zero_pair_lem i e) (λ y r. reached_some h r)
      (λ x d r e. h.two x d e) (λ i l s. h.alive i (⊎_elim (λ e. omega arith) (λ e. omega arith) s))
      (λ y r n. c.legal y (reached_some h r) n)

-- OF A GOOD MOMENT
module _ {ws : List ℕ} {rs : List Worker} {O : ℕ → ℕ → Type 0} {T : ℕ → ℕ} (g : Good ws rs O T) where
  pub low_locks : (i : ℕ) (l : Which) → lock_of ws i l ≤ 32
  low_locks i l = omega (arith, words_le g.inv.locked i l, g.count, g.most)

  pub even_locks : (i : ℕ) (l : Which) → (lock_of ws i l ≡ 1) ⊎ ((m : ℕ) × (lock_of ws i l ≡ 2 * m))
  even_locks i l = words_even g.inv.locked i l

  pub good_pair : (i : ℕ) → state_of ws i ≢ 0 → pair_fine ws i ≡ true
  good_pair i n = pair_fine_lem ws g.inv.shape g.clean even_locks low_locks i n

  pub good_table : table_fine ws ≡ true
  good_table = table_fine_lem ws g.inv.shape g.clean even_locks low_locks g.most

  pub good_zero : (i : ℕ) → state_of ws i ≡ 0 → zero_pair ws i ≡ true
  good_zero i e = zero_pair_lem ws g.inv.shape g.clean even_locks low_locks i e

  pub good_inside : (x : ℕ) → state_of ws x ≢ 0 → x < slots_of ws
  good_inside x n = slot_in_lem ws g.inv.shape g.clean even_locks low_locks x n

  pub good_sound : Sound ws
  good_sound = is_sound ws g.inv.shape g.clean even_locks low_locks
