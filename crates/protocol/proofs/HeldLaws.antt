-- Lock accounting: a lock that is given adds its weight to one word; giving up takes off exactly what was held.
-- Assumes nothing.
use mathlib.Core.Path.{◌≡◌, refl, sym, ◌∙◌}
use mathlib.Core.Bool.{Bool, true, false, cond, ◌&&◌}
use mathlib.Core.List.{List}
use mathlib.Core.Logic.{◌≢◌}
use Prim.Native.Nat.{ℕ, zero, suc, ◌+◌, ◌-◌, ◌<◌}
use native.Mathlib.Omega.{arith}
use native.Mathlib.Nat.{sub-zero}
use native.Mathlib.Decide.{ℕ_discrete}
use lib.Dec.{eqb}
use lib.ListN.{length}
use borrow.Author.Tests.{eqb-true, eq-eqb, ne_eqb, leb-false}
use Rattle.moment.proofs.Tests.{tests}
use Rattle.table.specs.Pair.{lock_f, key_of, field_of, lock_of, set_lock}
use Rattle.table.specs.Rules.{pair_fine}
use Rattle.table.specs.declared.Which.{Which}
use Rattle.table.specs.declared.Which.TheVariants.{State, Edge}
use Rattle.table.proofs.PairLaws.{Holds, field_slot, field_field, field_key, field_length}
use Rattle.table.proofs.ChangeLaws.{Only, only, fine_in, field_less}
use Rattle.protocol.specs.Plan.{action_at}
use Rattle.protocol.specs.Locks.{weight, clear, crowded, granted, release_one, released}
use Rattle.protocol.specs.declared.Phase.{Phase}
use Rattle.protocol.specs.declared.Links.{Links}
use Rattle.protocol.specs.declared.Action.{Action}
use Rattle.protocol.specs.declared.Action.TheVariants.{Visit, Look, Lock, Mark, Link, Take, End, Beyond}

-- what an action's lock weighs on a word: writer 1, reader 2
abbrev pub weighs : Action → ℕ → Which → ℕ
weighs (Visit at prev before side up) i l = 0
weighs (Look this prev side before up) i l = 0
weighs (Lock slot which write state links) i l = cond (eqb slot i && eqb (lock_f which) (lock_f l)) (weight write) 0
weighs (Mark slot to) i l = 0
weighs (Link slot side to) i l = 0
weighs (Take prev side) i l = 0
weighs End i l = 0
weighs Beyond i l = 0

-- and what is held on it after n actions
unfoldable pub held : Phase → ℕ → ℕ → Which → ℕ
held p zero i l = 0
held p (suc n) i l = held p n i l + weighs (action_at p n) i l

-- vs is ws but for locks
pub record LocksOnly (ws vs : List ℕ) : Type 0 where
  pub size : length vs ≡ length ws
  pub keys : (j : ℕ) → key_of vs j ≡ key_of ws j
  pub fields : (f j : ℕ) → ((l : Which) → f ≢ lock_f l) → field_of f vs j ≡ field_of f ws j

pub set_lock_only : (ws : List ℕ) (slot : ℕ) (which : Which) (x : ℕ) → LocksOnly ws (set_lock ws slot which x)
set_lock_only ws slot which x =
    record {
      size = field_length (lock_f which) ws slot x;
      keys = λ j. field_key (lock_f which) ws slot j x;
      fields = λ f j d. field_field f (lock_f which) ws slot j x (d which);
    }

pub locks_only_refl : (ws : List ℕ) → LocksOnly ws ws
locks_only_refl ws = record { size = refl; keys = λ j. refl; fields = λ f j d. refl }

pub locks_only_trans : {ws vs us : List ℕ} → LocksOnly ws vs → LocksOnly vs us → LocksOnly ws us
locks_only_trans a b =
    record {
      size = b.size ∙ a.size;
      keys = λ j. b.keys j ∙ a.keys j;
      fields = λ f j d. b.fields f j d ∙ a.fields f j d;
    }

-- a word of locks after a store to one: the one stored, or as it was
pub lock_stored : (ws : List ℕ) (slot : ℕ) (which : Which) (x : ℕ) (i : ℕ) (l : Which)
    → field_of (lock_f which) (set_lock ws slot which x) slot ≡ x
    → lock_of (set_lock ws slot which x) i l ≡ cond (eqb slot i && eqb (lock_f which) (lock_f l)) x (lock_of ws i l)
lock_stored ws slot which x i l s = go (ℕ_discrete slot i) (ℕ_discrete (lock_f which) (lock_f l))
  where
    go : Dec (slot ≡ i) → Dec (lock_f which ≡ lock_f l)
        → lock_of (set_lock ws slot which x) i l ≡ cond (eqb slot i && eqb (lock_f which) (lock_f l)) x (lock_of ws i l)
    go (yes e) (yes f) = simp (eq-eqb _ _ e, eq-eqb _ _ f) (rw (← e, ← f) s)
    go (yes e) (no f) = simp (eq-eqb _ _ e, ne_eqb _ _ f) (field_field (lock_f l) (lock_f which) ws slot i x (λ z. f (sym z)))
    go (no e) f = simp (ne_eqb _ _ e) (field_slot (lock_f l) (lock_f which) ws slot i x (λ z. e (sym z)))

-- Giving up

pub release_lock : (ws : List ℕ) (a : Action) (i : ℕ) (l : Which) → lock_of (release_one ws a) i l ≡ lock_of ws i l - weighs a i l
unfolding release_one
release_lock ws (Visit at prev before side up) i l = sym (sub-zero _)
release_lock ws (Look this prev side before up) i l = sym (sub-zero _)
release_lock ws (Lock slot which write state links) i l = go (ℕ_discrete slot i) (ℕ_discrete (lock_f which) (lock_f l))
  where
    x : ℕ
    x = lock_of ws slot which - weight write

    s : lock_of (set_lock ws slot which x) i l ≡ cond (eqb slot i && eqb (lock_f which) (lock_f l)) x (lock_of ws i l)
    s = lock_stored ws slot which x i l (field_less (lock_f which) ws slot x (omega arith))

    go : Dec (slot ≡ i) → Dec (lock_f which ≡ lock_f l)
        → lock_of (set_lock ws slot which x) i l ≡ lock_of ws i l - cond (eqb slot i && eqb (lock_f which) (lock_f l)) (weight write) 0
    go (yes e) (yes f) = s ∙ simp (eq-eqb _ _ e, eq-eqb _ _ f) (rw (e, f))
    go (yes e) (no f) = s ∙ simp (eq-eqb _ _ e, ne_eqb _ _ f) (sym (sub-zero _))
    go (no e) f = s ∙ simp (ne_eqb _ _ e) (sym (sub-zero _))
release_lock ws (Mark slot to) i l = sym (sub-zero _)
release_lock ws (Link slot side to) i l = sym (sub-zero _)
release_lock ws (Take prev side) i l = sym (sub-zero _)
release_lock ws End i l = sym (sub-zero _)
release_lock ws Beyond i l = sym (sub-zero _)

pub release_only : (ws : List ℕ) (a : Action) → LocksOnly ws (release_one ws a)
unfolding release_one
release_only ws (Visit at prev before side up) = locks_only_refl ws
release_only ws (Look this prev side before up) = locks_only_refl ws
release_only ws (Lock slot which write state links) = set_lock_only ws slot which (lock_of ws slot which - weight write)
release_only ws (Mark slot to) = locks_only_refl ws
release_only ws (Link slot side to) = locks_only_refl ws
release_only ws (Take prev side) = locks_only_refl ws
release_only ws End = locks_only_refl ws
release_only ws Beyond = locks_only_refl ws

-- every word of locks loses what is held on it, and nothing else changes
pub given_up_locks : (ws : List ℕ) (p : Phase) (n i : ℕ) (l : Which) → lock_of (released ws p n) i l ≡ lock_of ws i l - held p n i l
unfolding released held
given_up_locks ws p zero i l = sym (sub-zero _)
given_up_locks ws p (suc n) i l = omega (arith, release_lock (released ws p n) (action_at p n) i l, given_up_locks ws p n i l)

pub given_up_only : (ws : List ℕ) (p : Phase) (n : ℕ) → LocksOnly ws (released ws p n)
unfolding released
given_up_only ws p zero = locks_only_refl ws
given_up_only ws p (suc n) = locks_only_trans (given_up_only ws p n) (release_only (released ws p n) (action_at p n))

-- Taking

-- a lock that is given still fits its word
pub lock_holds : (l : Which) (y : ℕ) → y < 64 → Holds (lock_f l) y
lock_holds State y h = h
lock_holds (Edge true) y h = h
lock_holds (Edge false) y h = h

pub given_fits : (which : Which) (write : Bool) (x : ℕ) → clear write x ≡ true → crowded write x ≡ false → Holds (lock_f which) (x + weight write)
unfolding clear crowded
given_fits which true x c k = lock_holds which (x + 1) (omega (arith, eqb-true x _ c))
given_fits which false x c k = lock_holds which (x + 2) (omega (arith, leb-false _ x k))

-- it is one field of one slot
pub given_only : (ws : List ℕ) (slot : ℕ) (which : Which) (write : Bool) (state : ℕ) (links : Links)
    → pair_fine ws slot ≡ true → granted ws slot which write state links ≡ true → crowded write (lock_of ws slot which) ≡ false
    → Only (lock_f which) slot (lock_of ws slot which + weight write) ws (set_lock ws slot which (lock_of ws slot which + weight write))
unfolding granted
given_only ws slot which write state links p g k =
    let h = simp tests at g in
    only (lock_f which) ws slot (lock_of ws slot which + weight write) (fine_in ws slot p) (given_fits which write (lock_of ws slot which) h.1 k)

-- and that word gains its weight
pub given_locks : (ws : List ℕ) (slot : ℕ) (which : Which) (write : Bool) (state : ℕ) (links : Links) (i : ℕ) (l : Which)
    → pair_fine ws slot ≡ true → granted ws slot which write state links ≡ true → crowded write (lock_of ws slot which) ≡ false
    → lock_of (set_lock ws slot which (lock_of ws slot which + weight write)) i l ≡ lock_of ws i l + weighs (Lock slot which write state links) i l
given_locks ws slot which write state links i l p g k = go (ℕ_discrete slot i) (ℕ_discrete (lock_f which) (lock_f l))
  where
    x : ℕ
    x = lock_of ws slot which + weight write

    s : lock_of (set_lock ws slot which x) i l ≡ cond (eqb slot i && eqb (lock_f which) (lock_f l)) x (lock_of ws i l)
    s = lock_stored ws slot which x i l (given_only ws slot which write state links p g k).there

    go : Dec (slot ≡ i) → Dec (lock_f which ≡ lock_f l)
        → lock_of (set_lock ws slot which x) i l ≡ lock_of ws i l + cond (eqb slot i && eqb (lock_f which) (lock_f l)) (weight write) 0
    go (yes e) (yes f) = s ∙ simp (eq-eqb _ _ e, eq-eqb _ _ f) (rw (e, f))
    go (yes e) (no f) = s ∙ simp (eq-eqb _ _ e, ne_eqb _ _ f) (omega arith)
    go (no e) f = s ∙ simp (ne_eqb _ _ e) (omega arith)
