-- 9 WHEN, AND ONLY WHEN, a read lock is wanted, the expectation holds and 16 readers hold the word.
-- Assumes nothing.
use mathlib.Core.Path.{◌≡◌, refl, ap}
use mathlib.Core.Bool.{Bool, true, false, ◌&&◌, false≢true}
use mathlib.Core.List.{List}
use mathlib.Core.Logic.{◌⊎◌, inl, inr}
use Prim.Native.Nat.{ℕ, ◌%◌, ◌≤◌}
use lib.Dec.{leb, eqb}
use native.Mathlib.Omega.{arith}
use borrow.Author.Tests.{leb-true, eqb-true}
use Rattle.moment.proofs.Tests.{tests, either}
use Rattle.table.specs.Pair.{state_of, lock_of}
use Rattle.table.specs.Rules.{lock_fine, bits_fine, pair_fine}
use Rattle.table.specs.declared.Which.{Which}
use Rattle.table.specs.declared.Which.TheVariants.{State, Edge}
use Rattle.protocol.specs.Locks.{Did, stopped, state_fits, links_fit, clear, crowded, granted, lock_step}
use Rattle.protocol.specs.declared.Phase.{Phase}
use Rattle.protocol.specs.declared.Links.{Links}
use Rattle.std.specs.Prelude.{Err}
use Rattle.refusal.specs.declared.Refusal.TheVariants.{Readers}
use Rattle.refusal.specs.Said.{judged}
use Rattle.protocol.proofs.Ends.{lock_ends}

pub nine_when : (ws : List ℕ) (p : Phase) (n : ℕ) (next : Phase) (slot : ℕ) (which : Which) (state : ℕ) (links : Links)
    → state_fits state (state_of ws slot) ≡ true → links_fit ws slot links ≡ true → lock_of ws slot which ≡ 32
    → lock_step ws p n next slot which false state links ≡ stopped Readers ws
unfolding lock_step granted clear crowded
nine_when ws p n next slot which state links s l x = rw (s, l, x)

-- the lock of a pair that is fine is fine
lock_fine_lem : (ws : List ℕ) (slot : ℕ) (which : Which) → pair_fine ws slot ≡ true → lock_fine (lock_of ws slot which) ≡ true
unfolding pair_fine bits_fine
lock_fine_lem ws slot State e = let h = simp tests at e in h.1.0.0.0.0.1
lock_fine_lem ws slot (Edge true) e = let h = simp tests at e in h.1.0.0.0.1
lock_fine_lem ws slot (Edge false) e = let h = simp tests at e in h.1.0.0.1

sixteen : (x : ℕ) → lock_fine x ≡ true → 32 ≤ x → x ≡ 32
unfolding lock_fine
sixteen x e h = go (either (eqb x 1) (eqb (x % 2) 0 && leb x 32) e)
  where
    go : (eqb x 1 ≡ true) ⊎ ((eqb (x % 2) 0 && leb x 32) ≡ true) → x ≡ 32
    go (inl a) = let b : x ≡ 1 = eqb-true x 1 a in absurd (omega arith)
    go (inr a) = let b = simp tests at a in let c : x ≤ 32 = b.1 in omega arith

pub record Nine (ws : List ℕ) (slot : ℕ) (which : Which) (write : Bool) (state : ℕ) (links : Links) : Type 0 where
  pub reads : write ≡ false
  pub state_fits_lem : state_fits state (state_of ws slot) ≡ true
  pub links_fit_lem : links_fit ws slot links ≡ true
  pub readers : lock_of ws slot which ≡ 32

pub nine : (ws : List ℕ) (slot : ℕ) (which : Which) (write : Bool) (state : ℕ) (links : Links) → pair_fine ws slot ≡ true
    → granted ws slot which write state links ≡ true → crowded write (lock_of ws slot which) ≡ true → Nine ws slot which write state links
unfolding granted crowded
nine ws slot which true state links f g c = absurd (false≢true c)
nine ws slot which false state links f g c =
    let h = simp tests at g in
    record { reads = refl; state_fits_lem = h.0.0; links_fit_lem = h.0.1; readers = sixteen _ (lock_fine_lem ws slot which f) (leb-true _ _ c) }

pub nine_only : (ws : List ℕ) (p : Phase) (n : ℕ) (next : Phase) (slot : ℕ) (which : Which) (write : Bool) (state : ℕ) (links : Links)
    → pair_fine ws slot ≡ true → (lock_step ws p n next slot which write state links).said ≡ Err Readers → Nine ws slot which write state links
nine_only ws p n next slot which write state links f =
    lock_ends (λ (d : Did). d.said ≡ Err Readers → Nine ws slot which write state links) ws p n next slot which write state links
    (λ g c e. let z = ap judged e in absurd (omega arith))
    (λ g c e. nine ws slot which write state links f g c)
    (λ g h e. let z = ap judged e in absurd (omega arith))
    (λ g h e. let z = ap judged e in absurd (omega arith))
