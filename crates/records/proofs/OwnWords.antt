-- Numbers that pass the tests of their phase are the words of the record that is read from them, and no others are.
-- Assumes nothing.
use mathlib.Core.Path.{◌≡◌, refl}
use mathlib.Core.Bool.{true, false, ◌&&◌, and-true, and-false, and_assoc}
use Prim.Native.Nat.{ℕ, ◌<◌, suc, zero}
use native.Mathlib.Omega.{arith}
use lib.Dec.{eqb, leb}
use borrow.Author.Tests.{eq-eqb, ne_eqb, lt-leb}
use Rattle.records.specs.declared.Flat.{Flat}
use Rattle.records.specs.Records.{side_number, work_number, flat_of, work_at, phase_at, worker_at, same_flat, phase_own}

-- What each word says when the record's is made again

noted : (n : ℕ) → eqb n n ≡ true
noted n = eq-eqb n n refl

beyond : (m n i : ℕ) → n < m → i < suc n → eqb m i ≡ false
beyond m n i h k = ne_eqb m i (λ e. omega (arith, h, k, e))

side_own : (n : ℕ) → eqb n (side_number (eqb n 0)) ≡ leb n 1
side_own zero = refl
side_own (suc zero) = refl
side_own (suc (suc n)) =
    let m = suc (suc n) in
    rw (beyond m 1 0 (omega arith) (omega arith), beyond m 1 1 (omega arith) (omega arith), lt-leb m 1 (omega arith))

work_own : (n : ℕ) → eqb n (work_number (work_at n)) ≡ leb n 3
unfolding work_at
work_own zero = refl
work_own (suc zero) = refl
work_own (suc (suc zero)) = refl
work_own (suc (suc (suc zero))) = refl
work_own (suc (suc (suc (suc n)))) =
    let m = suc (suc (suc (suc n))) in
    let no : (i : ℕ) → i < 4 → eqb m i ≡ false = λ i. beyond m 3 i (omega arith) in
    rw (no 1 (omega arith), no 2 (omega arith), no 3 (omega arith), no 0 (omega arith), lt-leb m 3 (omega arith))

ruleset told = (work_own, side_own, noted, and-true, and_assoc)

-- By phase: the phase's number stands in front, for the definitions to compute

abbrev flat : ℕ → ℕ → ℕ → ℕ → ℕ → ℕ → ℕ → ℕ → ℕ → ℕ → ℕ → Flat
flat n w k t p s b u o d e =
    record { work = w; key = k; phase = n; this = t; prev = p; side = s; before = b; up = u; other = o; toward = d; done = e }

by_phase : (n w k t p s b u o d e : ℕ) → let f = flat n w k t p s b u o d e in
    (leb w 3 && phase_own n t p s b u o d e) ≡ same_flat f (flat_of (worker_at f))
unfolding phase_own same_flat flat_of worker_at phase_at
by_phase zero w k t p s b u o d e = simp told
by_phase (suc zero) w k t p s b u o d e = simp told
by_phase (suc (suc zero)) w k t p s b u o d e = simp told
by_phase (suc (suc (suc zero))) w k t p s b u o d e = simp told
by_phase (suc (suc (suc (suc zero)))) w k t p s b u o d e = simp told
by_phase (suc (suc (suc (suc (suc zero))))) w k t p s b u o d e = simp told
by_phase (suc (suc (suc (suc (suc (suc zero)))))) w k t p s b u o d e = simp told
by_phase (suc (suc (suc (suc (suc (suc (suc zero))))))) w k t p s b u o d e = simp told
by_phase (suc (suc (suc (suc (suc (suc (suc (suc n)))))))) w k t p s b u o d e =
    let m = suc (suc (suc (suc (suc (suc (suc (suc n))))))) in
    let no : (i : ℕ) → i < 8 → eqb m i ≡ false = λ i. beyond m 7 i (omega arith) in
    simp (no 0 (omega arith), no 1 (omega arith), no 2 (omega arith), no 3 (omega arith), no 4 (omega arith), no 5 (omega arith), no 6 (omega arith), no 7 (omega arith), and-false)

-- the tests say exactly whether the words are those of the record that is read
pub own_same : (f : Flat)
    → (leb f.work 3 && phase_own f.phase f.this f.prev f.side f.before f.up f.other f.toward f.done)
    ≡ same_flat f (flat_of (worker_at f))
own_same f =
    by_phase f.phase f.work f.key f.this f.prev f.side f.before f.up f.other f.toward f.done
