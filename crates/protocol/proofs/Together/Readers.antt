-- NO LOCK WORD IS EVER OVER 32, OR ODD ABOVE 1: a worker holds at most one read lock, and at most 16 are busy.
-- Assumes nothing.
use mathlib.Core.Path.{◌≡◌, refl, sym, ap, ap₂, ◌∙◌}
use mathlib.Core.Bool.{Bool, true, false}
use mathlib.Core.List.{List, [], ◌∷◌}
use mathlib.Core.Logic.{◌⊎◌, inl, inr, ⊎_elim}
use Prim.Native.Nat.{ℕ, zero, suc, ◌+◌, ◌*◌, ◌≤◌, ◌<◌}
use native.Mathlib.Omega.{arith}
use native.Mathlib.Decide.{ℕ_discrete}
use lib.ListN.{length, get_or, take}
use Rattle.table.specs.declared.Which.{Which}
use Rattle.protocol.specs.Plan.{plan}
use Rattle.protocol.specs.Locks.{weight}
use Rattle.protocol.specs.declared.Phase.{Phase}
use Rattle.protocol.specs.declared.Phase.TheVariants.{Walk, OnRouting, New, Two, One, Leaf, UnderData, UnderRouting}
use Rattle.protocol.proofs.Together.Sum.{sum, sum_at}
use Rattle.protocol.proofs.Together.Locks.{Held, Among, which_dec, unit, unit_own, unit_other, units, Locked}
use Rattle.protocol.proofs.Together.Wishes.{Wish, locks, helds}
use Rattle.protocol.proofs.Together.Stages.{Stage, walk, look, lock, killed, killed_both, last, Doing, idle, busy, held_in, held}

abbrev pub is_read : Bool → ℕ
is_read true = 0
is_read false = 1

abbrev pub reads : List Held → ℕ
reads [] = 0
reads (h ∷ hs) = is_read h.write + reads hs

reads_take : (i : ℕ) (ls : List Wish) → reads (helds (take i ls)) ≤ reads (helds ls)
reads_take zero ls = omega arith
reads_take (suc i) [] = omega arith
reads_take (suc i) (l ∷ ls) = omega (arith, reads_take i ls)

reads_case : (c : Phase) → reads (helds (locks c)) ≤ 1
unfolding locks plan
reads_case (Walk at prev before side up) = omega arith
reads_case (OnRouting t n) = omega arith
reads_case (New p s n) = omega arith
reads_case (Two t n) = omega arith
reads_case (One t p s c cs n) = omega arith
reads_case (Leaf this prev side before up) = omega arith
reads_case (UnderData t p s n) = omega arith
reads_case (UnderRouting t p s a d o n) = omega arith

reads_in : (p : Stage) → reads (held_in p) ≤ 1
reads_in (walk a p b s0) = omega arith
reads_in (look t p b s0) = omega arith
reads_in (lock c i) = omega (arith, reads_take i (locks c), reads_case c)
reads_in (killed c) = reads_case c
reads_in (killed_both c) = reads_case c
reads_in (last c) = reads_case c

unit_read : (i : ℕ) (l : Which) (h : Held) → h.write ≡ false → unit i l h ≤ 2
unit_read i l h e = go (ℕ_discrete h.slot i) (which_dec h.which l)
  where
    go : Dec (h.slot ≡ i) → Dec (h.which ≡ l) → unit i l h ≤ 2
    go (yes f) (yes g) = rw (← f, ← g) (omega (arith, unit_own h, ap weight e))
    go (yes f) (no g) = omega (arith, unit_other i l h (λ z. g z.1))
    go (no f) g = omega (arith, unit_other i l h (λ z. f z.0))

-- of a list of locks held: one writes this word, or the readers count
abbrev Writer : ℕ → Which → List Held → Type 0
Writer i l hs = (h : Held) × Among hs h × (h.slot ≡ i) × (h.which ≡ l) × (h.write ≡ true)

writer : (i : ℕ) (l : Which) (hs : List Held) → Writer i l hs ⊎ (units i l hs ≤ 2 * reads hs)
unfolding units
writer i l [] = inr (omega arith)
writer i l (h ∷ hs) = go h.write refl (ℕ_discrete h.slot i) (which_dec h.which l) (writer i l hs)
  where
    more : (h.write ≡ false) ⊎ (unit i l h ≡ 0) → Writer i l hs ⊎ (units i l hs ≤ 2 * reads hs) → Writer i l (h ∷ hs) ⊎ (units i l (h ∷ hs) ≤ 2 * reads (h ∷ hs))
    more a (inl (g, m, e, f, w)) = inl (g, inr m, e, f, w)
    more (inl a) (inr u) = inr (omega (arith, unit_read i l h a, ap is_read a))
    more (inr a) (inr u) = inr (omega arith)

    go : (b : Bool) → h.write ≡ b → Dec (h.slot ≡ i) → Dec (h.which ≡ l) → Writer i l hs ⊎ (units i l hs ≤ 2 * reads hs)
        → Writer i l (h ∷ hs) ⊎ (units i l (h ∷ hs) ≤ 2 * reads (h ∷ hs))
    go true e (yes f) (yes g) r = inl (h, inl refl, f, g, e)
    go true e (yes f) (no g) r = more (inr (unit_other i l h (λ z. g z.1))) r
    go true e (no f) g r = more (inr (unit_other i l h (λ z. f z.0))) r
    go false e f g r = more (inl e) r

abbrev pub seat : Doing → ℕ
seat idle = 0
seat (busy j k p) = 1

-- what one worker holds of a word
worker_le : {L : ℕ → Which → ℕ} {ws : List Doing} → Locked held idle L ws → (i : ℕ) (l : Which) (a : ℕ) → a < length ws → units i l (held (get_or ws a idle)) ≤ 2 * seat (get_or ws a idle)
unfolding units
worker_le {L} {ws} k i l a b = go (get_or ws a idle) refl
  where
    go : (w : Doing) → get_or ws a idle ≡ w → units i l (held w) ≤ 2 * seat w
    go idle e = omega arith
    go (busy j x p) e = ⊎_elim
        (λ u.
        let one : L i l ≡ 1 = ap₂ L (sym u.2) (sym u.3) ∙ k.fair a u.0 b (rw e u.1) u.4 in
        omega (arith, one, k.counted i l, sum_at (λ v. units i l (held v)) ws a idle b, ap (λ (v : Doing). units i l (held v)) e))
        (λ u. omega (arith, reads_in p))
        (writer i l (held_in p))

sum_le : (f g : Doing → ℕ) (ws : List Doing) → ((a : ℕ) → a < length ws → f (get_or ws a idle) ≤ 2 * g (get_or ws a idle)) → sum f ws ≤ 2 * sum g ws
sum_le f g [] h = omega arith
sum_le f g (w ∷ ws) h = omega (arith, h 0 (omega arith), sum_le f g ws (λ a l. h (suc a) (omega arith)))

-- each word is at most twice the number of the busy
pub words_le : {L : ℕ → Which → ℕ} {ws : List Doing} → Locked held idle L ws → (i : ℕ) (l : Which) → L i l ≤ 2 * sum seat ws
words_le {L} {ws} k i l = omega (arith, k.counted i l, sum_le (λ v. units i l (held v)) seat ws (λ a b. worker_le k i l a b))

-- and with a busy worker that holds nothing of it, two less
sum_less : (f g : Doing → ℕ) (ws : List Doing) → ((a : ℕ) → a < length ws → f (get_or ws a idle) ≤ 2 * g (get_or ws a idle))
    → (a : ℕ) → a < length ws → f (get_or ws a idle) ≡ 0 → g (get_or ws a idle) ≡ 1 → sum f ws + 2 ≤ 2 * sum g ws
sum_less f g [] h a l e k = absurd (omega arith)
sum_less f g (w ∷ ws) h zero l e k = omega (arith, sum_le f g ws (λ b m. h (suc b) (omega arith)))
sum_less f g (w ∷ ws) h (suc a) l e k =
    omega (arith, h 0 (omega arith), sum_less f g ws (λ b m. h (suc b) (omega arith)) a (omega arith) e k)

pub words_less : {L : ℕ → Which → ℕ} {ws : List Doing} → Locked held idle L ws → (i : ℕ) (l : Which) (a : ℕ) → a < length ws
    → units i l (held (get_or ws a idle)) ≡ 0 → seat (get_or ws a idle) ≡ 1 → L i l + 2 ≤ 2 * sum seat ws
words_less {L} {ws} k i l a b e f =
    omega (arith, k.counted i l, sum_less (λ v. units i l (held v)) seat ws (λ c d. worker_le k i l c d) a b e f)

-- each word is 1 or even: rule 6's "odd above 1" never meets an honest record
abbrev Even : ℕ → Type 0
Even n = (m : ℕ) × (n ≡ 2 * m)

unit_even : (i : ℕ) (l : Which) (h : Held) → (h.write ≡ false) ⊎ (unit i l h ≡ 0) → Even (unit i l h)
unit_even i l h (inr e) = (0, omega arith)
unit_even i l h (inl e) = go (ℕ_discrete h.slot i) (which_dec h.which l)
  where
    go : Dec (h.slot ≡ i) → Dec (h.which ≡ l) → Even (unit i l h)
    go (yes f) (yes g) = (1, rw (← f, ← g) (omega (arith, unit_own h, ap weight e)))
    go (yes f) (no g) = (0, omega (arith, unit_other i l h (λ z. g z.1)))
    go (no f) g = (0, omega (arith, unit_other i l h (λ z. f z.0)))

writes : (i : ℕ) (l : Which) (hs : List Held) → Writer i l hs ⊎ Even (units i l hs)
unfolding units
writes i l [] = inr (0, omega arith)
writes i l (h ∷ hs) = go h.write refl (ℕ_discrete h.slot i) (which_dec h.which l) (writes i l hs)
  where
    more : (h.write ≡ false) ⊎ (unit i l h ≡ 0) → Writer i l hs ⊎ Even (units i l hs) → Writer i l (h ∷ hs) ⊎ Even (units i l (h ∷ hs))
    more a (inl (g, m, e, f, w)) = inl (g, inr m, e, f, w)
    more a (inr (m, u)) = let v = unit_even i l h a in let x = v.1 in inr (v.0 + m, omega arith)

    go : (b : Bool) → h.write ≡ b → Dec (h.slot ≡ i) → Dec (h.which ≡ l) → Writer i l hs ⊎ Even (units i l hs) → Writer i l (h ∷ hs) ⊎ Even (units i l (h ∷ hs))
    go true e (yes f) (yes g) r = inl (h, inl refl, f, g, e)
    go true e (yes f) (no g) r = more (inr (unit_other i l h (λ z. g z.1))) r
    go true e (no f) g r = more (inr (unit_other i l h (λ z. f z.0))) r
    go false e f g r = more (inl e) r

sum_writes : (i : ℕ) (l : Which) (ws : List Doing) → ((a : ℕ) × (a < length ws) × Writer i l (held (get_or ws a idle))) ⊎ Even (sum (λ v. units i l (held v)) ws)
sum_writes i l [] = inr (0, omega arith)
sum_writes i l (w ∷ ws) = go (writes i l (held w)) (sum_writes i l ws)
  where
    go : Writer i l (held w) ⊎ Even (units i l (held w)) → ((a : ℕ) × (a < length ws) × Writer i l (held (get_or ws a idle))) ⊎ Even (sum (λ v. units i l (held v)) ws)
        → ((a : ℕ) × (a < suc (length ws)) × Writer i l (held (get_or (w ∷ ws) a idle))) ⊎ Even (units i l (held w) + sum (λ v. units i l (held v)) ws)
    go (inl u) r = inl (0, omega arith, u)
    go (inr u) (inl (a, b, v)) = inl (suc a, omega arith, v)
    go (inr (m, u)) (inr (n, v)) = inr (m + n, omega arith)

pub words_even : {L : ℕ → Which → ℕ} {ws : List Doing} → Locked held idle L ws → (i : ℕ) (l : Which) → (L i l ≡ 1) ⊎ ((m : ℕ) × (L i l ≡ 2 * m))
words_even {L} {ws} k i l = ⊎_elim
    (λ u. inl (ap₂ L (sym u.2.2) (sym u.2.3) ∙ k.fair u.0 u.2.0 u.1 u.2.1 u.2.4))
    (λ u. inr (u.0, k.counted i l ∙ u.1))
    (sum_writes i l ws)
