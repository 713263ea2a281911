-- The rules of the root and of a pair, as the code judges them at once.
-- Assumes nothing.
use mathlib.Core.Path.{◌≡◌, refl, sym, ap, ◌∙◌}
use mathlib.Core.Bool.{Bool, true, false, not, ◌&&◌, and-eq-true_iff}
use mathlib.Core.List.{List}
use Prim.Native.Nat.{ℕ, ◌+◌, ◌-◌, ◌*◌, ◌/◌, ◌%◌, ◌^◌, ◌≤◌, ◌<◌}
use native.Mathlib.Omega.{arith}
use native.Mathlib.Nat.{div-lt_iff_lt-mul}
use lib.Dec.{lit<, eqb}
use lib.ListN.{length}
use lib.Pow.{split, mod-pow-add}
use lib.Bits.{bit_and}
use borrow.Author.Tests.{lt-ltb, le-leb, ne_eqb}
use Rattle.layout.specs.Word.{get}
use Rattle.layout.specs.Layout.{pos, wid, fld}
use Rattle.layout.proofs.WordLaws.{get_lt}
use Rattle.layout.proofs.CarryLaws.{no_bits}
use Rattle.moment.proofs.Tests.{tests}
use Rattle.table.specs.Pair.{layout, state_f, link_f, busy_f, zeros_f, free, most_slots, busy_of, slots_of, word_of, field_of, key_of, state_of}
use Rattle.table.specs.Rules.{locks_fine, word_fine, busy_from, bits_fine, pair_fine, root_fine, all_ones, root_words, size_fine, table_fine}
use Rattle.table.proofs.Places.{one, locks_at, locks_wide, taken, root, rest, rest_locked}
use Rattle.table.proofs.RuleLaws.{no_locks}

-- what the test of the root tells: its rule, and that b workers are busy or up to 15 more
abbrev pub quick : ℕ → ℕ → ℕ → ℕ → Bool
quick key x n b = root_words key x n && busy_from b (fld layout busy_f x)

-- the root's word with a left link f, locks l and m workers more
abbrev word : ℕ → ℕ → ℕ → ℕ → ℕ
word f l m b = f * one (link_f true) + l * 2 ^ locks_at + m * one busy_f + root b

module _ (n f l m b : ℕ) (lf : f < n) (h : n ≤ most_slots) (ll : l < 2 ^ locks_wide) (lm : m < 16) (lb : b ≤ 1) where
  locks_at_lem : get locks_at locks_wide (word f l m b) ≡ l
  locks_at_lem = omega arith

  root_at : locks_fine (word f l m b) ≡ true → quick all_ones (word f l m b) n b ≡ true
  unfolding root_words word_fine busy_from
  root_at k =
      let x = word f l m b in
      let j = simp and-eq-true_iff at k in
      let s : fld layout state_f x ≡ 1 = omega arith in
      let g : fld layout (link_f true) x ≡ f = omega arith in
      let r : fld layout (link_f false) x ≡ 0 = omega arith in
      let y : fld layout busy_f x ≡ m + b = omega arith in
      let z : fld layout zeros_f x ≡ 0 = omega arith in
      let p : m + b ≤ 16 = omega arith in
      let q : b ≤ m + b = omega arith in
      let u : m + b ≤ b + 15 = omega arith in
      let o : 0 < n = omega arith in
      rw (s, g, r, j.0.0, j.0.1, j.1, y, z, lt-ltb f n lf, lt-ltb 0 n o, le-leb (m + b) 16 p, le-leb b (m + b) q, le-leb (m + b) (b + 15) u)

-- the bits of the busy count that up to 15 workers more take, and where they end
abbrev few : ℕ
few = 4

abbrev few_end : ℕ
few_end = pos layout busy_f + few

glue : (t f u r v l w s y m z : ℕ) → f * one (link_f true) + u ≡ t → u ≡ r * one (link_f false) + v → v ≡ l * 2 ^ locks_at + w → w ≡ s * 2 ^ few_end + y → y ≡ m * one busy_f + z
    → r ≡ 0 → s ≡ 0 → z ≡ 0 → f * one (link_f true) + l * 2 ^ locks_at + m * one busy_f ≡ t
glue t f u r v l w s y m z a b c d e i j k = omega arith

-- less that word with no link, no lock held and b workers, what is left has a left link, locks and few workers, and no bit beside
module _ (t n b : ℕ) (h : n ≤ most_slots) (lb : b ≤ 1) (lt : t < n * one (link_f true))
    (right : fld layout (link_f false) t ≡ 0) (more : get few_end 1 t ≡ 0) (zeros : fld layout zeros_f t ≡ 0) where
  abbrev f : ℕ
  f = t / one (link_f true)

  abbrev l : ℕ
  l = get locks_at locks_wide t

  abbrev m : ℕ
  m = get (pos layout busy_f) few t

  parts : word f l m b ≡ t + root b
  parts =
      ap (λ (z : ℕ). z + root b)
      (glue t f (t % one (link_f true)) (fld layout (link_f false) t) (t % one (link_f false)) l (t % 2 ^ locks_at) (get few_end 1 t) (t % 2 ^ few_end) m (t % one busy_f)
      (split t (pos layout (link_f true))) (mod-pow-add t (wid layout (link_f false)) (pos layout (link_f false)))
      (mod-pow-add t locks_wide locks_at) (mod-pow-add t 1 few_end) (mod-pow-add t few (pos layout busy_f)) right more (omega arith))

  is_link : f < n
  is_link = (div-lt_iff_lt-mul (lit< tt)).1 lt

  few_more : m < 16
  few_more = get_lt (pos layout busy_f) few t

  lock_bits : get locks_at locks_wide (t + root b) ≡ l
  lock_bits = rw parts at (locks_at_lem n f l m b is_link h (get_lt locks_at locks_wide t) few_more lb)

  root_of : locks_fine (t + root b) ≡ true → quick all_ones (t + root b) n b ≡ true
  root_of k = rw parts at (root_at n f l m b is_link h (get_lt locks_at locks_wide t) few_more lb (rw parts k))

module _ (x n b : ℕ) (h : n ≤ most_slots) (lb : b ≤ 1) (g : root b ≤ x) (lt : x - root b < n * one (link_f true)) where
  again : x - root b + root b ≡ x
  again = omega arith

  -- no lock is held
  pub root_quick_lem : bit_and (x - root b) rest ≡ 0 → quick all_ones x n b ≡ true
  root_quick_lem e =
      let t = x - root b in
      let no = no_bits t rest in
      let r = no (pos layout (link_f false)) (wid layout (link_f false)) e refl in
      let m = no few_end 1 e refl in
      let z = no 0 (wid layout zeros_f) e refl in
      let l = lock_bits t n b h lb lt r m z ∙ no locks_at locks_wide e refl in
      rw again at (root_of t n b h lb lt r m z (sym (no_locks (t + root b) l)))

  -- the locks are fine
  pub root_locked : bit_and (x - root b) rest_locked ≡ 0 → locks_fine x ≡ true → quick all_ones x n b ≡ true
  root_locked e k =
      let t = x - root b in
      let no = no_bits t rest_locked in
      let r = no (pos layout (link_f false)) (wid layout (link_f false)) e refl in
      let m = no few_end 1 e refl in
      let z = no 0 (wid layout zeros_f) e refl in
      rw again at (root_of t n b h lb lt r m z (rw again k))

-- a pair by its word, where nothing stands below its locks
module _ (x n : ℕ) (g : taken ≤ x) (fit : x < 2 ^ 64) (l : fld layout (link_f true) x < n) (r : fld layout (link_f false) x < n) where
  pub pair_locked : x % 2 ^ locks_at ≡ 0 → locks_fine x ≡ true → (not (eqb (fld layout state_f x) free) && word_fine x n false) ≡ true
  unfolding word_fine
  pair_locked e k =
      let j = simp and-eq-true_iff at k in
      let s : fld layout state_f x ≡ 0 → ⊥ = λ z. absurd (omega arith) in
      let y : fld layout busy_f x ≡ 0 = omega arith in
      let z : fld layout zeros_f x ≡ 0 = omega arith in
      rw (ne_eqb _ _ s, lt-ltb _ _ l, lt-ltb _ _ r, j.0.0, j.0.1, j.1, y, z)

  pub pair_quick_lem : x % one (link_f false) ≡ 0 → (not (eqb (fld layout state_f x) free) && word_fine x n false) ≡ true
  pair_quick_lem e = pair_locked (omega arith) (sym (no_locks x (omega arith)))

-- a word that is fine for any slot is fine for the root
pub fine_anywhere : (x n : ℕ) (b : Bool) → word_fine x n false ≡ true → word_fine x n b ≡ true
unfolding word_fine
fine_anywhere x n false e = e
fine_anywhere x n true e = let m = simp and-eq-true_iff at e in simp and-eq-true_iff ((m.0.0, refl), m.1)

-- the same of the table's words
root_fine_lem : (ws : List ℕ) → root_words (key_of ws 0) (word_of ws 0 1) (slots_of ws) ≡ true → root_fine ws ≡ true
unfolding root_words root_fine bits_fine word_fine field_of
root_fine_lem ws e = e

pub table_fine_lem : (ws : List ℕ) (b : ℕ) → size_fine (length ws) ≡ true → quick (key_of ws 0) (word_of ws 0 1) (slots_of ws) b ≡ true
    → (table_fine ws && busy_from b (busy_of ws)) ≡ true
unfolding table_fine field_of
table_fine_lem ws b z e =
    let m = (and-eq-true_iff (root_words (key_of ws 0) (word_of ws 0 1) (slots_of ws)) (busy_from b (fld layout busy_f (word_of ws 0 1)))).0 e in
    rw (z, root_fine_lem ws m.0, m.1)

bits_fine_lem : (ws : List ℕ) (i : ℕ) → word_fine (word_of ws i 1) (slots_of ws) (eqb i 0) ≡ true → bits_fine ws i ≡ true
unfolding word_fine bits_fine field_of
bits_fine_lem ws i e = e

pub pair_fine_lem : (ws : List ℕ) (i : ℕ) → (not (eqb (fld layout state_f (word_of ws i 1)) free) && word_fine (word_of ws i 1) (slots_of ws) false) ≡ true → pair_fine ws i ≡ true
unfolding pair_fine field_of
pair_fine_lem ws i e =
    let m = (and-eq-true_iff (not (eqb (fld layout state_f (word_of ws i 1)) free)) (word_fine (word_of ws i 1) (slots_of ws) false)).0 e in
    (and-eq-true_iff (not (eqb (state_of ws i) free)) (bits_fine ws i)).1 (m.0, bits_fine_lem ws i (fine_anywhere (word_of ws i 1) (slots_of ws) (eqb i 0) m.1))

-- half of the most words
pub most_slots_lem : (n : ℕ) → size_fine n ≡ true → n / 2 ≤ most_slots
unfolding size_fine
most_slots_lem n e = let m = simp tests at e in omega (arith, m.1)
