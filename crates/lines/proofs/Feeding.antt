-- A LINE FED IN PIECES SAYS WHAT THE WHOLE LINE SAYS.
-- Assumes nothing.
use mathlib.Core.Path.{◌≡◌, refl, sym, ap, ◌∙◌}
use mathlib.Core.Bool.{Bool, true, false, ◌||◌, or-true, or_assoc}
use mathlib.Core.List.{List, [], ◌∷◌, ◌++◌, append-nil}
use Prim.Native.Nat.{ℕ, ◌+◌, ◌-◌, ◌<◌}
use native.Mathlib.Omega.{arith}
use native.Mathlib.Decide.{dec_lt}
use borrow.Author.Tests.{lt-ltb, le-ltb}
use lib.Dec.{eqb}
use lib.ListN.{length, take, drop, drop_of_length-le}
use lib.Seq.{sets, take_all, length-take-le}
use Rattle.refusal.specs.Said.{refuses}
use Rattle.exif.specs.Forms.{nul}
use Rattle.lines.specs.Line.{has, form_of, line_says}
use Rattle.lines.specs.Feeding.{fed_line, held_line}
use Rattle.lines.specs.Room.{room_for, appended}
use Rattle.std.specs.Prelude.{min}
use Rattle.lines.specs.declared.Line.{Line}

pub has_append : (x : ℕ) (s t : List ℕ) → has x (s ++ t) ≡ (has x s || has x t)
unfolding has
has_append x [] t = refl
has_append x (b ∷ s) t = ap (λ (k : Bool). eqb b x || k) (has_append x s t) ∙ sym (or_assoc (eqb b x) (has x s) (has x t))

-- a NUL breaks the form
pub broken_by_nul : (line : List ℕ) → has 0 line ≡ true → line_says line ≡ refuses 10
unfolding line_says form_of
broken_by_nul line e = simp e

pub nul_refused : (line : List ℕ) → line_says (line ++ nul) ≡ refuses 10
unfolding has
nul_refused line = broken_by_nul (line ++ nul) (has_append 0 line nul ∙ or-true (has 0 line))

-- the line that is held: with a NUL, or just the bytes that are kept
pub held_nul : (l : Line) → l.nul ≡ true → line_says (held_line l) ≡ refuses 10
unfolding held_line
held_nul l e = rw e (nul_refused (take l.len l.kept))

pub held_front : (l : Line) (n : ℕ) → l.nul ≡ false → length l.kept ≡ 32 → n ≡ min l.len 32 → held_line l ≡ take n l.kept
unfolding held_line
held_front l n e h m = rw e (append-nil (take l.len l.kept)) ∙ here (dec_lt 32 l.len)
  where
    here : Dec (32 < l.len) → take l.len l.kept ≡ take n l.kept
    here (yes q) = take_all l.len l.kept (omega arith) ∙ sym (take_all n l.kept (omega arith))
    here (no q) = let same : n ≡ l.len = omega arith in rw same

-- WHAT A PIECE DOES: its front goes behind the bytes that are kept, as far as there is room
record Fronts (m n : ℕ) (piece : List ℕ) : Type 0 where
  front : take n piece ≡ take m piece
  rest : drop n piece ≡ drop m piece
  size : length (take m piece) ≡ n

fronts : (m n : ℕ) (piece : List ℕ) → n ≡ min m (length piece) → Fronts m n piece
fronts m n piece e = here (dec_lt (length piece) m)
  where
    here : Dec (length piece < m) → Fronts m n piece
    here (yes l) =
        let all = take_all m piece (omega arith) in
        record {
          front = take_all n piece (omega arith) ∙ sym all;
          rest = drop_of_length-le piece {i = n} (omega arith) ∙ sym (drop_of_length-le piece {i = m} (omega arith));
          size = rw all (omega arith);
        }
    here (no l) =
        let same : n ≡ m = omega arith in
        record { front = rw same; rest = rw same; size = rw same (length-take-le m piece (omega arith)) }

pub fed_front : (l : Line) (piece : List ℕ) (n : ℕ) (after : List ℕ) (known : Bool) → length l.kept ≡ 32 → n ≡ min (32 - l.len) (length piece)
    → after ≡ appended l.kept l.len (take n piece) → known ≡ (l.nul || has 0 (drop n piece))
    → ◌≡◌ {A = Line} (record { kept = after; len = l.len + n; nul = known }) (fed_line l piece)
unfolding fed_line appended room_for
fed_front l piece n after known h e f g = let r = s.rest in let z = s.size in rw (put, g, r, z)
  where
    s : Fronts (32 - l.len) n piece
    s = fronts (32 - l.len) n piece e

    -- where it is put, there is room for it
    put : after ≡ sets l.kept l.len (take (32 - l.len) piece)
    put = f ∙ here (dec_lt 32 l.len)
      where
        here : Dec (32 < l.len) → appended l.kept l.len (take n piece) ≡ sets l.kept l.len (take (32 - l.len) piece)
        here (yes q) =
            let z : 32 - l.len ≡ 0 = omega arith in
            simp (h, lt-ltb 32 l.len q, z)
        here (no q) =
            let r = s.front in
            let fit = s.size in
            simp (h, le-ltb 32 l.len (omega arith), r, le-ltb (32 - l.len) (length (take (32 - l.len) piece)) (omega arith))
