use native.Mathlib.Omega.{arith}
use native.Mathlib.Nat.{zero-add}
use Prim.Native.Nat.{ℕ, ◌+◌, ◌/◌}
use mathlib.Core.Path.{◌≡◌, ◌∙◌}
use mathlib.Core.List.{List, [], append-nil}
use lib.ListN.{length, drop, set}
use lib.Seq.{sets, sets-eq, drop-length}
use Rattle.exif.specs.Forms.{digit, two, four, text, two_digit_hour}
use Rattle.moment.specs.declared.Moment.{Moment}
use Rattle.exif.proofs.fill.Goals as goal

-- stores at 0, 1, 2, .. of as many values as there are places leave just the values
fills : (l vs : List ℕ) → length l ≡ length vs → sets l 0 vs ≡ vs
fills l vs e =
    let none : drop (0 + length vs) l ≡ [] = rw (zero-add, ← e) (drop-length l) in
    sets-eq vs l 0 (omega arith) ∙ rw none (append-nil vs)

-- a field is put at a place of the list
put_at : List ℕ → ℕ → ℕ → ℕ → List ℕ
put_at l at n after = set (set (set l at (digit (n / 10))) (at + 1) (digit n)) (at + 2) after

-- the six fields, one after the other
all_fields : (m : Moment) (l : List ℕ) → length l ≡ 20 → {l0 l1 l2 l3 l4 l5 l6 : List ℕ}
    → l0 ≡ set (set l 0 (digit (m.year / 100 / 10))) 1 (digit (m.year / 100)) → l1 ≡ put_at l0 2 m.year 58
    → l2 ≡ put_at l1 5 m.month 58 → l3 ≡ put_at l2 8 m.day 32 → l4 ≡ put_at l3 11 m.hour 58
    → l5 ≡ put_at l4 14 m.minute 58 → l6 ≡ put_at l5 17 m.second 0 → l6 ≡ two_digit_hour m
unfolding put_at two_digit_hour text two four
all_fields m l n e0 e1 e2 e3 e4 e5 e6 = rw (e6, e5, e4, e3, e2, e1, e0) (fills l (two_digit_hour m) n)

pub returns : goal.returns
unfolding put_at
returns c =
    all_fields c.args.m c.args.d.now c.requires c.put_two.ensures c.put_field.ensures c.put_field-2.ensures
    c.put_field-3.ensures c.put_field-4.ensures c.put_field-5.ensures c.put_field-6.ensures
