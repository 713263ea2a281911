-- Sixteen hexadecimal digits fit 64 bits.
use Rattle.std.proofs.Common.{ℕ, List, ◌≤◌, ◌<◌, ◌^◌, length, arith}
use Rattle.std.proofs.Math.Nat.{pow-le-pow_right}
use Rattle.std.proofs.lemmas.Int.Digits.{digits_value-lt}
use Rattle.std.specs.Str.Parse.{AllDigits, digits_value}

pub sixteen_fit : (bs : List ℕ) → AllDigits 16 bs → length bs ≤ 16 → digits_value 16 bs < 2 ^ 64
sixteen_fit bs digits short =
    let most : 16 ^ length bs ≤ 16 ^ 16 = pow-le-pow_right (omega arith) short in
    let below : digits_value 16 bs < 16 ^ length bs = digits_value-lt 16 bs digits in
    omega arith
