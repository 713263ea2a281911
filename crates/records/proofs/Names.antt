-- Eleven words by name: which they are, and what has none.
-- Assumes nothing.
use Rattle.std.proofs.Common.{◌≡◌, ℕ, ◌<◌, ◌≤◌, List, length, true, false, eqb, arith, sym, ap, ◌∙◌}
use Rattle.std.specs.Prelude.{Some, None}
use borrow.Author.Tests.{eq-eqb, eqb-true, ne_eqb}
use Rattle.records.specs.declared.Flat.{Flat}
use Rattle.records.specs.Records.{listed, flat_at, named_of}
use Rattle.records.proofs.Canonical.{none_not, some_only, eleven}

-- a pattern of eleven tells their number by two bounds

pub few : (s : List ℕ) → length s < 11 → named_of s ≡ None
unfolding named_of
few s h = rw (ne_eqb (length s) 11 (λ e. omega (arith, h, e)))

pub many : (s : List ℕ) → 12 ≤ length s → named_of s ≡ None
unfolding named_of
many s h = rw (ne_eqb (length s) 11 (λ e. omega (arith, h, e)))

pub just : (s : List ℕ) → 11 ≤ length s → length s < 12 → named_of s ≡ Some (flat_at s)
unfolding named_of
just s h k = rw (eq-eqb (length s) 11 (omega (arith, h, k)))

pub unnamed : (s : List ℕ) → None ≡ named_of s → eqb (length s) 11 ≡ false
unfolding named_of
unnamed s e = none_not (eqb (length s) 11) (flat_at s) (sym e)

pub named_flat : (s : List ℕ) (f : Flat) → Some f ≡ named_of s → (eqb (length s) 11 ≡ true) × (f ≡ flat_at s)
unfolding named_of
named_flat s f e = some_only (eqb (length s) 11) (flat_at s) f (sym e)

-- so they are the words with these names
pub named_listed : (s : List ℕ) (f : Flat) → Some f ≡ named_of s → s ≡ listed f
named_listed s f e =
    let r = named_flat s f e in
    sym (eleven s (eqb-true (length s) 11 r.0)) ∙ ap listed (sym r.1)
