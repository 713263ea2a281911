-- What the words are by name: a record's exactly where they are one.
-- Assumes nothing.
use mathlib.Core.Path.{◌≡◌, refl}
use mathlib.Core.Bool.{Bool, true, false, cond}
use mathlib.Core.List.{List}
use Prim.Native.Nat.{ℕ}
use Rattle.std.specs.Prelude.{Some, None}
use Rattle.std.specs.Bool.{then_some}
use Rattle.records.specs.declared.Flat.{Flat}
use Rattle.records.specs.Records.{flat_at, flat_of, named_of, worker_at, same_flat, is_record, parts_of}
use Rattle.records.proofs.Canonical.{none_not, some_only}
use Rattle.records.proofs.Names.{unnamed, named_flat}

pub parts_nothing : (s : List ℕ) → parts_of s ≡ None → is_record s ≡ false
unfolding parts_of
parts_nothing s e = none_not (is_record s) (flat_at s) e

pub parts_words : (s : List ℕ) (f : Flat) → parts_of s ≡ Some f → (is_record s ≡ true) × (f ≡ flat_at s)
unfolding parts_of
parts_words s f e = some_only (is_record s) (flat_at s) f e

-- what the functions that take them apart and read them have in hand

pub no_parts : (s : List ℕ) → None ≡ named_of s → None ≡ parts_of s
unfolding parts_of is_record
no_parts s e = rw (unnamed s e)

some_if : {A : Type 0} (b : Bool) (x : A) → then_some b x ≡ cond b (Some x) None
some_if true x = refl
some_if false x = refl

pub own_parts : (s : List ℕ) (f : Flat) (b : Bool) → Some f ≡ named_of s → b ≡ same_flat f (flat_of (worker_at f)) → then_some b f ≡ parts_of s
unfolding parts_of is_record
own_parts s f b n e =
    let r = named_flat s f n in
    rw (r.0, e, r.1, some_if)
