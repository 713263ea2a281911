use Rattle.std.proofs.Common.{◌≡◌, Bool, true, false, cond, ◌&&◌, refl}
use Rattle.std.specs.Prelude.{Some, None}
use Rattle.std.specs.Option.{option_eq}
use mathlib.Core.Bool.{and_assoc}
use Rattle.records.specs.declared.Flat.{Flat}
use Rattle.records.specs.Records.{flat_at, named_of, is_idle}
use Rattle.records.proofs.is_idle.Goals as goal

some_is : (E : Flat → Flat → Bool) (b : Bool) (f i : Flat) → option_eq E (cond b (Some f) None) (Some i) ≡ (b && E f i)
some_is E true f i = refl
some_is E false f i = refl

pub returns : goal.returns
unfolding is_idle named_of flat_at
returns c = rw (c.eq.ensures, c.named.ensures, some_is) (simp and_assoc)
