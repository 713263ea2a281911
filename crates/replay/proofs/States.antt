-- Two bits name a state.
use Rattle.std.proofs.Common.{ℕ, ◌<◌, List, Result, Ok, Err, refl, arith}
use Rattle.std.specs.Result.{IsOk}
use Rattle.layout.proofs.WordLaws.{get_lt}
use Rattle.layout.specs.Layout.{pos, wid}
use Rattle.table.specs.Pair.{layout, state_f, field_of, word_of, state_of}
use Rattle.script.specs.Inverts.{Inverts}
use Rattle.script.specs.Names.{state_number}
use Rattle.script.specs.declared.names.State.{State}
use Rattle.script.specs.declared.names.State.TheVariants.{Free, Data, Routing, Deleted}

below_four : (ws : List ℕ) (i : ℕ) → state_of ws i < 4
unfolding field_of
below_four ws i = get_lt (pos layout state_f) (wid layout state_f) (word_of ws i 1)

named : {E : Type 0} (n : ℕ) (r : Result State E) → n < 4 → Inverts state_number n r → IsOk r
named n (Ok s) small said = refl
named n (Err e) small none = absurd (omega (arith, none Free, none Data, none Routing, none Deleted))

pub state_named : {E : Type 0} (ws : List ℕ) (i : ℕ) (r : Result State E) → Inverts state_number (state_of ws i) r → IsOk r
state_named ws i r = named (state_of ws i) r (below_four ws i)
