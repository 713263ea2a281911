use Rattle.std.proofs.Common.{rules}
use Rattle.replay.proofs.States.{state_named}
use Rattle.replay.proofs.pairs.get.Goals as goal

pub unwrap-requires : goal.unwrap-requires
unwrap-requires c = search (rules, state_named)
