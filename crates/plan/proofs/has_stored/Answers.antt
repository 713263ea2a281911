use Rattle.protocol.proofs.LockLaws.{stored_more}
use Rattle.plan.proofs.has_stored.Goals as goal

pub loop-i-preserved : goal.loop-i-preserved
loop-i-preserved c =
    rw (← c.loop-i.invariant, ← c.action_at.ensures, ← c.if-is_store.ensures) at (stored_more c.args.phase c.loop-i.i)
