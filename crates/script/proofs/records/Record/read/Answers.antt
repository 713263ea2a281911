use Rattle.std.proofs.Common.{rules}
use Rattle.script.proofs.NoteLaws.{no_other_more}
use Rattle.script.proofs.records.Record.read.Goals as goal

pub loop-note-preserved : goal.loop-note-preserved
loop-note-preserved c = record {
  known = search rules;
  no_other = no_other_more _ _ _ c.loop-note.found c.take.new.self c.loop-note-test.true c.loop-note.invariant.no_other c.in_ok-take.ensures.kept;
}
