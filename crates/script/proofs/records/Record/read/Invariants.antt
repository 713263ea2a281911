use Rattle.std.proofs.Common.{◌≡◌, take}
use Rattle.script.specs.Records.{notes_of}
use Rattle.script.proofs.NoteLaws.{NoOther}
use Rattle.script.proofs.records.Record.read.Given as goal

abbrev pub invariant-loop-note : goal.invariant-loop-note
invariant-loop-note l = record {
  known : l.note-items ≡ notes_of l.found.phase;
  no_other : NoOther (take l.note-index l.note-items) l.found;
}
