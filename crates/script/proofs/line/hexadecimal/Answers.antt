use Rattle.std.proofs.Common.{rules}
use Rattle.script.proofs.Sixteen.{sixteen_fit}
use Rattle.script.proofs.line.hexadecimal.Goals as goal

pub returns : goal.returns
returns c = search (rules, sixteen_fit)
