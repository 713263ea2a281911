use Rattle.std.proofs.Common.{rules}
use Rattle.script.proofs.NumeralText.{numeral_utf8}
use Rattle.script.proofs.line.unsigned.Goals as goal

pub returns-in_err-text : goal.returns-in_err-text
returns-in_err-text c = search (rules, numeral_utf8)
