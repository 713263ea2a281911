use Rattle.std.proofs.Common.{arith, refl}
use Rattle.std.proofs.lemmas.Slice.Eq.{text_from_reads}
use Rattle.script.proofs.records.RecordTryFromArrayU6411.try_from.Goals as goal

pub returns : goal.returns
returns c =
    text_from_reads _ _ (omega arith)
    (c.in_ok-try_from.ensures, (refl, (c.in_ok-try_from-2.ensures, (refl, (refl, (c.in_ok-try_from-3.ensures, (refl, (c.in_ok-try_from-4.ensures, (refl, (c.in_ok-try_from-5.ensures, (refl, tt)))))))))))
