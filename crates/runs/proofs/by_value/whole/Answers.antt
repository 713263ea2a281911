use Rattle.runs.proofs.ByValue.{begun_done, begun_refused}
use Rattle.runs.proofs.by_value.whole.Goals as goal

pub returns-in-Ok : goal.returns-in-Ok
returns-in-Ok c =
    let a = c.args in
    begun_done a.words.now a.w a.kind a.key c.start-begun.result.reply c.start-begun.ensures c.in-Ok.field-0 c.in-Ok.is _ c.most_steps.ensures c.steps.result.answer c.steps.ensures

pub returns-in-Err : goal.returns-in-Err
returns-in-Err c =
    let a = c.args in
    begun_refused a.words.now a.w a.kind a.key c.start-begun.result.reply c.start-begun.ensures c.in-Err.e c.in-Err.is
