use Rattle.std.proofs.Common.{◌≤◌, ◌∙◌, get_or, arith}
use Rattle.feed_reader.proofs.NumberFields.{not_text, parsed}
use Rattle.feed_reader.proofs.values.number_in.Goals as goal

pub returns-in-Ok : goal.returns-in-Ok
returns-in-Ok c =
    let low : 49 ≤ get_or c.args.field.now 0 0 = omega arith in
    c.ok.ensures.value ∙ parsed c.args.field.now c.parse.result low (rw (← c.in-Ok.ensures.cases.0) c.parse.ensures.value.0)

pub returns-in-Err : goal.returns-in-Err
returns-in-Err c = not_text c.args.field.now c.in-Err.ensures.cases.0
