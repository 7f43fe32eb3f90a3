use Rattle.std.proofs.Common.{length, arith}
use Rattle.margin_run.proofs.SetNames.{terms_named}
use Rattle.margin_run.proofs.Tellable.{feeds_tell}
use Rattle.margin_run.proofs.Auditing.{can_be_verified}
use Rattle.margin_run.proofs.law.runs_can_be_verified.Goals as goal

pub returns : goal.returns
returns c params_name terms_name feed_names old new sets reports run few =
    let inputs = run.inputs in
    let fed = run.fed in
    let given = c.given_messages_can_be_written.ensures in
    let told = c.events_can_be_told.ensures in
    can_be_verified run.p (length feed_names) run.agreements sets c.legal_texts_are_answered_yes.ensures few fed.sets
    (terms_named inputs.terms_bytes run.agreements inputs.terms)
    (λ feed lt. feeds_tell given.feeds given.fronts told.holds told.writes run.mid new sets 0 feed_names reports fed.readings fed.feeds feed (omega arith) (omega (arith, lt)))
