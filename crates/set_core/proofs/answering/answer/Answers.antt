use Rattle.std.proofs.Common.{sym, ap, ◌∙◌}
use Rattle.set_core.specs.declared.event.Event.TheVariants as event
use Rattle.set_core.specs.Live.{traded}
use Rattle.set_core.proofs.Changes.{leaves_ledgers}
use Rattle.set_core.proofs.answering.answer.Goals as goal

pub returns-in-Submit-clause-does : goal.returns-in-Submit-clause-does
returns-in-Submit-clause-does c =
    leaves_ledgers (traded c.args.live.now) (traded c.submit.new.live) c.args.ledgers.now c.args.event.now (event.Submit c.in-Submit.batch) c.submit.result
    c.in-Submit.is c.submit.ensures.does

pub returns-in-Withdraw-clause-does : goal.returns-in-Withdraw-clause-does
returns-in-Withdraw-clause-does c =
    leaves_ledgers (traded c.args.live.now) (traded c.withdraw.new.live) c.args.ledgers.now c.args.event.now (event.Withdraw c.as_slice.result.now) c.withdraw.result
    (c.in-Withdraw.is ∙ ap event.Withdraw (sym c.as_slice.ensures)) c.withdraw.ensures.does

pub returns-in-Tables-clause-does : goal.returns-in-Tables-clause-does
returns-in-Tables-clause-does c =
    leaves_ledgers (traded c.args.live.now) (traded c.replace_tables.new.live) c.args.ledgers.now c.args.event.now (event.Tables c.in-Tables.text) c.replace_tables.result
    c.in-Tables.is c.replace_tables.ensures.does
