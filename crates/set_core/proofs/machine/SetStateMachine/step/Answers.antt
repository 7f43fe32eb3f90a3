use Rattle.set_core.proofs.Steps.{base_stays, stays_legal, journal_grows, had_room, journal_stays}
use Rattle.set_core.proofs.machine.SetStateMachine.step.Goals as goal

pub returns-clause-base : goal.returns-clause-base
returns-clause-base c = base_stays c.args.self.now c.apply-answer.new.self c.args.caller c.args.event c.apply-answer.result c.apply-answer.ensures.answered c.apply-answer.ensures.unchanged

pub returns-clause-legal : goal.returns-clause-legal
returns-clause-legal c before =
    stays_legal c.args.self.now c.apply-answer.new.self
    (base_stays c.args.self.now c.apply-answer.new.self c.args.caller c.args.event c.apply-answer.result c.apply-answer.ensures.answered c.apply-answer.ensures.unchanged) c.facts.ensures.set

pub returns-clause-done : goal.returns-clause-done
returns-clause-done c = journal_grows c.args.self.now c.apply-answer.new.self c.args.caller c.args.event c.apply-answer.result c.apply-answer.ensures.answered

pub returns-clause-room : goal.returns-clause-room
returns-clause-room c = had_room c.args.self.now c.apply-answer.new.self c.args.caller c.args.event c.apply-answer.result c.apply-answer.ensures.answered

pub returns-clause-unchanged : goal.returns-clause-unchanged
returns-clause-unchanged c = journal_stays c.args.self.now c.apply-answer.new.self c.apply-answer.result c.apply-answer.ensures.unchanged

pub returns-clause-halt : goal.returns-clause-halt
returns-clause-halt c = c.apply-answer.ensures.halt
