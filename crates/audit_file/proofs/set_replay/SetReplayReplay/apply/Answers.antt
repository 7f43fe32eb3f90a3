use Rattle.audit_file.proofs.Answering.{message_answered, block_refused}
use Rattle.audit_file.proofs.set_replay.SetReplayReplay.apply.Goals as goal

pub returns-in-Ok-clause-rules : goal.returns-in-Ok-clause-rules
returns-in-Ok-clause-rules c =
    message_answered c.args.self.now c.answer.new.self c.args.caller c.args.message c.in-Ok.event c.answer.result c.in-Ok.ensures c.answer.ensures.rules

pub returns-in-Err-clause-rules : goal.returns-in-Err-clause-rules
returns-in-Err-clause-rules c = rw c.unruled.ensures (block_refused c.args.self.now c.args.message c.in-Err.fault c.in-Err.ensures)
