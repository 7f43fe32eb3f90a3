use Rattle.audit_file.specs.Steps.{reading}
use Rattle.audit_file.proofs.step.step.Goals as goal

pub returns-in-AtCaller-clause-steps : goal.returns-in-AtCaller-clause-steps
unfolding reading
returns-in-AtCaller-clause-steps g c = rw c.in-AtCaller.is (c.at_caller.ensures.steps (g.M.Replay.rule (g.M.Replay.base c.args.machine.now)) (g.M.Replay.log c.args.machine.now) c.args.reply.now)

pub returns-in-AtReply-clause-steps : goal.returns-in-AtReply-clause-steps
unfolding reading
returns-in-AtReply-clause-steps g c = rw (c.in-AtReply.is, ← c.as_slice.ensures) (c.at_reply.ensures.steps (g.M.Replay.rule (g.M.Replay.base c.args.machine.now)) (g.M.Replay.log c.args.machine.now))

pub returns-in-AtSet-clause-steps : goal.returns-in-AtSet-clause-steps
unfolding reading
returns-in-AtSet-clause-steps g c = rw c.in-AtSet.is (c.at_set.ensures.steps c.args.reply.now)

pub returns-in-InBlock-clause-steps : goal.returns-in-InBlock-clause-steps
unfolding reading
returns-in-InBlock-clause-steps g c = rw c.in-InBlock.is (c.in_block.ensures.steps c.args.n)
