use Rattle.margin_sample.proofs.Summaries.{one_asked, none_waits}
use Rattle.margin_sample.proofs.summary.push_sets.Goals as goal

pub loop-set-preserved : goal.loop-set-preserved
loop-set-preserved c =
    one_asked c.in-Some.set c.pop_front.new.self.items c.loop-set.waiting.items c.args.sets.items c.loop-set.text c.args.text.now c.push_asked.new.text
    c.in-Some.ensures.items c.loop-set.invariant c.in_ok-push_asked.ensures

pub returns : goal.returns
returns c =
    none_waits c.loop-set.waiting.items c.pop_front.new.self.items c.args.sets.items c.loop-set.text c.args.text.now c.in_default.ensures.items c.in_default.ensures.rest c.loop-set.invariant
