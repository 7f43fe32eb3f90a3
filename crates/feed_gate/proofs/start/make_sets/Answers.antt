use Rattle.std.proofs.Common.{◌∙◌, ap, map, take}
use Rattle.feed_events.specs.SetCore.Set.{start}
use Rattle.feed_gate.proofs.Starting.{apart_part}
use Rattle.feed_gate.proofs.start.make_sets.Goals as goal

pub returns-clause-apart : goal.returns-clause-apart
returns-clause-apart c =
    apart_part c.args.params.now c.loop-agreement.agreement-index c.args.terms.now c.loop-agreement.sets.items c.sets-agreement-items.ensures.facts
    (c.loop-agreement.invariant ∙ ap (λ ts. map (start c.args.params.now) (take c.loop-agreement.agreement-index ts)) c.sets-agreement-items.ensures.value)
