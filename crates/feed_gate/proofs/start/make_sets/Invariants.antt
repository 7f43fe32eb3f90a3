use Rattle.std.proofs.Common.{◌≡◌, map, take}
use Rattle.feed_events.specs.SetCore.Set.{start}
use Rattle.feed_gate.proofs.start.make_sets.Given as goal

abbrev pub invariant-loop-agreement : goal.invariant-loop-agreement
invariant-loop-agreement l = l.sets.items ≡ map (start l.params) (take l.agreement-index l.agreement-items)
