use Rattle.std.proofs.Common.{◌≡◌, map, take}
use Rattle.feed_gate.proofs.share.names_of.Given as goal

abbrev pub invariant-loop-set : goal.invariant-loop-set
invariant-loop-set l = l.names.items ≡ map (λ s. s.terms.collect.name) (take l.set-index l.sets)
