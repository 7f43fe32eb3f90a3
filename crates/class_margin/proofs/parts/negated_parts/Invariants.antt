use Rattle.std.proofs.Common.{◌≡◌, take}
use Rattle.class_margin.specs.volatility.Curvature.{negated_buckets}
use Rattle.class_margin.proofs.parts.negated_parts.Given as goal

abbrev pub invariant-loop-part : goal.invariant-loop-part
invariant-loop-part l = l.all.items ≡ negated_buckets (take l.part-index l.parts)
