use Rattle.std.proofs.Common.{◌≡◌, take}
use Rattle.class_margin.specs.Parts.{as_parts}
use Rattle.class_margin.specs.names_delta.Combine.{residual_k}
use Rattle.class_margin.proofs.names_delta.across.residual.Given as goal

abbrev pub invariant-loop-part : goal.invariant-loop-part
invariant-loop-part l = l.total ≡ residual_k (as_parts (take l.part-index l.parts))
