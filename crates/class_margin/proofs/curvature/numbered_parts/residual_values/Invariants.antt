use Rattle.std.proofs.Common.{take}
use Rattle.class_margin.proofs.curvature.Splits.{AreResidual}
use Rattle.class_margin.proofs.curvature.numbered_parts.residual_values.Given as goal

abbrev pub invariant-loop-part : goal.invariant-loop-part
invariant-loop-part l = AreResidual (take l.part-index l.parts) l.values.items
