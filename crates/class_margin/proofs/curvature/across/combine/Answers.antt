use Rattle.std.proofs.Common.{subst}
use Rattle.class_margin.specs.curvature.Combine.{AreParts}
use Rattle.class_margin.proofs.curvature.across.combine.Goals as goal

pub rates-requires : goal.rates-requires
rates-requires c = subst (λ b. AreParts c.args.params.now b c.args.parts.now) c.in-Currencies.is c.requires

pub listed-requires : goal.listed-requires
listed-requires c = subst (λ b. AreParts c.args.params.now b c.args.parts.now) c.in-Listed.is c.requires

pub over_single-requires : goal.over_single-requires
over_single-requires c = subst (λ b. AreParts c.args.params.now b c.args.parts.now) c.in-Single.is c.requires
