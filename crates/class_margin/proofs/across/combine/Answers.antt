use Rattle.std.proofs.Common.{subst}
use Rattle.class_margin.specs.Across.{AreParts}
use Rattle.class_margin.proofs.across.combine.Goals as goal

pub over_currencies-requires : goal.over_currencies-requires
over_currencies-requires c = subst (λ b. AreParts c.args.params.now b c.args.parts.now) c.in-Currencies.is c.requires

pub over_listed-requires : goal.over_listed-requires
over_listed-requires c = subst (λ b. AreParts c.args.params.now b c.args.parts.now) c.in-Listed.is c.requires

pub over_single-requires : goal.over_single-requires
over_single-requires c = subst (λ b. AreParts c.args.params.now b c.args.parts.now) c.in-Single.is c.requires
