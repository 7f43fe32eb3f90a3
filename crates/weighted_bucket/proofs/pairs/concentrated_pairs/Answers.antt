use Rattle.std.proofs.Common.{◌∙◌, rules, FitsSigned}
use Rattle.std.specs.Int.{w128}
use Rattle.concentration.proofs.MhUnits.Integers.{same128}
use Rattle.weighted_bucket.proofs.Correlations.{pairs_of-shared}
use Rattle.weighted_bucket.proofs.pairs.concentrated_pairs.Goals as goal

pub returns-then-share_concentration-clause-value : goal.returns-then-share_concentration-clause-value
returns-then-share_concentration-clause-value g c =
    let fits : FitsSigned w128 c.pairs_in.result = search rules in
    same128 c.pairs_in.result fits ∙ c.pairs_in.ensures.value
    ∙ pairs_of-shared c.args.factors.now (g.R.Rho.rho c.args.rho.now) c.requires.from_one c.if-share_concentration.ensures
