use Rattle.std.proofs.Common.{◌∙◌, ap, sym, rules, FitsSigned}
use Rattle.std.specs.Int.{w128}
use Rattle.concentration.proofs.MhUnits.Integers.{same128}
use Rattle.weighted_bucket.specs.Bucket.{pairs_of}
use Rattle.weighted_bucket.proofs.pairs.scaled_pairs.Goals as goal

pub returns-in-Concentrated-clause-value : goal.returns-in-Concentrated-clause-value
returns-in-Concentrated-clause-value g c =
    let fits : FitsSigned w128 c.concentrated_pairs.result = search rules in
    same128 c.concentrated_pairs.result fits ∙ c.concentrated_pairs.ensures.value ∙ ap (λ way. pairs_of way c.args.factors.now (g.R.Rho.rho c.args.rho.now)) (sym c.in-Concentrated.is)

pub returns-in-Plain-clause-value : goal.returns-in-Plain-clause-value
returns-in-Plain-clause-value g c =
    let fits : FitsSigned w128 c.pairs_in.result = search rules in
    same128 c.pairs_in.result fits ∙ c.pairs_in.ensures.value ∙ ap (λ way. pairs_of way c.args.factors.now (g.R.Rho.rho c.args.rho.now)) (sym c.in-Plain.is)

pub returns-in-Squared-clause-value : goal.returns-in-Squared-clause-value
returns-in-Squared-clause-value g c =
    let fits : FitsSigned w128 c.pairs_in-in-Squared.result = search rules in
    same128 c.pairs_in-in-Squared.result fits ∙ c.pairs_in-in-Squared.ensures.value ∙ ap (λ way. pairs_of way c.args.factors.now (g.R.Rho.rho c.args.rho.now)) (sym c.in-Squared.is)
