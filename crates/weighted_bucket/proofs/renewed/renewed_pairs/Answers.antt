use Rattle.std.proofs.Common.{◌∙◌, ap, sym, rules, FitsSigned}
use Rattle.std.specs.Int.{w128}
use Rattle.concentration.proofs.MhUnits.Integers.{same128}
use Rattle.weighted_bucket.specs.Bucket.{pairs_of}
use Rattle.weighted_bucket.proofs.renewed.renewed_pairs.Goals as goal

pub renewed_concentrated-requires-clause-sum : goal.renewed_concentrated-requires-clause-sum
renewed_concentrated-requires-clause-sum g c = same128 c.args.q c.ranges.q ∙ c.requires.sum ∙ ap (λ way. pairs_of way c.args.before.now (g.R.Rho.rho c.args.rho.now)) c.in-Concentrated.is

pub renewed_in-requires-clause-sum : goal.renewed_in-requires-clause-sum
renewed_in-requires-clause-sum g c = same128 c.args.q c.ranges.q ∙ c.requires.sum ∙ ap (λ way. pairs_of way c.args.before.now (g.R.Rho.rho c.args.rho.now)) c.in-Plain.is

pub renewed_in-requires-in-Squared-clause-sum : goal.renewed_in-requires-in-Squared-clause-sum
renewed_in-requires-in-Squared-clause-sum g c = same128 c.args.q c.ranges.q ∙ c.requires.sum ∙ ap (λ way. pairs_of way c.args.before.now (g.R.Rho.rho c.args.rho.now)) c.in-Squared.is

pub returns-in-Concentrated-clause-value : goal.returns-in-Concentrated-clause-value
returns-in-Concentrated-clause-value g c =
    let fits : FitsSigned w128 c.renewed_concentrated.result = search rules in
    same128 c.renewed_concentrated.result fits ∙ c.renewed_concentrated.ensures.value ∙ ap (λ way. pairs_of way c.args.after.now (g.R.Rho.rho c.args.rho.now)) (sym c.in-Concentrated.is)

pub returns-in-Plain-clause-value : goal.returns-in-Plain-clause-value
returns-in-Plain-clause-value g c =
    let fits : FitsSigned w128 c.renewed_in.result = search rules in
    same128 c.renewed_in.result fits ∙ c.renewed_in.ensures.value ∙ ap (λ way. pairs_of way c.args.after.now (g.R.Rho.rho c.args.rho.now)) (sym c.in-Plain.is)

pub returns-in-Squared-clause-value : goal.returns-in-Squared-clause-value
returns-in-Squared-clause-value g c =
    let fits : FitsSigned w128 c.renewed_in-in-Squared.result = search rules in
    same128 c.renewed_in-in-Squared.result fits ∙ c.renewed_in-in-Squared.ensures.value ∙ ap (λ way. pairs_of way c.args.after.now (g.R.Rho.rho c.args.rho.now)) (sym c.in-Squared.is)
