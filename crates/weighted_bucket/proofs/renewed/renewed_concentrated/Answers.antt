use Rattle.std.proofs.Common.{◌∙◌, sym, rules, FitsSigned, arith}
use Rattle.std.specs.Int.{w128}
use Rattle.concentration.proofs.MhUnits.Integers.{same128}
use Rattle.weighted_bucket.specs.declared.scaling.Scaling.TheVariants as ways
use Rattle.weighted_bucket.proofs.Correlations.{pairs_of-shared}
use Rattle.weighted_bucket.proofs.Kept.{correlation-kept, correlation-shared}
use Rattle.weighted_bucket.proofs.renewed.renewed_concentrated.Goals as goal

pub renewed_in-requires-clause-sum : goal.renewed_in-requires-clause-sum
renewed_in-requires-clause-sum g c = same128 c.args.q c.ranges.q ∙ c.requires.sum ∙ sym (pairs_of-shared c.args.before.now (g.R.Rho.rho c.args.rho.now) c.requires.from_one_before c.if-share_concentration.ensures)

pub renewed_in-requires-else-share_concentration-2-clause-sum : goal.renewed_in-requires-else-share_concentration-2-clause-sum
renewed_in-requires-else-share_concentration-2-clause-sum g c = same128 c.args.q c.ranges.q ∙ c.requires.sum ∙ sym (pairs_of-shared c.args.before.now (g.R.Rho.rho c.args.rho.now) c.requires.from_one_before c.if-share_concentration.ensures)

pub renewed_in-requires-else-share_concentration-2-clause-same : goal.renewed_in-requires-else-share_concentration-2-clause-same
renewed_in-requires-else-share_concentration-2-clause-same g c = λ i j p q r s.
    correlation-shared c.args.before.now (g.R.Rho.rho c.args.rho.now) i j c.requires.from_one_before c.if-share_concentration.ensures (omega (arith, c.requires.same_places)) (omega (arith, c.requires.same_places))
    ∙ correlation-kept ways.Concentrated c.args.before.now c.args.after.now (g.R.Rho.rho c.args.rho.now) i j r s

pub renewed_in-requires-then-share_concentration-3-clause-same : goal.renewed_in-requires-then-share_concentration-3-clause-same
renewed_in-requires-then-share_concentration-3-clause-same g c = λ i j p q r s.
    correlation-kept ways.Concentrated c.args.before.now c.args.after.now (g.R.Rho.rho c.args.rho.now) i j r s
    ∙ sym (correlation-shared c.args.after.now (g.R.Rho.rho c.args.rho.now) i j c.requires.from_one c.if-share_concentration-3.ensures p q)

pub renewed_in-requires-else-share_concentration-3-clause-same : goal.renewed_in-requires-else-share_concentration-3-clause-same
renewed_in-requires-else-share_concentration-3-clause-same g c = λ i j p q r s.
    correlation-kept ways.Concentrated c.args.before.now c.args.after.now (g.R.Rho.rho c.args.rho.now) i j r s

pub returns-then-share_concentration-2-clause-value : goal.returns-then-share_concentration-2-clause-value
returns-then-share_concentration-2-clause-value g c =
    let fits : FitsSigned w128 c.renewed_in.result = search rules in
    same128 c.renewed_in.result fits ∙ c.renewed_in.ensures.value ∙ pairs_of-shared c.args.after.now (g.R.Rho.rho c.args.rho.now) c.requires.from_one c.if-share_concentration-2.ensures

pub returns-then-share_concentration-3-clause-value : goal.returns-then-share_concentration-3-clause-value
returns-then-share_concentration-3-clause-value g c =
    let fits : FitsSigned w128 c.renewed_in-then-share_concentration-3.result = search rules in
    same128 c.renewed_in-then-share_concentration-3.result fits ∙ c.renewed_in-then-share_concentration-3.ensures.value ∙ pairs_of-shared c.args.after.now (g.R.Rho.rho c.args.rho.now) c.requires.from_one c.if-share_concentration-3.ensures
