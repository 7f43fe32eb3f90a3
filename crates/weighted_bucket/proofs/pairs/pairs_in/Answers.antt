use Rattle.weighted_bucket.proofs.Correlations.{correlation-symmetric, correlation-small}
use Rattle.weighted_bucket.proofs.pairs.pairs_in.Goals as goal

pub invariant_of-correlated : goal.invariant_of-correlated
invariant_of-correlated g c = record {
  sized = c.requires.size;
  from_one = c.requires.from_one;
  below = c.requires.below;
  symmetric = correlation-symmetric g.W.Way.scaling c.args.factors.now (g.R.Rho.rho c.args.rho.now) _ c.requires.size (g.met.R.Rho.symmetric c.args.rho.now);
  at_most_one = correlation-small g.W.Way.scaling c.args.factors.now (g.R.Rho.rho c.args.rho.now) _ c.requires.size c.requires.from_one (g.met.R.Rho.at_most_one c.args.rho.now);
}
