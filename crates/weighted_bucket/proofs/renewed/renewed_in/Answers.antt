use Rattle.std.proofs.Common.{◌∙◌, sym}
use Rattle.weighted_bucket.proofs.Correlations.{correlation-symmetric, correlation-small}
use Rattle.weighted_bucket.proofs.renewed.renewed_in.Goals as goal

pub invariant_of-was : goal.invariant_of-was
invariant_of-was g c = record {
  sized = c.requires.size ∙ sym c.requires.same_places;
  from_one = c.requires.from_one_before;
  below = c.requires.below_before;
  symmetric = correlation-symmetric g.V.Way.scaling c.args.before.now (g.R.Rho.rho c.args.rho.now) _ (c.requires.size ∙ sym c.requires.same_places) (g.met.R.Rho.symmetric c.args.rho.now);
  at_most_one = correlation-small g.V.Way.scaling c.args.before.now (g.R.Rho.rho c.args.rho.now) _ (c.requires.size ∙ sym c.requires.same_places) c.requires.from_one_before (g.met.R.Rho.at_most_one c.args.rho.now);
}

pub invariant_of-is : goal.invariant_of-is
invariant_of-is g c = record {
  sized = c.requires.size;
  from_one = c.requires.from_one;
  below = c.requires.below;
  symmetric = correlation-symmetric g.W.Way.scaling c.args.after.now (g.R.Rho.rho c.args.rho.now) _ c.requires.size (g.met.R.Rho.symmetric c.args.rho.now);
  at_most_one = correlation-small g.W.Way.scaling c.args.after.now (g.R.Rho.rho c.args.rho.now) _ c.requires.size c.requires.from_one (g.met.R.Rho.at_most_one c.args.rho.now);
}
