use Rattle.std.proofs.Common.{ap, subst}
use Rattle.kept_buckets.specs.Kept.{AreOfPlaces, Kept}
use Rattle.kept_buckets.proofs.kept.KeptBuckets.facts.Goals as goal

pub returns : goal.returns
returns c = subst AreOfPlaces (ap (λ (k : Kept). k.values) c.self.view_is) c.self.invariant
