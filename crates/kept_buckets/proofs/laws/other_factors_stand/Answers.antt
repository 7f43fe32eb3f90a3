use Rattle.kept_buckets.proofs.Touching.{same_added, same_taken}
use Rattle.kept_buckets.proofs.laws.other_factors_stand.Goals as goal

pub returns-clause-added : goal.returns-clause-added
returns-clause-added c = same_added c.factors_are_netted.ensures.parts

pub returns-clause-taken : goal.returns-clause-taken
returns-clause-taken c = same_taken c.factors_are_netted.ensures.parts
