use Rattle.kept_buckets.proofs.Touching.{forgets_both, same_both}
use Rattle.kept_buckets.proofs.laws.touches_add_up.Goals as goal

pub returns-clause-forgotten : goal.returns-clause-forgotten
returns-clause-forgotten c = forgets_both

pub returns-clause-others : goal.returns-clause-others
returns-clause-others c = same_both
