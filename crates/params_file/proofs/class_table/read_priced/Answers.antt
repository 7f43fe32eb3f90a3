use Rattle.params_file.proofs.ClassLists.{priced_ranged}
use Rattle.params_file.proofs.class_table.read_priced.Goals as goal

pub returns-clause-ranged : goal.returns-clause-ranged
returns-clause-ranged c = priced_ranged c.in_ok-buckets.buckets c.in_ok-hvr.hvr.0 c.in_ok-gamma.gamma c.in_ok-buckets.ensures.within c.in_ok-gamma.ensures.in_order c.in_ok-hvr.ensures.within c.in_ok-gamma.ensures.matrix
