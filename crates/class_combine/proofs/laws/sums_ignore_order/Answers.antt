use Rattle.class_combine.proofs.Held.{same_sums, unmoved_sums}
use Rattle.class_combine.proofs.laws.sums_ignore_order.Goals as goal

pub returns-clause-alike : goal.returns-clause-alike
returns-clause-alike c = same_sums

pub returns-clause-moved : goal.returns-clause-moved
returns-clause-moved c = unmoved_sums
