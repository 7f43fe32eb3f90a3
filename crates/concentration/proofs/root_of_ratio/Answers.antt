use Rattle.std.proofs.Common.{rules}
use Rattle.simm_rules.specs.MhUnits.Rounding.{root}
use Rattle.concentration.proofs.Factors.{root_small}
use Rattle.concentration.proofs.root_of_ratio.Goals as goal

pub returns-clause-size : goal.returns-clause-size
unfolding root
returns-clause-size c = root_small c.args.size c.args.threshold c.least_root.result c.requires.positive c.requires.size_in_range (search rules)
