use Rattle.std.proofs.Common.{rules, pos}
use Rattle.mh_units.proofs.Roundings.{root_exact, root_next, root_from}
use Rattle.mh_units.proofs.rounding.least_root.Goals as goal

pub returns-then-below-n-clause-value : goal.returns-then-below-n-clause-value
returns-then-below-n-clause-value c = root_exact c.args.n c.root_down-below.result (search rules)

pub returns-then-below-n-clause-least : goal.returns-then-below-n-clause-least
returns-then-below-n-clause-least c = root_from (pos c.args.n) _ (root_exact c.args.n c.root_down-below.result (search rules))

pub returns-else-below-n-clause-value : goal.returns-else-below-n-clause-value
returns-else-below-n-clause-value c = root_next c.args.n c.root_down-below.result c.root_down-below.ensures.square_le (search rules) c.root_down-below.ensures.next_square_gt
