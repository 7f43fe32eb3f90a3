use Rattle.simm_kinds.proofs.Variants.{equal_by}
use Rattle.simm_kinds.proofs.Orders.{factor_cmp_is, factor_total, same_factor-equal, key_cmp_is, key_total, same_key-equal}
use Rattle.simm_kinds.proofs.order_laws.orders_are_defined.Goals as goal

pub returns-clause-factors : goal.returns-clause-factors
returns-clause-factors c = factor_cmp_is

pub returns-clause-keys : goal.returns-clause-keys
returns-clause-keys c = key_cmp_is

pub returns-clause-factor_total : goal.returns-clause-factor_total
returns-clause-factor_total c = factor_total

pub returns-clause-factor_exact : goal.returns-clause-factor_exact
returns-clause-factor_exact c = same_factor-equal

pub returns-clause-key_total : goal.returns-clause-key_total
returns-clause-key_total c = key_total

pub returns-clause-key_exact : goal.returns-clause-key_exact
returns-clause-key_exact c = same_key-equal

pub returns-clause-factor_equal : goal.returns-clause-factor_equal
returns-clause-factor_equal c = equal_by c.equals_tie.ensures factor_cmp_is same_factor-equal

pub returns-clause-key_equal : goal.returns-clause-key_equal
returns-clause-key_equal c = equal_by c.equals_tie-2.ensures key_cmp_is same_key-equal
