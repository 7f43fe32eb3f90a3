use Rattle.simm_rules.specs.Net.{sensitivities}
use Rattle.factor_book.proofs.Held.{same_factors, come_to_alike}
use Rattle.factor_book.proofs.Rows.{unmoved, permuted}
use Rattle.factor_book.proofs.laws.order_is_free.Goals as goal

pub returns-clause-alike : goal.returns-clause-alike
returns-clause-alike c = λ xs ys nets sizes counts.
    same_factors (sensitivities xs) (sensitivities ys) (λ k. come_to_alike (sensitivities xs) (sensitivities ys) k (nets k) (sizes k) (counts k))

pub returns-clause-moved : goal.returns-clause-moved
returns-clause-moved c = unmoved

pub returns-clause-permuted : goal.returns-clause-permuted
returns-clause-permuted c = permuted
