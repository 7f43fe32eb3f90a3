-- Base correlation.
use Rattle.std.proofs.Common.{◌≡◌, ◌^◌, List, ℕ, refl, ap, ◌∙◌}
use Rattle.factor_book.specs.SimmKinds.Order.{same_name}
use Rattle.factor_book.specs.SimmRules.declared.values.BucketMargin.{BucketMargin}
use Rattle.factor_book.specs.SimmRules.Params.{Params}
use Rattle.factor_book.specs.SimmRules.Risks.{Amount, select}
use Rattle.factor_book.specs.SimmRules.Concentration.{one}
use Rattle.factor_book.specs.SimmRules.Bucket.{plain}
use Rattle.factor_book.specs.SimmRules.BaseCorrelation.{as_index, weighted_index, index_rho, base_value, base_margin}
use Rattle.negated_book.specs.Negated.{negated_amount}
use Rattle.negated_book.specs.Turned.{IsEven, Turns}
use Rattle.negated_book.proofs.Numbers.{away-mul-neg}
use Rattle.negated_book.proofs.Netting.{select-negated}
use Rattle.negated_book.proofs.Weighed.{negated_weighted}
use Rattle.negated_book.proofs.Buckets.{of_amounts}

weighted_index-negated : (p : Params) (a : Amount (List ℕ)) → weighted_index p (negated_amount a) ≡ negated_weighted (weighted_index p a)
weighted_index-negated p a = λ i. record { of = a.of; w = away-mul-neg p.base_weight a.amount (10 ^ 4) i; cr = one }

pub base_value-turns : (p : Params) → Turns (base_value p)
base_value-turns p amounts = of_amounts (plain same_name (index_rho p)) (λ k l. refl) one (weighted_index p) (weighted_index p) (weighted_index-negated p) amounts

pub base_margin-even : (p : Params) → IsEven (base_margin p)
base_margin-even p ss = ap (λ (v : BucketMargin). v.k) (ap (base_value p) (select-negated as_index ss) ∙ base_value-turns p (select as_index ss))
