-- Volatilities of several tenors that are one factor: the factors are those of the amounts' names, which negation leaves, and each
-- has the negated amounts.
use Rattle.std.proofs.Common.{◌≡◌, ◌^◌, List, map, Bool, ℤ, pos, neg_ℤ, ◌*ℤ◌, sym, ap, ◌∙◌}
use Rattle.std.specs.declared.cmp.Ordering.{Ordering}
use Rattle.std.specs.List.{filter}
use Rattle.std.proofs.lemmas.Simd.{map-map}
use Rattle.factor_book.specs.MhUnits.Rounding.{away}
use Rattle.factor_book.specs.SimmKinds.declared.kinds.Tenor.{Tenor}
use Rattle.factor_book.specs.SimmRules.Sums.{total_by, different}
use Rattle.factor_book.specs.SimmRules.Risks.{Amount}
use Rattle.factor_book.specs.SimmRules.Concentration.{one}
use Rattle.factor_book.specs.SimmRules.Bucket.{Weighted, bucket_value}
use Rattle.factor_book.specs.SimmRules.Priced.{price_vega_risk}
use Rattle.negated_book.specs.Negated.{negated_amount, negated_amounts}
use Rattle.negated_book.specs.Turned.{Turns}
use Rattle.negated_book.proofs.Numbers.{away-mul-neg}
use Rattle.negated_book.proofs.Netting.{kept-negated, amounts-negated, views-negated}
use Rattle.negated_book.proofs.Weighed.{negated_weighted}
use Rattle.negated_book.proofs.Buckets.{of_things}

module _ {K V : Type 0} (cmp : K → K → Ordering) (same : K → K → Bool) (key : V → K) (tenor : V → Tenor) where
  abbrev tenors : List (Amount V) → K → List (Amount Tenor)
  tenors amounts k = map (λ a. record { of = tenor a.of; amount = a.amount }) (filter (λ a. same (key a.of) k) amounts)

  abbrev keys : List (Amount V) → List K
  keys amounts = different cmp (map (λ a. key a.of) amounts)

  tenors-negated : (amounts : List (Amount V)) (k : K) → tenors (negated_amounts amounts) k ≡ negated_amounts (tenors amounts k)
  tenors-negated amounts k =
      let timed : Amount V → Amount Tenor = λ a. record { of = tenor a.of; amount = a.amount } in
      let own : List (Amount V) = filter (λ a. same (key a.of) k) amounts in
      ap (map timed) (kept-negated (λ v. same (key v) k) amounts) ∙ map-map timed negated_amount own ∙ sym (map-map negated_amount timed own)

  -- the bucket of these factors, each weighed by its amounts by tenor
  pub over_tenors : (corr : Weighted K → Weighted K → ℤ) → ((k l : Weighted K) → corr (negated_weighted k) (negated_weighted l) ≡ corr k l)
      → (factor : K → List (Amount Tenor) → Weighted K) → ((k : K) (amounts : List (Amount Tenor)) → factor k (negated_amounts amounts) ≡ negated_weighted (factor k amounts))
      → Turns (λ amounts. bucket_value corr one (map (λ k. factor k (tenors amounts k)) (keys amounts)))
  over_tenors corr blind factor each amounts =
      ap (λ ks. bucket_value corr one (map (λ k. factor k (tenors (negated_amounts amounts) k)) ks)) (ap (different cmp) (views-negated key amounts))
      ∙ of_things corr blind one (λ k. factor k (tenors amounts k)) (λ k. factor k (tenors (negated_amounts amounts) k))
      (λ k. ap (factor k) (tenors-negated amounts k) ∙ each k (tenors amounts k)) (keys amounts)

-- the vega risk of such a factor
pub vega_risk-negated : (hvr sigma : ℤ) (amounts : List (Amount Tenor)) → price_vega_risk hvr sigma (negated_amounts amounts) ≡ neg_ℤ (price_vega_risk hvr sigma amounts)
vega_risk-negated hvr sigma amounts =
    ap (λ z. away (hvr *ℤ sigma *ℤ z) (pos (10 ^ 8))) (amounts-negated amounts) ∙ away-mul-neg (hvr *ℤ sigma) (total_by (λ a. a.amount) amounts) (10 ^ 8)
