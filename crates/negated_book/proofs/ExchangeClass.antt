-- Foreign exchange.
use Rattle.std.proofs.Common.{◌≡◌, ℕ, List, not, ℤ, refl, ap, ◌∙◌}
use Rattle.std.specs.List.{filter}
use Rattle.factor_book.specs.SimmKinds.declared.kinds.Tenor.{Tenor}
use Rattle.factor_book.specs.SimmKinds.declared.kinds.BucketId.{BucketId}
use Rattle.factor_book.specs.SimmKinds.declared.kinds.BucketId.TheVariants as bucket_id
use Rattle.factor_book.specs.SimmKinds.Pair.{Pair}
use Rattle.factor_book.specs.SimmKinds.Order.{same_name, pair_cmp, same_pair}
use Rattle.factor_book.specs.SimmRules.declared.values.BucketMargin.{BucketMargin}
use Rattle.factor_book.specs.SimmRules.Params.{Params}
use Rattle.factor_book.specs.SimmRules.Net.{Sensitivity}
use Rattle.factor_book.specs.SimmRules.Risks.{Amount, select}
use Rattle.factor_book.specs.SimmRules.Concentration.{one}
use Rattle.factor_book.specs.SimmRules.Bucket.{Weighted, concentrated, squared}
use Rattle.factor_book.specs.SimmRules.Across.{Part}
use Rattle.factor_book.specs.SimmRules.Curvature.{curvature_risk, curved}
use Rattle.factor_book.specs.SimmRules.Priced.{price_vega_risk}
use Rattle.factor_book.specs.SimmRules.ForeignExchange.{PairVolatility, as_currency, as_pair_volatility, is_own_currency, fx_weight, fx_threshold, fx_sigma, fx_vega_threshold, currencies_of, weighted_currency, currency_rho, fx_value, fx_delta, pair_rho, fx_vega_value, fx_vega, fx_curvature_value, fx_curvature_part}
use Rattle.negated_book.specs.Negated.{negated_nets, negated_amounts, negated_part}
use Rattle.negated_book.specs.Turned.{IsEven, Turns}
use Rattle.negated_book.proofs.Netting.{select-negated, kept-negated}
use Rattle.negated_book.proofs.Weighed.{negated_weighted, alone, alone-negated, curvature_risk-negated}
use Rattle.negated_book.proofs.Buckets.{of_amounts}
use Rattle.negated_book.proofs.Tenors.{over_tenors, vega_risk-negated}

-- ---- delta

currencies_of-negated : (p : Params) (ss : List Sensitivity) → currencies_of p (negated_nets ss) ≡ negated_amounts (currencies_of p ss)
currencies_of-negated p ss =
    ap (filter (λ (a : Amount (List ℕ)). not (is_own_currency p a.of))) (select-negated as_currency ss)
    ∙ kept-negated (λ (currency : List ℕ). not (is_own_currency p currency)) (select as_currency ss)

pub fx_value-turns : (p : Params) → Turns (fx_value p)
fx_value-turns p currencies =
    of_amounts (concentrated same_name (currency_rho p)) (λ k l. refl) one (weighted_currency p) (weighted_currency p) (λ a. alone-negated (fx_weight p a.of) (fx_threshold p a.of) a.of a.amount) currencies

pub fx_delta-even : (p : Params) → IsEven (fx_delta p)
fx_delta-even p ss = ap (λ (v : BucketMargin). v.k) (ap (fx_value p) (currencies_of-negated p ss) ∙ fx_value-turns p (currencies_of p ss))

-- ---- vega

pub fx_vega_value-turns : (p : Params) → Turns (fx_vega_value p)
fx_vega_value-turns p =
    over_tenors pair_cmp same_pair (λ (v : PairVolatility). v.pair) (λ v. v.tenor) (concentrated same_pair (pair_rho p)) (λ k l. refl) weighted each
  where
    risk : Pair → List (Amount Tenor) → ℤ
    risk pair amounts = price_vega_risk p.fx.hvr (fx_sigma p pair) amounts

    weighted : Pair → List (Amount Tenor) → Weighted Pair
    weighted pair amounts = alone p.fx.vrw (fx_vega_threshold p pair) pair (risk pair amounts)

    each : (pair : Pair) (amounts : List (Amount Tenor)) → weighted pair (negated_amounts amounts) ≡ negated_weighted (weighted pair amounts)
    each pair amounts =
        ap (alone p.fx.vrw (fx_vega_threshold p pair) pair) (vega_risk-negated p.fx.hvr (fx_sigma p pair) amounts)
        ∙ alone-negated p.fx.vrw (fx_vega_threshold p pair) pair (risk pair amounts)

pub fx_vega-even : (p : Params) → IsEven (fx_vega p)
fx_vega-even p ss = ap (λ (v : BucketMargin). v.k) (ap (fx_vega_value p) (select-negated as_pair_volatility ss) ∙ fx_vega_value-turns p (select as_pair_volatility ss))

-- ---- curvature

pub fx_curvature_value-turns : (p : Params) → Turns (fx_curvature_value p)
fx_curvature_value-turns p =
    over_tenors pair_cmp same_pair (λ (v : PairVolatility). v.pair) (λ v. v.tenor) (squared same_pair (pair_rho p)) (λ k l. refl)
    (λ pair amounts. curved pair (curvature_risk (fx_sigma p pair) amounts)) (λ pair amounts. ap (curved pair) (curvature_risk-negated (fx_sigma p pair) amounts))

pub fx_curvature_part-turns : (p : Params) (ss : List Sensitivity) → fx_curvature_part p (negated_nets ss) ≡ negated_part (fx_curvature_part p ss)
fx_curvature_part-turns p ss = ap part (ap (fx_curvature_value p) (select-negated as_pair_volatility ss) ∙ fx_curvature_value-turns p (select as_pair_volatility ss))
  where
    part : BucketMargin → Part BucketId
    part v = record { at = bucket_id.Single; value = v }
