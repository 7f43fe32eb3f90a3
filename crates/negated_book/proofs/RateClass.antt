-- Interest rates.
use Rattle.std.proofs.Common.{◌≡◌, ℕ, List, [], ◌∷◌, map, not, if◌then◌else◌, Option, ℤ, pos, refl, ap, ◌∙◌}
use Rattle.std.specs.List.{filter}
use Rattle.factor_book.specs.SimmKinds.Order.{name_cmp, same_name}
use Rattle.factor_book.specs.SimmRules.declared.values.BucketMargin.{BucketMargin}
use Rattle.factor_book.specs.SimmRules.Params.{Params}
use Rattle.factor_book.specs.SimmRules.Sums.{total_by, different}
use Rattle.factor_book.specs.SimmRules.Net.{Sensitivity}
use Rattle.factor_book.specs.SimmRules.Risks.{Risk, Amount, select}
use Rattle.factor_book.specs.SimmRules.Concentration.{one, cr}
use Rattle.factor_book.specs.SimmRules.Bucket.{plain, squared, bucket_value}
use Rattle.factor_book.specs.SimmRules.Across.{Part}
use Rattle.factor_book.specs.SimmRules.Curvature.{curved}
use Rattle.factor_book.specs.SimmRules.Rates.{RateIn, VolatilityIn, as_rate, as_rate_volatility, rate_weight, rate_thresholds, rate_rho, same_rate, rate_volatility_rho, same_rate_volatility, is_basis, rate_cr, weighted_rate, currency_value, rate_parts, across_currencies, rate_delta, rate_volatility_cr, weighted_rate_volatility, currency_vega_value, rate_vega_parts, rate_vega, tenor_of, curved_rate_volatility, currency_curvature_value, rate_curvature_parts}
use Rattle.negated_book.specs.Negated.{negated_nets, negated_amount, negated_amounts}
use Rattle.negated_book.specs.Turned.{IsEven, Turns, TurnParts}
use Rattle.negated_book.proofs.Numbers.{cr-neg}
use Rattle.negated_book.proofs.Netting.{select-negated, kept-negated, amounts-negated, views-negated}
use Rattle.negated_book.proofs.Weighed.{negated_weighted, weighed_in, curvature_risk-negated}
use Rattle.negated_book.proofs.Buckets.{of_amounts}
use Rattle.negated_book.proofs.Across.{even_root, parts-negated}

-- ---- the buckets of a class of sensitivities that each have a currency: one a currency

module _ {X : Type 0} (sort : Risk → Option X) (currency : X → List ℕ) where
  abbrev own : List ℕ → List Sensitivity → List (Amount X)
  own c ss = filter (λ a. same_name (currency a.of) c) (select sort ss)

  abbrev currencies : List Sensitivity → List (List ℕ)
  currencies ss = different name_cmp (map (λ a. currency a.of) (select sort ss))

  pub in_currency-negated : (c : List ℕ) (ss : List Sensitivity) → own c (negated_nets ss) ≡ negated_amounts (own c ss)
  in_currency-negated c ss =
      ap (filter (λ (a : Amount X). same_name (currency a.of) c)) (select-negated sort ss) ∙ kept-negated (λ x. same_name (currency x) c) (select sort ss)

  currencies-negated : (ss : List Sensitivity) → currencies (negated_nets ss) ≡ currencies ss
  currencies-negated ss =
      ap (λ amounts. different name_cmp (map (λ (a : Amount X). currency a.of) amounts)) (select-negated sort ss)
      ∙ ap (different name_cmp) (views-negated currency (select sort ss))

  currency_parts : (value : List ℕ → List (Amount X) → BucketMargin) → ((c : List ℕ) → Turns (value c)) → TurnParts (λ ss. map (λ c. record { at = c; value = value c (own c ss) }) (currencies ss))
  currency_parts value turns ss =
      let part : List ℕ → Part (List ℕ) = λ c. record { at = c; value = value c (own c (negated_nets ss)) } in
      ap (map part) (currencies-negated ss)
      ∙ parts-negated (λ (c : List ℕ). c) (λ c. value c (own c ss)) (λ c. value c (own c (negated_nets ss)))
      (λ c. ap (value c) (in_currency-negated c ss) ∙ turns c (own c ss)) (currencies ss)

-- ---- delta

rate_cr-negated : (p : Params) (currency : List ℕ) (rates : List (Amount RateIn)) → rate_cr p currency (negated_amounts rates) ≡ rate_cr p currency rates
rate_cr-negated p currency rates =
    let threshold : ℤ = (rate_thresholds p currency).delta in
    let grouped : List (Amount RateIn) = filter (λ a. not (is_basis (a.of).rate)) rates in
    ap (λ amounts. cr (total_by (λ (a : Amount RateIn). a.amount) amounts) threshold) (kept-negated (λ (r : RateIn). not (is_basis r.rate)) rates)
    ∙ ap (λ z. cr z threshold) (amounts-negated grouped) ∙ cr-neg (total_by (λ a. a.amount) grouped) threshold

weighted_rate-negated : (p : Params) (c : ℤ) (a : Amount RateIn) → weighted_rate p c (negated_amount a) ≡ negated_weighted (weighted_rate p c a)
weighted_rate-negated p c a =
    let own : ℤ = if is_basis (a.of).rate then one else c in
    weighed_in (a.of).rate (rate_weight p a.of) a.amount own own refl

pub currency_value-turns : (p : Params) (currency : List ℕ) → Turns (currency_value p currency)
currency_value-turns p currency rates =
    ap (λ c. bucket_value (plain same_rate (rate_rho p)) c (map (weighted_rate p c) (negated_amounts rates))) (rate_cr-negated p currency rates)
    ∙ of_amounts (plain same_rate (rate_rho p)) (λ k l. refl) (rate_cr p currency rates)
    (weighted_rate p (rate_cr p currency rates)) (weighted_rate p (rate_cr p currency rates)) (weighted_rate-negated p (rate_cr p currency rates)) rates

rate_parts-turn : (p : Params) → TurnParts (rate_parts p)
rate_parts-turn p = currency_parts as_rate (λ r. r.currency) (currency_value p) (currency_value-turns p)

pub rate_delta-even : (p : Params) → IsEven (rate_delta p)
rate_delta-even p = even_root same_name (across_currencies p) (λ b c. refl) (rate_parts p) (rate_parts-turn p)

-- ---- vega

rate_volatility_cr-negated : (p : Params) (currency : List ℕ) (amounts : List (Amount VolatilityIn)) → rate_volatility_cr p currency (negated_amounts amounts) ≡ rate_volatility_cr p currency amounts
rate_volatility_cr-negated p currency amounts =
    let threshold : ℤ = (rate_thresholds p currency).vega in
    ap (λ z. cr z threshold) (amounts-negated amounts) ∙ cr-neg (total_by (λ a. a.amount) amounts) threshold

pub currency_vega_value-turns : (p : Params) (currency : List ℕ) → Turns (currency_vega_value p currency)
currency_vega_value-turns p currency amounts =
    let own : ℤ = rate_volatility_cr p currency amounts in
    ap (λ c. bucket_value (plain same_rate_volatility (rate_volatility_rho p)) c (map (weighted_rate_volatility p c) (negated_amounts amounts))) (rate_volatility_cr-negated p currency amounts)
    ∙ of_amounts (plain same_rate_volatility (rate_volatility_rho p)) (λ k l. refl) own
    (weighted_rate_volatility p own) (weighted_rate_volatility p own) (λ a. weighed_in (a.of).volatility p.ir.vrw a.amount own own refl) amounts

rate_vega_parts-turn : (p : Params) → TurnParts (rate_vega_parts p)
rate_vega_parts-turn p = currency_parts as_rate_volatility (λ v. v.currency) (currency_vega_value p) (currency_vega_value-turns p)

pub rate_vega-even : (p : Params) → IsEven (rate_vega p)
rate_vega-even p = even_root same_name (across_currencies p) (λ b c. refl) (rate_vega_parts p) (rate_vega_parts-turn p)

-- ---- curvature

curved_rate_volatility-negated : (a : Amount VolatilityIn) → curved_rate_volatility (negated_amount a) ≡ negated_weighted (curved_rate_volatility a)
curved_rate_volatility-negated a = ap (curved (a.of).volatility) (curvature_risk-negated (pos 10000) (record { of = tenor_of (a.of).volatility; amount = a.amount } ∷ []))

pub currency_curvature_value-turns : (p : Params) → Turns (currency_curvature_value p)
currency_curvature_value-turns p amounts =
    of_amounts (squared same_rate_volatility (rate_volatility_rho p)) (λ k l. refl) one curved_rate_volatility curved_rate_volatility curved_rate_volatility-negated amounts

pub rate_curvature_parts-turn : (p : Params) → TurnParts (rate_curvature_parts p)
rate_curvature_parts-turn p = currency_parts as_rate_volatility (λ v. v.currency) (λ _. currency_curvature_value p) (λ _. currency_curvature_value-turns p)
