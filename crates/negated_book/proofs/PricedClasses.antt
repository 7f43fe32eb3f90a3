-- Equity and commodities.
use Rattle.std.proofs.Common.{◌≡◌, List, ℕ, ℤ, pos, if◌then◌else◌, refl, ap, ◌∙◌}
use Rattle.factor_book.specs.SimmKinds.declared.kinds.Tenor.{Tenor}
use Rattle.factor_book.specs.SimmKinds.Order.{name_cmp, same_name}
use Rattle.factor_book.specs.SimmRules.Params.{PricedBucket, PricedParams}
use Rattle.factor_book.specs.SimmRules.Risks.{Amount}
use Rattle.factor_book.specs.SimmRules.declared.classes.PricedClass.{PricedClass}
use Rattle.factor_book.specs.SimmRules.Concentration.{one}
use Rattle.factor_book.specs.SimmRules.Bucket.{Weighted, concentrated, squared}
use Rattle.factor_book.specs.SimmRules.Curvature.{curvature_risk, curved}
use Rattle.factor_book.specs.SimmRules.Priced.{NameVolatility, as_price, as_price_volatility, listed_priced, name_rho, weighted_name, price_value, price_parts, price_delta, price_vega_risk, price_vega_value, price_vega_parts, price_vega, price_curvature_value, price_curvature_parts}
use Rattle.negated_book.specs.Negated.{negated_amounts}
use Rattle.negated_book.specs.Turned.{IsEven, Turns, TurnParts}
use Rattle.negated_book.proofs.Weighed.{negated_weighted, alone-negated, curvature_risk-negated, no_curvature}
use Rattle.negated_book.proofs.Buckets.{of_amounts}
use Rattle.negated_book.proofs.Across.{even_margin, listed_parts}
use Rattle.negated_book.proofs.Tenors.{over_tenors, vega_risk-negated}

-- ---- delta

pub price_value-turns : (b : PricedBucket) → Turns (price_value b)
price_value-turns b names =
    let weighted : Amount (List ℕ) → Weighted (List ℕ) = λ a. weighted_name (b.terms).weight ((b.terms).thresholds).delta a.of a.amount in
    of_amounts (concentrated same_name (name_rho b)) (λ k l. refl) one weighted weighted (λ a. alone-negated (b.terms).weight ((b.terms).thresholds).delta a.of a.amount) names

price_parts-turn : (c : PricedParams) (class : PricedClass) → TurnParts (price_parts c class)
price_parts-turn c class = listed_parts (λ (b : PricedBucket). (b.terms).id) (λ b. as_price class (b.terms).id) price_value price_value-turns c.buckets

pub price_delta-even : (c : PricedParams) (class : PricedClass) → IsEven (price_delta c class)
price_delta-even c class = even_margin (listed_priced c) c.gamma (price_parts c class) (price_parts-turn c class)

-- ---- vega

pub price_vega_value-turns : (hvr : ℤ) (b : PricedBucket) → Turns (price_vega_value hvr b)
price_vega_value-turns hvr b =
    over_tenors name_cmp same_name (λ (v : NameVolatility). v.name) (λ v. v.tenor) (concentrated same_name (name_rho b)) (λ k l. refl) weighted each
  where
    weighted : List ℕ → List (Amount Tenor) → Weighted (List ℕ)
    weighted name amounts = weighted_name (b.terms).vrw ((b.terms).thresholds).vega name (price_vega_risk hvr b.sigma amounts)

    each : (name : List ℕ) (amounts : List (Amount Tenor)) → weighted name (negated_amounts amounts) ≡ negated_weighted (weighted name amounts)
    each name amounts =
        ap (weighted_name (b.terms).vrw ((b.terms).thresholds).vega name) (vega_risk-negated hvr b.sigma amounts)
        ∙ alone-negated (b.terms).vrw ((b.terms).thresholds).vega name (price_vega_risk hvr b.sigma amounts)

price_vega_parts-turn : (c : PricedParams) (class : PricedClass) → TurnParts (price_vega_parts c class)
price_vega_parts-turn c class =
    listed_parts (λ (b : PricedBucket). (b.terms).id) (λ b. as_price_volatility class (b.terms).id) (price_vega_value c.hvr) (price_vega_value-turns c.hvr) c.buckets

pub price_vega-even : (c : PricedParams) (class : PricedClass) → IsEven (price_vega c class)
price_vega-even c class = even_margin (listed_priced c) c.gamma (price_vega_parts c class) (price_vega_parts-turn c class)

-- ---- curvature

pub price_curvature_value-turns : (b : PricedBucket) → Turns (price_curvature_value b)
price_curvature_value-turns b =
    over_tenors name_cmp same_name (λ (v : NameVolatility). v.name) (λ v. v.tenor) (squared same_name (name_rho b)) (λ k l. refl)
    (λ name amounts. curved name (if (b.terms).curvature then curvature_risk b.sigma amounts else pos 0))
    (λ name amounts. ap (curved name) (no_curvature (b.terms).curvature (curvature_risk b.sigma (negated_amounts amounts)) (curvature_risk b.sigma amounts) (curvature_risk-negated b.sigma amounts)))

pub price_curvature_parts-turn : (c : PricedParams) (class : PricedClass) → TurnParts (price_curvature_parts c class)
price_curvature_parts-turn c class =
    listed_parts (λ (b : PricedBucket). (b.terms).id) (λ b. as_price_volatility class (b.terms).id) price_curvature_value price_curvature_value-turns c.buckets
