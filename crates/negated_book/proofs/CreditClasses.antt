-- Credit, of both classes.
use Rattle.std.proofs.Common.{◌≡◌, List, [], ◌∷◌, map, Bool, ℤ, pos, ℕ, refl, ap, ◌∙◌}
use Rattle.std.specs.List.{filter}
use Rattle.factor_book.specs.SimmKinds.declared.kinds.Tenor.{Tenor}
use Rattle.factor_book.specs.SimmKinds.Tenors.{tenor_at}
use Rattle.factor_book.specs.SimmKinds.Order.{same_name}
use Rattle.factor_book.specs.SimmRules.Params.{CreditBucket, CreditParams}
use Rattle.factor_book.specs.SimmRules.Sums.{total_by}
use Rattle.factor_book.specs.SimmRules.Risks.{Amount, CreditPoint}
use Rattle.factor_book.specs.SimmRules.declared.classes.CreditClass.{CreditClass}
use Rattle.factor_book.specs.SimmRules.Concentration.{one, cr}
use Rattle.factor_book.specs.SimmRules.Bucket.{concentrated, squared, bucket_value}
use Rattle.factor_book.specs.SimmRules.Curvature.{curvature_risk, curved}
use Rattle.factor_book.specs.SimmRules.Credit.{as_credit, as_credit_volatility, listed_credit, same_point, credit_rho, issuer_cr, weighted_point, credit_value, credit_parts, credit_delta, credit_vega_value, credit_vega_parts, credit_vega, curved_point, credit_curvature_value, credit_curvature_parts}
use Rattle.negated_book.specs.Negated.{negated_amount, negated_amounts}
use Rattle.negated_book.specs.Turned.{IsEven, Turns, TurnParts}
use Rattle.negated_book.proofs.Numbers.{cr-neg}
use Rattle.negated_book.proofs.Netting.{kept-negated, amounts-negated}
use Rattle.negated_book.proofs.Weighed.{negated_weighted, weighed_in, curvature_risk-negated, no_curvature}
use Rattle.negated_book.proofs.Buckets.{of_amounts}
use Rattle.negated_book.proofs.Across.{even_margin, listed_parts}

issuer_cr-negated : (points : List (Amount CreditPoint)) (threshold : ℤ) (issuer : List ℕ) → issuer_cr (negated_amounts points) threshold issuer ≡ issuer_cr points threshold issuer
issuer_cr-negated points threshold issuer =
    let own : List (Amount CreditPoint) = filter (λ a. same_name (a.of).issuer issuer) points in
    ap (λ amounts. cr (total_by (λ (a : Amount CreditPoint). a.amount) amounts) threshold) (kept-negated (λ (k : CreditPoint). same_name k.issuer issuer) points)
    ∙ ap (λ z. cr z threshold) (amounts-negated own) ∙ cr-neg (total_by (λ a. a.amount) own) threshold

weighted_point-negated : (weight threshold : ℤ) (points : List (Amount CreditPoint)) (a : Amount CreditPoint) → weighted_point weight threshold (negated_amounts points) (negated_amount a) ≡ negated_weighted (weighted_point weight threshold points a)
weighted_point-negated weight threshold points a =
    weighed_in a.of weight a.amount (issuer_cr points threshold (a.of).issuer) (issuer_cr (negated_amounts points) threshold (a.of).issuer) (issuer_cr-negated points threshold (a.of).issuer)

points-turn : (b : CreditBucket) (weight threshold : ℤ) → Turns (λ points. bucket_value (concentrated same_point (credit_rho b)) one (map (weighted_point weight threshold points) points))
points-turn b weight threshold points =
    of_amounts (concentrated same_point (credit_rho b)) (λ k l. refl) one (weighted_point weight threshold points) (weighted_point weight threshold (negated_amounts points)) (weighted_point-negated weight threshold points) points

-- ---- delta

pub credit_value-turns : (b : CreditBucket) → Turns (credit_value b)
credit_value-turns b = points-turn b (b.terms).weight ((b.terms).thresholds).delta

credit_parts-turn : (c : CreditParams) (class : CreditClass) → TurnParts (credit_parts c class)
credit_parts-turn c class = listed_parts (λ (b : CreditBucket). (b.terms).id) (λ b. as_credit class (b.terms).id) credit_value credit_value-turns c.buckets

pub credit_delta-even : (c : CreditParams) (class : CreditClass) → IsEven (credit_delta c class)
credit_delta-even c class = even_margin (listed_credit c) c.gamma (credit_parts c class) (credit_parts-turn c class)

-- ---- vega

pub credit_vega_value-turns : (b : CreditBucket) → Turns (credit_vega_value b)
credit_vega_value-turns b = points-turn b (b.terms).vrw ((b.terms).thresholds).vega

credit_vega_parts-turn : (c : CreditParams) (class : CreditClass) → TurnParts (credit_vega_parts c class)
credit_vega_parts-turn c class = listed_parts (λ (b : CreditBucket). (b.terms).id) (λ b. as_credit_volatility class (b.terms).id) credit_vega_value credit_vega_value-turns c.buckets

pub credit_vega-even : (c : CreditParams) (class : CreditClass) → IsEven (credit_vega c class)
credit_vega-even c class = even_margin (listed_credit c) c.gamma (credit_vega_parts c class) (credit_vega_parts-turn c class)

-- ---- curvature

curved_point-negated : (curvature : Bool) (a : Amount CreditPoint) → curved_point curvature (negated_amount a) ≡ negated_weighted (curved_point curvature a)
curved_point-negated curvature a =
    let own : List (Amount Tenor) = record { of = tenor_at (a.of).tenor; amount = a.amount } ∷ [] in
    ap (curved a.of) (no_curvature curvature (curvature_risk (pos 10000) (negated_amounts own)) (curvature_risk (pos 10000) own) (curvature_risk-negated (pos 10000) own))

pub credit_curvature_value-turns : (b : CreditBucket) → Turns (credit_curvature_value b)
credit_curvature_value-turns b points =
    of_amounts (squared same_point (credit_rho b)) (λ k l. refl) one (curved_point (b.terms).curvature) (curved_point (b.terms).curvature) (curved_point-negated (b.terms).curvature) points

pub credit_curvature_parts-turn : (c : CreditParams) (class : CreditClass) → TurnParts (credit_curvature_parts c class)
credit_curvature_parts-turn c class =
    listed_parts (λ (b : CreditBucket). (b.terms).id) (λ b. as_credit_volatility class (b.terms).id) credit_curvature_value credit_curvature_value-turns c.buckets
