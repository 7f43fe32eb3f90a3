-- Weighted factors of which the value is negated.
use Rattle.std.proofs.Common.{◌≡◌, List, Bool, true, false, if◌then◌else◌, ℤ, pos, neg_ℤ, ◌*ℤ◌, ◌^◌, ◌*◌, refl, ap, ◌∙◌}
use Rattle.factor_book.specs.MhUnits.Rounding.{away}
use Rattle.factor_book.specs.SimmKinds.declared.kinds.Tenor.{Tenor}
use Rattle.factor_book.specs.SimmRules.Sums.{total_by}
use Rattle.factor_book.specs.SimmRules.Risks.{Amount}
use Rattle.factor_book.specs.SimmRules.Concentration.{cr}
use Rattle.factor_book.specs.SimmRules.Bucket.{Weighted, weighted_value}
use Rattle.factor_book.specs.SimmRules.Curvature.{scale_of, curvature_risk}
use Rattle.factor_book.proofs.SimmKinds.MhUnits.Integers.{mul-neg}
use Rattle.negated_book.specs.Negated.{negated_amount, negated_amounts}
use Rattle.negated_book.proofs.Numbers.{away-neg, cr-neg, weighted_value-neg}
use Rattle.negated_book.proofs.Lists.{total_turns}

abbrev pub negated_weighted : {A : Type 0} → Weighted A → Weighted A
negated_weighted k = record { of = k.of; w = neg_ℤ k.w; cr = k.cr }

-- by the concentration factor of a group, which stays
pub weighed_in : {A : Type 0} (of : A) (weight x c d : ℤ) → d ≡ c → record { of = of; w = weighted_value weight (neg_ℤ x) d; cr = d } ≡ negated_weighted (record { of = of; w = weighted_value weight x c; cr = c })
weighed_in of weight x c d e = λ i. record {
  of = of;
  w = (ap (weighted_value weight (neg_ℤ x)) e ∙ weighted_value-neg weight x c) i;
  cr = e i;
}

-- of a factor that is a concentration group by itself
abbrev pub alone : {A : Type 0} → ℤ → ℤ → A → ℤ → Weighted A
alone weight threshold of x = record { of = of; w = weighted_value weight x (cr x threshold); cr = cr x threshold }

pub alone-negated : {A : Type 0} (weight threshold : ℤ) (of : A) (x : ℤ) → alone weight threshold of (neg_ℤ x) ≡ negated_weighted (alone weight threshold of x)
alone-negated weight threshold of x = weighed_in of weight x (cr x threshold) (cr (neg_ℤ x) threshold) (cr-neg x threshold)

-- ---- curvature

pub curvature_risk-negated : (sigma : ℤ) (amounts : List (Amount Tenor)) → curvature_risk sigma (negated_amounts amounts) ≡ neg_ℤ (curvature_risk sigma amounts)
curvature_risk-negated sigma amounts =
    let risk : Amount Tenor → ℤ = λ a. scale_of a.of *ℤ sigma *ℤ a.amount in
    ap (λ z. away z (pos (21900 * 10 ^ 4))) (total_turns risk negated_amount (λ a. mul-neg (scale_of a.of *ℤ sigma) a.amount) amounts)
    ∙ away-neg (total_by risk amounts) (21900 * 10 ^ 4)

-- a bucket without curvature has none on either side
pub no_curvature : (t : Bool) (x y : ℤ) → x ≡ neg_ℤ y → (if t then x else pos 0) ≡ neg_ℤ (if t then y else pos 0)
no_curvature true x y e = e
no_curvature false x y e = refl
