-- The curvature risk of one factor is the rule's, and how large it is.
use Rattle.std.proofs.Common.{◌≡◌, ◌^◌, ◌+◌, ◌*◌, ◌≤◌, List, [], ◌∷◌, sym, ap, ◌∙◌, ℤ, pos, ◌+ℤ◌, ◌*ℤ◌, unsigned_abs, arith}
use Rattle.std.proofs.Math.IntN.{+ℤ_idr, *ℤ_comm, zero-*ℤ}
use Rattle.std.proofs.lemmas.Int.{unsigned_abs-mul}
use Rattle.simm_params.specs.MhUnits.Rounding.{away}
use Rattle.simm_params.proofs.MhUnits.Integers.{mul_assoc_ℤ, mul-add_ℤ}
use Rattle.simm_params.specs.SimmKinds.declared.kinds.Tenor.{Tenor}
use Rattle.simm_params.specs.SimmRules.Sums.{total_by}
use Rattle.simm_params.specs.SimmRules.Risks.{Amount}
use Rattle.simm_params.specs.SimmRules.Concentration.{one}
use Rattle.simm_params.specs.SimmRules.Curvature.{scale_of, curvature_risk}
use Rattle.weighted_bucket.specs.declared.weighed.Weighed.{Weighed}
use Rattle.measured_bucket.specs.Risk.{risk_of}
use Rattle.measured_bucket.proofs.Sizes.{away_size_close}

-- ---- the rule's

scaled_total : (sigma : ℤ) (xs : List (Amount Tenor)) → sigma *ℤ total_by (λ a. scale_of a.of *ℤ a.amount) xs ≡ total_by (λ a. scale_of a.of *ℤ sigma *ℤ a.amount) xs
scaled_total sigma [] = *ℤ_comm sigma (pos 0) ∙ zero-*ℤ sigma
scaled_total sigma (a ∷ xs) =
    let f = scale_of a.of in
    let own : sigma *ℤ (f *ℤ a.amount) ≡ f *ℤ sigma *ℤ a.amount = sym (mul_assoc_ℤ sigma f a.amount) ∙ ap (λ z. z *ℤ a.amount) (*ℤ_comm sigma f) in
    mul-add_ℤ sigma (f *ℤ a.amount) (total_by (λ b. scale_of b.of *ℤ b.amount) xs)
    ∙ ap (λ z. z +ℤ sigma *ℤ total_by (λ b. scale_of b.of *ℤ b.amount) xs) own
    ∙ ap (λ z. f *ℤ sigma *ℤ a.amount +ℤ z) (scaled_total sigma xs)

-- a factor of this risk
abbrev pub with_risk : ℤ → Weighed
with_risk w = record { w = w; cr = record { 0 = one } }

-- the risk of the sum of a factor's nets is the rule's
pub risk_is : (sigma : ℤ) (xs : List (Amount Tenor)) → risk_of sigma (total_by (λ a. scale_of a.of *ℤ a.amount) xs) ≡ curvature_risk sigma xs
risk_is sigma xs = ap (λ z. away z (pos (21900 * 10 ^ 4))) (scaled_total sigma xs)

-- and so is that of one net
pub risk_alone : (sigma : ℤ) (t : Tenor) (x : ℤ) → risk_of sigma (scale_of t *ℤ x) ≡ curvature_risk sigma (record { of = t; amount = x } ∷ [])
risk_alone sigma t x = ap (risk_of sigma) (sym (+ℤ_idr (scale_of t *ℤ x))) ∙ risk_is sigma (record { of = t; amount = x } ∷ [])

-- at no volatility there is none
pub risk_none : (x : ℤ) → risk_of (pos 0) x ≡ pos 0
risk_none x = ap (λ z. away z (pos (21900 * 10 ^ 4))) (zero-*ℤ x)

-- ---- sizes

pub risk_close : (sigma x : ℤ) → unsigned_abs (risk_of sigma x) * 219000000 ≤ unsigned_abs x * unsigned_abs sigma + 219000000
risk_close sigma x = omega (arith, away_size_close (sigma *ℤ x) 219000000 (omega arith), unsigned_abs-mul sigma x)
