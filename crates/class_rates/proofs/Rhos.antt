-- The correlations of rates and of volatilities: the same both ways round, at most 1 in size, and as a product of two correlations
-- in millionths.
use Rattle.std.proofs.Common.{◌≡◌, ℕ, ◌<◌, ◌≤◌, List, [], get_or, Bool, true, false, ◌==◌, if◌then◌else◌, refl, ap, ◌∙◌, ℤ, pos, negsuc, ◌*ℤ◌, ◌≤ℤ◌, ◌<ℤ◌, unsigned_abs, length, arith, lit<}
use Rattle.std.proofs.Math.IntN.{*ℤ_comm}
use Rattle.std.proofs.lemmas.Int.{ints}
use Rattle.std.proofs.lemmas.Cmp.{nat_eq_equiv}
use Rattle.measured_bucket.specs.MhUnits.Rounding.{down, up, trunc}
use Rattle.measured_bucket.proofs.MhUnits.Roundings.{down_is, up_is, IsDown_unique, IsUp_unique, trunc_abs}
use Rattle.measured_bucket.proofs.MhUnits.Integers.{product_size, size_from_bounds, mul_regroup}
use Rattle.measured_bucket.specs.SimmKinds.declared.kinds.Tenor.{Tenor}
use Rattle.measured_bucket.specs.SimmKinds.declared.kinds.Tenor.TheVariants as tenor
use Rattle.measured_bucket.specs.SimmKinds.declared.kinds.SubCurve.{SubCurve}
use Rattle.measured_bucket.specs.SimmKinds.Order.{tenor_place, sub_place}
use Rattle.measured_bucket.specs.SimmRules.Params.{Params}
use Rattle.measured_bucket.specs.SimmRules.Lookups.{at_row, six}
use Rattle.measured_bucket.specs.SimmRules.Risks.{Rate, Curve, Inflation, Basis, RateVolatility, Of_rates, Of_inflation}
use Rattle.measured_bucket.specs.SimmRules.Concentration.{one}
use Rattle.measured_bucket.specs.SimmRules.Bucket.{combined}
use Rattle.measured_bucket.specs.SimmRules.Rates.{tenor_rho, sub_rho, rate_rho, rate_volatility_rho}
use Rattle.measured_bucket.specs.SimmParams.Facts.{IsParams}
use Rattle.class_rates.specs.declared.rates.RateNet.{RateNet}
use Rattle.class_rates.specs.declared.volatilities.VolatilityNet.{VolatilityNet}
use Rattle.class_rates.specs.Rates.{rule_rate}
use Rattle.class_rates.specs.Volatilities.{rule_volatility}
use Rattle.class_rates.specs.Rho.{no_rate, rho_at, no_volatility, volatility_rho_at}

-- ---- tenors

tenor_below : (t : Tenor) → tenor_place t < 12
tenor_below tenor.W2 = lit< tt
tenor_below tenor.M1 = lit< tt
tenor_below tenor.M3 = lit< tt
tenor_below tenor.M6 = lit< tt
tenor_below tenor.Y1 = lit< tt
tenor_below tenor.Y2 = lit< tt
tenor_below tenor.Y3 = lit< tt
tenor_below tenor.Y5 = lit< tt
tenor_below tenor.Y10 = lit< tt
tenor_below tenor.Y15 = lit< tt
tenor_below tenor.Y20 = lit< tt
tenor_below tenor.Y30 = lit< tt

turned : (m n : ℕ) → (m == n) ≡ (n == m)
turned m n = nat_eq_equiv.symm m n

module _ (p : Params) (facts : IsParams p) where
  tenor_within : (t : Tenor) → tenor_place t < length p.ir.rho
  tenor_within t = omega (arith, tenor_below t, facts.ir.rho.full)

  matrix_turned : (t u : Tenor) → at_row p.ir.rho (tenor_place t) (tenor_place u) ≡ at_row p.ir.rho (tenor_place u) (tenor_place t)
  matrix_turned t u = facts.ir.rho_mirrored.symmetric (tenor_place t) (tenor_place u) (tenor_within t) (tenor_within u)

  tenor_rho-symmetric : (t u : Tenor) → tenor_rho p t u ≡ tenor_rho p u t
  tenor_rho-symmetric t u =
      ap (λ b. if b then pos 10000 else at_row p.ir.rho (tenor_place t) (tenor_place u)) (turned (tenor_place t) (tenor_place u))
      ∙ ap (λ z. if tenor_place u == tenor_place t then pos 10000 else z) (matrix_turned t u)

  sub_rho-symmetric : (s v : SubCurve) → sub_rho p s v ≡ sub_rho p v s
  sub_rho-symmetric s v = ap (λ b. if b then pos 10000 else p.ir.phi) (turned (sub_place s) (sub_place v))

  rate_rho-symmetric : (a b : Rate) → rate_rho p a b ≡ rate_rho p b a
  rate_rho-symmetric (Curve t s) (Curve u v) =
      ap (λ z. trunc (z *ℤ tenor_rho p t u) (pos 100)) (sub_rho-symmetric s v) ∙ ap (λ z. trunc (sub_rho p v s *ℤ z) (pos 100)) (tenor_rho-symmetric t u)
  rate_rho-symmetric (Curve t s) Inflation = refl
  rate_rho-symmetric (Curve t s) Basis = refl
  rate_rho-symmetric Inflation (Curve u v) = refl
  rate_rho-symmetric Inflation Inflation = refl
  rate_rho-symmetric Inflation Basis = refl
  rate_rho-symmetric Basis (Curve u v) = refl
  rate_rho-symmetric Basis Inflation = refl
  rate_rho-symmetric Basis Basis = refl

  volatility_rho-symmetric : (a b : RateVolatility) → rate_volatility_rho p a b ≡ rate_volatility_rho p b a
  volatility_rho-symmetric (Of_rates t) (Of_rates u) = ap six (tenor_rho-symmetric t u)
  volatility_rho-symmetric (Of_rates t) (Of_inflation u) = refl
  volatility_rho-symmetric (Of_inflation t) (Of_rates u) = refl
  volatility_rho-symmetric (Of_inflation t) (Of_inflation u) = ap six (tenor_rho-symmetric t u)

  -- ---- sizes

  chosen_small : (t : Bool) (z : ℤ) → unsigned_abs z ≤ 10000 → unsigned_abs (if t then pos 10000 else z) ≤ 10000
  chosen_small true z h = omega arith
  chosen_small false z h = h

  matrix_small : (t u : Tenor) → unsigned_abs (at_row p.ir.rho (tenor_place t) (tenor_place u)) ≤ 10000
  matrix_small t u =
      let row = facts.ir.rho.rows (tenor_place t) [] (tenor_within t) in
      let rate = row.within (tenor_place u) (pos 0) (omega (arith, tenor_below u, row.full)) in
      size_from_bounds _ 10000 rate.low rate.high

  tenor_rho-small : (t u : Tenor) → unsigned_abs (tenor_rho p t u) ≤ 10000
  tenor_rho-small t u = chosen_small (tenor_place t == tenor_place u) (at_row p.ir.rho (tenor_place t) (tenor_place u)) (matrix_small t u)

  sub_rho-small : (s v : SubCurve) → unsigned_abs (sub_rho p s v) ≤ 10000
  sub_rho-small s v = chosen_small (sub_place s == sub_place v) p.ir.phi (size_from_bounds p.ir.phi 10000 facts.ir.phi.low facts.ir.phi.high)

  six_small : (z : ℤ) → unsigned_abs z ≤ 10000 → unsigned_abs (six z) ≤ 1000000
  six_small z h = product_size (pos 100) z 100 10000 (omega arith) h

  inflation_small : unsigned_abs (six p.ir.inflation_rho) ≤ 1000000
  inflation_small = six_small p.ir.inflation_rho (size_from_bounds p.ir.inflation_rho 10000 facts.ir.inflation_rho.low facts.ir.inflation_rho.high)

  basis_small : unsigned_abs (six p.ir.basis_rho) ≤ 1000000
  basis_small = six_small p.ir.basis_rho (size_from_bounds p.ir.basis_rho 10000 facts.ir.basis_rho.low facts.ir.basis_rho.high)

  curves_small : (a b : ℤ) → unsigned_abs a ≤ 10000 → unsigned_abs b ≤ 10000 → unsigned_abs (trunc (a *ℤ b) (pos 100)) ≤ 1000000
  curves_small a b h k =
      let product = product_size a b 10000 10000 h k in
      let quotient = trunc_abs (a *ℤ b) 100 in
      omega arith

  pub rate_rho-small : (a b : Rate) → unsigned_abs (rate_rho p a b) ≤ 1000000
  rate_rho-small (Curve t s) (Curve u v) = curves_small (sub_rho p s v) (tenor_rho p t u) (sub_rho-small s v) (tenor_rho-small t u)
  rate_rho-small (Curve t s) Inflation = inflation_small
  rate_rho-small (Curve t s) Basis = basis_small
  rate_rho-small Inflation (Curve u v) = inflation_small
  rate_rho-small Inflation Inflation = omega arith
  rate_rho-small Inflation Basis = basis_small
  rate_rho-small Basis (Curve u v) = basis_small
  rate_rho-small Basis Inflation = basis_small
  rate_rho-small Basis Basis = omega arith

  pub volatility_rho-small : (a b : RateVolatility) → unsigned_abs (rate_volatility_rho p a b) ≤ 1000000
  volatility_rho-small (Of_rates t) (Of_rates u) = six_small (tenor_rho p t u) (tenor_rho-small t u)
  volatility_rho-small (Of_rates t) (Of_inflation u) = inflation_small
  volatility_rho-small (Of_inflation t) (Of_rates u) = inflation_small
  volatility_rho-small (Of_inflation t) (Of_inflation u) = six_small (tenor_rho p t u) (tenor_rho-small t u)

  -- ---- by their places

  module _ (nets : List RateNet) (i j : ℕ) where
    abbrev rate_at : ℕ → Rate
    rate_at n = rule_rate (get_or nets n no_rate).rate

    pub rho_at-symmetric : rho_at p nets i j ≡ rho_at p nets j i
    rho_at-symmetric = rate_rho-symmetric (rate_at i) (rate_at j)

    pub rho_at-small : unsigned_abs (rho_at p nets i j) ≤ 1000000
    rho_at-small = rate_rho-small (rate_at i) (rate_at j)

  module _ (nets : List VolatilityNet) (i j : ℕ) where
    abbrev volatility_at : ℕ → RateVolatility
    volatility_at n = rule_volatility (get_or nets n no_volatility).volatility

    pub volatility_rho_at-symmetric : volatility_rho_at p nets i j ≡ volatility_rho_at p nets j i
    volatility_rho_at-symmetric = volatility_rho-symmetric (volatility_at i) (volatility_at j)

    pub volatility_rho_at-small : unsigned_abs (volatility_rho_at p nets i j) ≤ 1000000
    volatility_rho_at-small = volatility_rho-small (volatility_at i) (volatility_at j)

-- ---- as a product in millionths

down_scaled : (z : ℤ) → down (pos 10000 *ℤ z) (pos 1000000) ≡ down z (pos 100)
down_scaled z =
    let large = down_is (pos 10000 *ℤ z) (pos 1000000) (omega (arith, ints)) in
    let small = down_is z (pos 100) (omega (arith, ints)) in
    IsDown_unique (pos 10000 *ℤ z) (pos 1000000) (down (pos 10000 *ℤ z) (pos 1000000)) (down z (pos 100)) large
    record { within = omega (arith, ints, small.within); greatest = λ y under. small.greatest y (omega (arith, ints)) }

up_scaled : (z : ℤ) → up (pos 10000 *ℤ z) (pos 1000000) ≡ up z (pos 100)
up_scaled z =
    let large = up_is (pos 10000 *ℤ z) (pos 1000000) (omega (arith, ints)) in
    let small = up_is z (pos 100) (omega (arith, ints)) in
    IsUp_unique (pos 10000 *ℤ z) (pos 1000000) (up (pos 10000 *ℤ z) (pos 1000000)) (up z (pos 100)) large
    record { enough = omega (arith, ints, small.enough); least = λ y reached. small.least y (omega (arith, ints)) }

trunc_low : (z : ℤ) (b : ℤ) → pos 0 ≤ℤ z → trunc z b ≡ down z b
trunc_low (pos n) b h = refl
trunc_low (negsuc n) b h = absurd h.le

trunc_high : (z : ℤ) (b : ℤ) → z <ℤ pos 0 → trunc z b ≡ up z b
trunc_high (pos n) b h = absurd (omega (arith, ints))
trunc_high (negsuc n) b h = refl

trunc_scaled : (z : ℤ) → trunc (pos 10000 *ℤ z) (pos 1000000) ≡ trunc z (pos 100)
trunc_scaled (pos n) = trunc_low (pos 10000 *ℤ pos n) (pos 1000000) (omega (arith, ints)) ∙ down_scaled (pos n)
trunc_scaled (negsuc n) = trunc_high (pos 10000 *ℤ negsuc n) (pos 1000000) (omega (arith, ints)) ∙ up_scaled (negsuc n)

pub combined_sixes : (a b : ℤ) → combined (six a) (six b) ≡ trunc (b *ℤ a) (pos 100)
combined_sixes a b =
    ap (λ z. trunc z one) (mul_regroup (pos 100) a (pos 100) b ∙ ap (λ z. pos 10000 *ℤ z) (*ℤ_comm a b))
    ∙ trunc_scaled (b *ℤ a)
