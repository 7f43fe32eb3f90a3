-- Currencies by their categories: weights, thresholds, and correlations, which are the same both ways round and at most 1 in size.
use Rattle.std.proofs.Common.{◌≡◌, ◌≤◌, ℕ, List, Bool, true, false, cond, ◌&&◌, ◌||◌, if◌then◌else◌, pos, ◌*ℤ◌, ◌≤ℤ◌, unsigned_abs, refl, sym, ap, ◌∙◌, subst, arith}
use Rattle.std.proofs.lemmas.Int.{ints}
use Rattle.measured_bucket.proofs.MhUnits.Integers.{product_size}
use Rattle.measured_bucket.specs.SimmRules.Params.{Params}
use Rattle.measured_bucket.specs.SimmRules.Lookups.{is_listed}
use Rattle.measured_bucket.specs.SimmRules.ForeignExchange.{is_high, is_own_currency, fx_weight, fx_threshold, currency_rho}
use Rattle.measured_bucket.specs.SimmParams.declared.category.VolatilityCategory.{VolatilityCategory}
use Rattle.measured_bucket.specs.SimmParams.declared.category.VolatilityCategory.TheVariants.{Regular, High}
use Rattle.measured_bucket.specs.SimmParams.declared.category.ConcentrationCategory.TheVariants.{First, Second, Third}
use Rattle.measured_bucket.specs.SimmParams.Categories.{volatility, concentration, category_weight, category_rho, category_threshold}
use Rattle.measured_bucket.specs.SimmParams.Facts.{IsParams}
use Rattle.class_exchange.specs.Currencies.{rho_of}

-- ---- correlations

pub rho_of-symmetric : (p : Params) (a b : VolatilityCategory) → rho_of p a b ≡ rho_of p b a
rho_of-symmetric p High High = refl
rho_of-symmetric p High Regular = refl
rho_of-symmetric p Regular High = refl
rho_of-symmetric p Regular Regular = refl

category_rho-small : (p : Params) (a b : VolatilityCategory) → IsParams p → unsigned_abs (category_rho p a b) ≤ 10000
category_rho-small p High High facts = omega (arith, ints, facts.fx.high_rho.low, facts.fx.high_rho.high)
category_rho-small p High Regular facts = omega (arith, ints, facts.fx.mixed_rho.low, facts.fx.mixed_rho.high)
category_rho-small p Regular High facts = omega (arith, ints, facts.fx.mixed_rho.low, facts.fx.mixed_rho.high)
category_rho-small p Regular Regular facts = omega (arith, ints, facts.fx.regular_rho.low, facts.fx.regular_rho.high)

pub rho_of-small : (p : Params) (a b : VolatilityCategory) → IsParams p → unsigned_abs (rho_of p a b) ≤ 1000000
rho_of-small p a b facts = product_size (pos 100) (category_rho p a b) 100 10000 (omega arith) (category_rho-small p a b facts)

by_category : (p : Params) (s t : Bool) → category_rho p (if s then High else Regular) (if t then High else Regular) ≡ (if s && t then p.fx.high_rho else (if s || t then p.fx.mixed_rho else p.fx.regular_rho))
by_category p true true = refl
by_category p true false = refl
by_category p false true = refl
by_category p false false = refl

-- the correlation by the categories of two currencies is theirs
pub rho_of-currencies : (p : Params) (k l : List ℕ) → rho_of p (volatility p k) (volatility p l) ≡ currency_rho p k l
rho_of-currencies p k l = ap (λ z. pos 100 *ℤ z) (by_category p (is_high p k) (is_high p l))

-- ---- weights and thresholds

weight_at : (p : Params) (t : Bool) → category_weight p (if t then High else Regular) ≡ (if t then p.fx.high_weight else p.fx.regular_weight)
weight_at p true = refl
weight_at p false = refl

-- the weight of a currency that is a risk is that of its category
pub weight_is : (p : Params) (currency : List ℕ) → is_own_currency p currency ≡ false → category_weight p (volatility p currency) ≡ fx_weight p currency
weight_is p currency risky =
    weight_at p (is_high p currency) ∙ sym (ap (λ t. if t then pos 0 else (if is_high p currency then p.fx.high_weight else p.fx.regular_weight)) risky)

-- and it is not 0
pub risky_weight : (p : Params) (currency : List ℕ) → IsParams p → is_own_currency p currency ≡ false → pos 1 ≤ℤ fx_weight p currency
risky_weight p currency facts other =
    subst (λ w. pos 1 ≤ℤ w) (sym (ap (λ t. cond t (pos 0) (cond (is_high p currency) p.fx.high_weight p.fx.regular_weight)) other)) (chosen (is_high p currency))
  where
    chosen : (t : Bool) → pos 1 ≤ℤ cond t p.fx.high_weight p.fx.regular_weight
    chosen true = facts.fx.high_weight.low
    chosen false = facts.fx.regular_weight.low

pub threshold_is : (p : Params) (currency : List ℕ) → category_threshold p (concentration p currency) ≡ fx_threshold p currency
threshold_is p currency = at (is_listed p.fx.first currency) (is_listed p.fx.second currency)
  where
    at : (s t : Bool) → category_threshold p (if s then First else (if t then Second else Third)) ≡ (if s then p.fx.first_threshold else (if t then p.fx.second_threshold else p.fx.third_threshold))
    at true t = refl
    at false true = refl
    at false false = refl
