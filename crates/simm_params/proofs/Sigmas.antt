-- What the volatility categories of a pair's currencies say of its volatility.
use Rattle.std.proofs.Common.{◌≡◌, ℕ, Bool, true, false, ◌&&◌, ◌||◌, if◌then◌else◌, List, pos, ◌≤ℤ◌, refl, ap, ◌∙◌}
use Rattle.simm_rules.specs.SimmKinds.Pair.{Pair}
use Rattle.simm_rules.specs.Params.{Params}
use Rattle.simm_rules.specs.ForeignExchange.{is_high, fx_sigma}
use Rattle.simm_params.specs.declared.category.VolatilityCategory.{VolatilityCategory}
use Rattle.simm_params.specs.declared.category.VolatilityCategory.TheVariants.{Regular, High}
use Rattle.simm_params.specs.Categories.{volatility}
use Rattle.simm_params.specs.Facts.{IsParams}
use Rattle.simm_params.specs.FxLookups.{pair_sigma}

by_category : (p : Params) (s t : Bool) → pair_sigma p.fx (if s then High else Regular) (if t then High else Regular) ≡ (if s && t then p.fx.high_sigma else (if s || t then p.fx.mixed_sigma else p.fx.regular_sigma))
by_category p true true = refl
by_category p true false = refl
by_category p false true = refl
by_category p false false = refl

pub sigma_is : (p : Params) (pair : Pair) (first second : List ℕ) (a b : VolatilityCategory) → first ≡ pair.first → second ≡ pair.second → a ≡ volatility p first → b ≡ volatility p second → pair_sigma p.fx a b ≡ fx_sigma p pair
sigma_is p pair first second a b e f g h =
    (λ i. pair_sigma p.fx ((g ∙ ap (volatility p) e) i) ((h ∙ ap (volatility p) f) i)) ∙ by_category p (is_high p pair.first) (is_high p pair.second)

pub sigma_low : (p : Params) → IsParams p → (pair : Pair) → pos 0 ≤ℤ fx_sigma p pair
sigma_low p facts pair = by (is_high p pair.first) (is_high p pair.second)
  where
    by : (s t : Bool) → pos 0 ≤ℤ (if s && t then p.fx.high_sigma else (if s || t then p.fx.mixed_sigma else p.fx.regular_sigma))
    by true true = facts.fx.high_sigma.low
    by true false = facts.fx.mixed_sigma.low
    by false true = facts.fx.mixed_sigma.low
    by false false = facts.fx.regular_sigma.low
