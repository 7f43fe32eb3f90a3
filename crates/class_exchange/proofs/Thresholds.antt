-- What the concentration categories of a pair's currencies say of its vega threshold.
use Rattle.std.proofs.Common.{◌≡◌, ℕ, Bool, true, false, if◌then◌else◌, List, refl, ap, ◌∙◌}
use Rattle.measured_bucket.specs.SimmKinds.Pair.{Pair}
use Rattle.measured_bucket.specs.SimmRules.Params.{Params}
use Rattle.measured_bucket.specs.SimmRules.Lookups.{is_listed}
use Rattle.measured_bucket.specs.SimmRules.ForeignExchange.{concentration_place, fx_vega_threshold}
use Rattle.measured_bucket.specs.SimmParams.declared.category.ConcentrationCategory.{ConcentrationCategory}
use Rattle.measured_bucket.specs.SimmParams.declared.category.ConcentrationCategory.TheVariants.{First, Second, Third}
use Rattle.measured_bucket.specs.SimmParams.Categories.{concentration}
use Rattle.measured_bucket.specs.SimmParams.FxLookups.{category_place, pair_threshold}
use Rattle.measured_bucket.specs.SimmParams.Matrix.{entry}

place_by : (s t : Bool) → category_place (if s then First else (if t then Second else Third)) ≡ (if s then 0 else (if t then 1 else 2))
place_by true t = refl
place_by false true = refl
place_by false false = refl

place_is : (p : Params) (currency : List ℕ) → category_place (concentration p currency) ≡ concentration_place p currency
place_is p currency = place_by (is_listed p.fx.first currency) (is_listed p.fx.second currency)

pub threshold_is : (p : Params) (pair : Pair) (first second : List ℕ) (a b : ConcentrationCategory) → first ≡ pair.first → second ≡ pair.second → a ≡ concentration p first → b ≡ concentration p second → pair_threshold p.fx a b ≡ fx_vega_threshold p pair
threshold_is p pair first second a b e f g h =
    (λ i. pair_threshold p.fx ((g ∙ ap (concentration p) e) i) ((h ∙ ap (concentration p) f) i))
    ∙ ap (λ n. entry p.fx.vega_threshold n (category_place (concentration p pair.second))) (place_is p pair.first)
    ∙ ap (entry p.fx.vega_threshold (concentration_place p pair.first)) (place_is p pair.second)
