-- The values of the places of a risk class in a product class.
-- (ISDA SIMM methodology, structure of the methodology: margins are per product class and risk class.)
use Rattle.std.specs.Prelude.{◌≡◌, List, [], ◌∷◌, ◌++◌, Some}
use Rattle.class_rates.specs.SimmKinds.declared.kinds.ProductClass.{ProductClass}
use Rattle.class_rates.specs.SimmKinds.declared.kinds.RiskClass.{RiskClass}
use Rattle.class_rates.specs.SimmKinds.declared.key.FactorKey.{FactorKey}
use Rattle.class_rates.specs.SimmRules.Params.{Params}
use Rattle.class_rates.specs.FactorBook.declared.holding.Holding.{Holding}
use Rattle.class_rates.specs.FactorBook.declared.place.BookSide.TheVariants as side
use Rattle.class_rates.specs.FactorBook.declared.value.PlaceValue.{PlaceValue}
use Rattle.class_rates.specs.FactorBook.Places.{Lent, by_side}
use Rattle.book_range.specs.Bounded.{IsMarginable}
use Rattle.class_margin.specs.value.Place.{place_value, IsPlaceSized}

-- ---- its places that have a factor

-- those of delta and of base correlation, and then those of volatilities; each in the order of buckets
abbrev pub class_places : ProductClass → RiskClass → List (FactorKey × Holding) → List Lent
class_places product class factors = by_side product class side.Delta factors ++ by_side product class side.Volatility factors

-- ---- their values

pub record IsValued (p : Params) (lent : Lent) (v : PlaceValue) : Type 0 where
  pub value : Some v ≡ place_value p lent
  pub sized : IsPlaceSized p lent v

-- each has its value, in their order
abbrev pub AreValued : Params → List Lent → List PlaceValue → Type 0
AreValued p [] [] = Unit {0}
AreValued p [] (v ∷ values) = ⊥
AreValued p (lent ∷ places) [] = ⊥
AreValued p (lent ∷ places) (v ∷ values) = IsValued p lent v × AreValued p places values

abbrev pub AreClassValues : Params → ProductClass → RiskClass → List (FactorKey × Holding) → List PlaceValue → Type 0
AreClassValues p product class factors values = AreValued p (class_places product class factors) values

-- those of a book that can be margined
pub record AreBookValues (p : Params) (product : ProductClass) (class : RiskClass) (values : List PlaceValue) : Type 0 where
  pub factors : List (FactorKey × Holding)
  pub book : IsMarginable p factors
  pub are : AreClassValues p product class factors values
