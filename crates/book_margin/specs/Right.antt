-- What is kept of a book rightly: each value is that of its place, each margin that of its class.
use Rattle.std.specs.Prelude.{◌≡◌, ◌≢◌, List, [], true, Option, Some, IsSome, IfSome, option_map, ℤ}
use Rattle.std.specs.Option.{option_and_then}
use Rattle.kept_buckets.specs.MhUnits.declared.quantities.Cents.{Cents}
use Rattle.kept_buckets.specs.SimmKinds.declared.margin_side.MarginSide.{MarginSide}
use Rattle.kept_buckets.specs.SimmKinds.declared.kinds.Measure.{Measure}
use Rattle.kept_buckets.specs.SimmKinds.declared.kinds.ProductClass.{ProductClass}
use Rattle.kept_buckets.specs.SimmKinds.declared.kinds.RiskClass.{RiskClass}
use Rattle.kept_buckets.specs.SimmKinds.declared.key.FactorKey.{FactorKey}
use Rattle.kept_buckets.specs.SimmRules.declared.values.BucketMargin.{BucketMargin}
use Rattle.kept_buckets.specs.SimmRules.Params.{Params}
use Rattle.kept_buckets.specs.SimmRules.Simm.{class_margin_of}
use Rattle.kept_buckets.specs.FactorBook.declared.holding.Holding.{Holding}
use Rattle.kept_buckets.specs.FactorBook.declared.place.BookSide.{BookSide}
use Rattle.kept_buckets.specs.FactorBook.declared.place.Place.{Place}
use Rattle.kept_buckets.specs.FactorBook.declared.value.PlaceValue.{PlaceValue}
use Rattle.kept_buckets.specs.FactorBook.Places.{factors_at, is_on, lent_at}
use Rattle.kept_buckets.specs.FactorBook.Value.{part_in}
use Rattle.class_margin.specs.NegatedBook.Sides.{side_factors}
use Rattle.class_margin.specs.names_delta.Values.{nets_in}
use Rattle.class_margin.specs.value.Place.{place_value}
use Rattle.class_margin.specs.value.Values.{IsValued}
use Rattle.class_combine.specs.Classes.{IsClassMargin}
use Rattle.kept_buckets.specs.declared.both_margins.BothMargins.{BothMargins}
use Rattle.kept_buckets.specs.Kept.{Kept, value_at, margin_at, margin_on}

-- ---- of a place

-- the value of a place that has a factor
pub record IsRight (p : Params) (factors : List (FactorKey × Holding)) (place : Place) (v : PlaceValue) : Type 0 where
  pub some : factors_at place factors ≢ []
  pub its : IsValued p (lent_at factors place) v

-- in a measure that it has
abbrev pub value_in : Params → List (FactorKey × Holding) → Place → Measure → Option BucketMargin
value_in p factors place measure = option_and_then (part_in measure) (place_value p (lent_at factors place))

-- ---- of a class

-- its margin
pub record IsMargin (p : Params) (factors : List (FactorKey × Holding)) (product : ProductClass) (class : RiskClass) (margin : ℤ) : Type 0 where
  pub value : margin ≡ class_margin_of p (nets_in product factors) class
  pub size : IsClassMargin margin

-- that of each side
abbrev pub AreMargins : Params → List (FactorKey × Holding) → ProductClass → RiskClass → BothMargins → Type 0
AreMargins p factors product class margins = (side : MarginSide) → IsMargin p (side_factors side factors) product class (margin_on margins side).0

-- each of its places on a side that has a factor is kept
abbrev pub IsSideKept : List (FactorKey × Holding) → Kept → ProductClass → RiskClass → BookSide → Type 0
IsSideKept factors kept product class side =
    (place : Place) → is_on product class side place ≡ true → factors_at place factors ≢ [] → IsSome (value_at kept place)

-- on both
abbrev pub IsWhole : List (FactorKey × Holding) → Kept → ProductClass → RiskClass → Type 0
IsWhole factors kept product class = (side : BookSide) → IsSideKept factors kept product class side

-- ---- of a book

-- What is kept is right for the factors of a book, and no margin of a class is kept over a place that is not.
pub record AreRight (p : Params) (factors : List (FactorKey × Holding)) (kept : Kept) : Type 0 where
  pub values : (place : Place) → IfSome (value_at kept place) (IsRight p factors place)
  pub margins : (product : ProductClass) (class : RiskClass) → IfSome (margin_at kept product class) (AreMargins p factors product class)
  pub whole : (product : ProductClass) (class : RiskClass) → IsSome (margin_at kept product class) → IsWhole factors kept product class

-- what is kept of a class on a side
abbrev pub side_margin : MarginSide → Kept → ProductClass → RiskClass → Option Cents
side_margin side kept product class = option_map (λ m. margin_on m side) (margin_at kept product class)

-- the margin of each class is kept
abbrev pub AreMarginsKept : Kept → Type 0
AreMarginsKept kept = (product : ProductClass) (class : RiskClass) → IsSome (margin_at kept product class)

-- all is kept that the margin of a book is made of
pub record IsFresh (factors : List (FactorKey × Holding)) (kept : Kept) : Type 0 where
  pub margins : AreMarginsKept kept
  pub whole : (product : ProductClass) (class : RiskClass) → IsWhole factors kept product class

-- What was kept is kept as it was, and what is kept now is right.
pub record Renews (p : Params) (factors : List (FactorKey × Holding)) (old new : Kept) : Type 0 where
  pub right : AreRight p factors new
  pub values : (place : Place) (v : PlaceValue) → value_at old place ≡ Some v → value_at new place ≡ Some v
  pub margins : (product : ProductClass) (class : RiskClass) (m : BothMargins) → margin_at old product class ≡ Some m → margin_at new product class ≡ Some m
