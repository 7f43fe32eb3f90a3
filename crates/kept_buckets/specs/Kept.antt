-- What is kept of a book: values of its places, and margins of its risk classes.
use Rattle.std.specs.Prelude.{◌≡◌, List, Bool, ◌&&◌, Option, Some, IfSome, if◌then◌else◌}
use Rattle.std.specs.Option.{option_and_then}
use Rattle.std.specs.Map.{lookup}
use Rattle.std.specs.BTreeMap.{is_at}
use Rattle.factor_book.specs.MhUnits.declared.quantities.Cents.{Cents}
use Rattle.factor_book.specs.SimmKinds.declared.kinds.Measure.{Measure}
use Rattle.factor_book.specs.SimmKinds.declared.kinds.ProductClass.{ProductClass}
use Rattle.factor_book.specs.SimmKinds.declared.kinds.RiskClass.{RiskClass}
use Rattle.factor_book.specs.SimmKinds.declared.margin_side.MarginSide.{MarginSide}
use Rattle.factor_book.specs.SimmKinds.declared.margin_side.MarginSide.TheVariants as margin_side
use Rattle.factor_book.specs.SimmKinds.Order.{same_product, same_class}
use Rattle.factor_book.specs.SimmRules.declared.tables.ByClass.{ByClass}
use Rattle.factor_book.specs.SimmRules.declared.tables.ByProduct.{ByProduct}
use Rattle.factor_book.specs.SimmRules.declared.values.BucketMargin.{BucketMargin}
use Rattle.factor_book.specs.SimmRules.Tables.{part_at}
use Rattle.factor_book.specs.declared.address.Address.{Address}
use Rattle.factor_book.specs.declared.place.Place.{Place}
use Rattle.factor_book.specs.declared.value.PlaceValue.{PlaceValue}
use Rattle.factor_book.specs.Address.{address_cmp}
use Rattle.factor_book.specs.Place.{address_of, same_place}
use Rattle.factor_book.specs.Value.{part_in}
use Rattle.kept_buckets.specs.declared.both_margins.BothMargins.{BothMargins}

pub record Kept : Type 0 where
  pub values : List (Address × PlaceValue)
  pub margins : ByProduct (ByClass (Option BothMargins))

-- each value is kept at the address of a place
abbrev pub AreOfPlaces : List (Address × PlaceValue) → Type 0
AreOfPlaces values = (at : Address) → IfSome (lookup (is_at (address_cmp at)) values) (λ v. (place : Place) × (address_of place ≡ at))

-- what is kept of a place
abbrev pub value_at : Kept → Place → Option PlaceValue
value_at kept place = lookup (is_at (address_cmp (address_of place))) kept.values

-- and in a measure
abbrev pub cached_in : Kept → Place → Measure → Option BucketMargin
cached_in kept place measure = option_and_then (part_in measure) (value_at kept place)

-- the margins kept of a risk class in a product class
abbrev pub margin_at : Kept → ProductClass → RiskClass → Option BothMargins
margin_at kept product class = part_at kept.margins product class

abbrev pub margin_on : BothMargins → MarginSide → Cents
margin_on margins margin_side.Collect = margins.collect
margin_on margins margin_side.Post = margins.post

-- both are one risk class of one product class
abbrev pub is_class : ProductClass → RiskClass → ProductClass → RiskClass → Bool
is_class product class other_product other = same_product product other_product && same_class class other

-- the value of one place more is kept, in place of any that was
pub record KeepsValue (old new : Kept) (place : Place) (value : PlaceValue) : Type 0 where
  pub values : (other : Place) → value_at new other ≡ (if same_place place other then Some value else value_at old other)
  pub margins : (product : ProductClass) (class : RiskClass) → margin_at new product class ≡ margin_at old product class

-- the margins of one class more are kept, in place of any that were
pub record KeepsMargin (old new : Kept) (product : ProductClass) (class : RiskClass) (margin : BothMargins) : Type 0 where
  pub values : (place : Place) → value_at new place ≡ value_at old place
  pub margins : (in_product : ProductClass) (other : RiskClass)
      → margin_at new in_product other ≡ (if is_class product class in_product other then Some margin else margin_at old in_product other)
