-- What rows touch that come to a book or go from it: the places that they lie in, and the classes of these.
use Rattle.std.specs.Prelude.{◌≡◌, List, Bool, false, None, if◌then◌else◌}
use Rattle.std.specs.List.{filter, list_any}
use Rattle.factor_book.specs.SimmKinds.declared.key.FactorKey.{FactorKey}
use Rattle.factor_book.specs.SimmKinds.declared.kinds.ProductClass.{ProductClass}
use Rattle.factor_book.specs.SimmKinds.declared.kinds.RiskClass.{RiskClass}
use Rattle.factor_book.specs.SimmKinds.declared.row.CrifRow.{CrifRow}
use Rattle.factor_book.specs.SimmKinds.Factors.{class_of}
use Rattle.factor_book.specs.SimmRules.Net.{sensitivities}
use Rattle.factor_book.specs.declared.holding.Holding.{Holding}
use Rattle.factor_book.specs.declared.place.Place.{Place}
use Rattle.factor_book.specs.Places.{stands_at}
use Rattle.kept_buckets.specs.Kept.{Kept, value_at, margin_at, is_class}

-- whether one of the rows is a sensitivity to a key that passes
abbrev pub has_key : (FactorKey → Bool) → List CrifRow → Bool
has_key test rows = list_any (λ s. test s.key) (sensitivities rows)

-- whether one of them lies in the place
abbrev pub lies_at : Place → List CrifRow → Bool
lies_at place rows = has_key (stands_at place) rows

-- whether a key is of the class
abbrev pub is_of_class : ProductClass → RiskClass → FactorKey → Bool
is_of_class product class k = is_class k.product (class_of k.factor) product class

-- whether one of them is of the class
abbrev pub lies_in : ProductClass → RiskClass → List CrifRow → Bool
lies_in product class rows = has_key (is_of_class product class) rows

-- what the rows touch is forgotten, and all else is kept as it was
pub record Forgets (rows : List CrifRow) (old new : Kept) : Type 0 where
  pub values : (place : Place) → value_at new place ≡ (if lies_at place rows then None else value_at old place)
  pub margins : (product : ProductClass) (class : RiskClass) → margin_at new product class ≡ (if lies_in product class rows then None else margin_at old product class)

-- Two books have the same factors but at keys of the rows: of each kind of keys that no row is of, they have the same.
pub record SameElsewhere (rows : List CrifRow) (old new : List (FactorKey × Holding)) : Type 0 where
  pub same : (test : FactorKey → Bool) → has_key test rows ≡ false → filter (λ f. test f.0) old ≡ filter (λ f. test f.0) new
