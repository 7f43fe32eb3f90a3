-- The lines of the risk classes of a product class, and those of the product class.
use Rattle.std.specs.Prelude.{ℕ, List, [], ◌++◌, length, Bool, not, ◌||◌, ◌==◌, if◌then◌else◌, ℤ}
use Rattle.std.specs.List.{flat_map, list_any}
use Rattle.measured_bucket.specs.SimmKinds.declared.kinds.Measure.{Measure}
use Rattle.measured_bucket.specs.SimmKinds.declared.kinds.ProductClass.{ProductClass}
use Rattle.measured_bucket.specs.SimmKinds.declared.kinds.RiskClass.{RiskClass}
use Rattle.measured_bucket.specs.SimmKinds.declared.key.FactorKey.{FactorKey}
use Rattle.measured_bucket.specs.SimmRules.declared.values.ProductMargin.{ProductMargin}
use Rattle.measured_bucket.specs.SimmRules.Params.{Params}
use Rattle.measured_bucket.specs.SimmRules.Parts.{class_part}
use Rattle.measured_bucket.specs.SimmRules.Simm.{classes}
use Rattle.bucket_cache.specs.FactorBook.declared.holding.Holding.{Holding}
use Rattle.bucket_cache.specs.FactorBook.declared.place.BookSide.{BookSide}
use Rattle.bucket_cache.specs.FactorBook.declared.place.BookSide.TheVariants as side
use Rattle.bucket_cache.specs.FactorBook.Places.{by_side}
use Rattle.breakdown_text.specs.Margins.{class_margin_line, product_margin_line}
use Rattle.explain_text.specs.Sides.{Values, side_lines}

-- what a risk class comes to in a measure
abbrev pub Margins : Type 0
Margins = ProductClass → RiskClass → Measure → ℤ

abbrev pub has_side : List (FactorKey × Holding) → ProductClass → RiskClass → BookSide → Bool
has_side factors product class side = not (length (by_side product class side factors) == 0)

-- whether there is a sensitivity of the class
abbrev pub has_class : List (FactorKey × Holding) → ProductClass → RiskClass → Bool
has_class factors product class = has_side factors product class side.Delta || has_side factors product class side.Volatility

-- a class that has a sensitivity: the side of delta, that of volatility, and its margin
abbrev pub class_lines : Params → Values → Margins → List (FactorKey × Holding) → ProductClass → RiskClass → ℤ → List ℕ
class_lines p values margins factors product class margin =
    if has_class factors product class
    then side_lines p values (margins product class) factors product class side.Delta
    ++ side_lines p values (margins product class) factors product class side.Volatility
    ++ class_margin_line product class margin
    else []

abbrev pub has_product : List (FactorKey × Holding) → ProductClass → Bool
has_product factors product = list_any (has_class factors product) classes

-- a product class that has a sensitivity: its risk classes, and its margin
unfoldable pub product_lines : Params → Values → Margins → List (FactorKey × Holding) → ProductClass → ProductMargin → List ℕ
product_lines p values margins factors product part =
    if has_product factors product
    then flat_map (λ class. class_lines p values margins factors product class (class_part part class).0) classes
    ++ product_margin_line product part.margin.0
    else []
