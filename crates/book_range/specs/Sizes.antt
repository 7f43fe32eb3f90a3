-- The gross sizes of a book, side by side, and how they grow.
use Rattle.std.specs.Prelude.{ℕ, ◌≡◌, ◌+◌, ◌^◌, ◌<◌, List, ◌++◌, length, true, Option, Some, None, ℤ, pos, ◌*ℤ◌, unsigned_abs, ◌&&◌, if◌then◌else◌}
use Rattle.std.specs.List.{list_all}
use Rattle.simm_params.specs.SimmKinds.declared.kinds.ProductClass.{ProductClass}
use Rattle.simm_params.specs.SimmKinds.declared.kinds.RiskClass.{RiskClass}
use Rattle.simm_params.specs.SimmKinds.declared.key.FactorKey.{FactorKey}
use Rattle.simm_params.specs.SimmKinds.declared.row.CrifRow.{CrifRow}
use Rattle.simm_params.specs.SimmKinds.Batch.{is_in_range}
use Rattle.simm_params.specs.SimmKinds.Order.{same_product, same_class}
use Rattle.simm_params.specs.SimmRules.declared.tables.ByClass.{ByClass}
use Rattle.simm_params.specs.SimmRules.declared.tables.ByProduct.{ByProduct}
use Rattle.simm_params.specs.SimmRules.Params.{Params}
use Rattle.simm_params.specs.SimmRules.Sums.{total_by}
use Rattle.simm_params.specs.SimmRules.Tables.{class_table, product_table, part_at}
use Rattle.simm_params.specs.SimmRules.Net.{Sensitivity, sensitivity, sensitivities}
use Rattle.factor_book.specs.declared.holding.Holding.{Holding}
use Rattle.factor_book.specs.declared.place.BookSide.{BookSide}
use Rattle.factor_book.specs.declared.place.BookSide.TheVariants as side
use Rattle.factor_book.specs.declared.place.Place.{Place}
use Rattle.factor_book.specs.Factors.{factors_of}
use Rattle.factor_book.specs.Place.{stand_class, stand_side}
use Rattle.factor_book.specs.Places.{is_key_on, is_on}
use Rattle.book_range.specs.declared.sizes.GrossSizes.{GrossSizes}
use Rattle.book_range.specs.declared.row_size.RowSize.{RowSize}
use Rattle.book_range.specs.Weights.{factor_weight}
use Rattle.book_range.specs.Gross.{side_size}

-- ---- the size of a side

abbrev pub size_at : GrossSizes → ProductClass → RiskClass → BookSide → ℤ
size_at s product class side.Delta = part_at s.delta product class
size_at s product class side.Volatility = part_at s.volatility product class

-- that of a place
abbrev pub place_part : GrossSizes → Place → ℤ
place_part s place = size_at s place.product (stand_class place.stand) (stand_side place.stand)

-- one part of a table is put, that of the class of a place
abbrev pub IsPut : ByProduct (ByClass ℤ) → ByProduct (ByClass ℤ) → Place → ℤ → Type 0
IsPut old new place size = (product : ProductClass) (class : RiskClass)
    → part_at new product class ≡ (if same_product place.product product && same_class (stand_class place.stand) class then size else part_at old product class)

-- ---- those of factors

abbrev pub class_sizes : Params → List (FactorKey × Holding) → ProductClass → BookSide → ByClass ℤ
class_sizes p factors product side = class_table (λ class. side_size p factors product class side)

abbrev pub side_sizes : Params → List (FactorKey × Holding) → BookSide → ByProduct (ByClass ℤ)
side_sizes p factors side = product_table (λ product. class_sizes p factors product side)

unfoldable pub sizes_in : Params → List (FactorKey × Holding) → GrossSizes
sizes_in p factors = record { delta = side_sizes p factors side.Delta; volatility = side_sizes p factors side.Volatility }

-- the sizes are those of rows, whose amounts are those that a batch can have, and there is room for that many more: fewer than
-- 2^32 are held afterwards
pub record HasSizeRoom (p : Params) (sizes : GrossSizes) (more : ℕ) : Type 0 where
  pub held : List CrifRow
  pub are : sizes ≡ sizes_in p (factors_of held)
  pub amounts : list_all is_in_range held ≡ true
  pub few : length held + more < 2 ^ 32

-- the sizes are those of fewer than 2^32 rows, among which these stand
pub record AreSized (p : Params) (taken : List CrifRow) (sizes : GrossSizes) : Type 0 where
  pub before : List CrifRow
  pub after : List CrifRow
  pub are : sizes ≡ sizes_in p (factors_of (before ++ taken ++ after))
  pub amounts : list_all is_in_range (before ++ taken ++ after) ≡ true
  pub few : length (before ++ taken ++ after) < 2 ^ 32

-- ---- what a row weighs

-- the size of the amount, times the weight of the factor, where that is on the side
abbrev pub sensitivity_size : Params → ProductClass → RiskClass → BookSide → Sensitivity → ℤ
sensitivity_size p product class side s =
    pos (unsigned_abs s.amount) *ℤ (if is_key_on product class side s.key then factor_weight p s.key.factor else pos 0)

abbrev pub row_size : Params → ProductClass → RiskClass → BookSide → CrifRow → ℤ
row_size p product class side r = total_by (sensitivity_size p product class side) (sensitivity r)

abbrev pub rows_size : Params → ProductClass → RiskClass → BookSide → List CrifRow → ℤ
rows_size p product class side rows = total_by (sensitivity_size p product class side) (sensitivities rows)

abbrev pub weighed_at : Option RowSize → ProductClass → RiskClass → BookSide → ℤ
weighed_at None product class side = pos 0
weighed_at (Some w) product class side = if is_on product class side w.place then w.size else pos 0
