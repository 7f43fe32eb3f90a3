-- The tests of the range of a book, by the number of its rows, the factors that it nets to and its gross sizes.
use Rattle.std.specs.Prelude.{ℕ, ◌≡◌, ◌^◌, List, map, length, true, Option, Some, None, pos}
use Rattle.std.specs.List.{list_all}
use Rattle.simm_params.specs.MhUnits.Rounding.{up}
use Rattle.simm_params.specs.SimmKinds.declared.kinds.ProductClass.{ProductClass}
use Rattle.simm_params.specs.SimmKinds.declared.kinds.RiskClass.{RiskClass}
use Rattle.simm_params.specs.SimmKinds.declared.key.FactorKey.{FactorKey}
use Rattle.simm_params.specs.SimmKinds.declared.row.CrifRow.{CrifRow}
use Rattle.simm_params.specs.SimmKinds.Batch.{is_in_range}
use Rattle.simm_params.specs.SimmRules.declared.values.RangeFault.{RangeFault}
use Rattle.simm_params.specs.SimmRules.declared.values.RangeKind.{RangeKind}
use Rattle.simm_params.specs.SimmRules.declared.values.RangeKind.TheVariants as range_kind
use Rattle.simm_params.specs.SimmRules.Sums.{first_some}
use Rattle.simm_params.specs.SimmRules.Simm.{products, classes}
use Rattle.simm_params.specs.SimmRules.Range.{above}
use Rattle.factor_book.specs.declared.holding.Holding.{Holding}
use Rattle.factor_book.specs.declared.place.BookSide.{BookSide}
use Rattle.factor_book.specs.declared.place.BookSide.TheVariants as side
use Rattle.factor_book.specs.Factors.{factors_of}
use Rattle.factor_book.specs.Places.{by_place, Lent}
use Rattle.book_range.specs.declared.sizes.GrossSizes.{GrossSizes}
use Rattle.book_range.specs.Sizes.{size_at}

-- the first answer, or else the second
abbrev pub either_first : {A : Type 0} → Option A → Option A → Option A
either_first None b = b
either_first (Some x) b = Some x

-- the factors are those of that many rows, whose amounts are those that a batch can have
pub record AreOf (rows : ℕ) (factors : List (FactorKey × Holding)) : Type 0 where
  pub held : List CrifRow
  pub are : factors ≡ factors_of held
  pub count : rows ≡ length held
  pub amounts : list_all is_in_range held ≡ true

-- so many rows, and so many keys
abbrev pub count_fault : ℕ → ℕ → Option RangeFault
count_fault rows keys = either_first (above range_kind.RowCount (pos rows) (pos 200000)) (above range_kind.KeyCount (pos keys) (pos 20000))

-- so many keys of a bucket
abbrev pub bucket_fault : ℕ → Option RangeFault
bucket_fault keys = above range_kind.BucketKeys (pos keys) (pos 2000)

abbrev pub place_fault : Lent → Option RangeFault
place_fault lent = bucket_fault (length lent.factors)

-- the keys of each bucket, in the order of places
abbrev pub keys_fault : List (FactorKey × Holding) → Option RangeFault
keys_fault factors = first_some (map place_fault (by_place factors))

abbrev pub gross_kind : BookSide → RangeKind
gross_kind side.Delta = range_kind.DeltaGross
gross_kind side.Volatility = range_kind.VegaGross

-- the size of a side of a class, in cents, upwards
abbrev pub size_fault : GrossSizes → ProductClass → RiskClass → BookSide → Option RangeFault
size_fault sizes product class side = above (gross_kind side) (up (size_at sizes product class side) (pos 10000)) (pos (10 ^ 13))

abbrev pub product_fault : GrossSizes → BookSide → ProductClass → Option RangeFault
product_fault sizes side product = first_some (map (λ class. size_fault sizes product class side) classes)

-- of all classes
abbrev pub side_fault : GrossSizes → BookSide → Option RangeFault
side_fault sizes side = first_some (map (product_fault sizes side) products)

abbrev pub gross_fault : GrossSizes → Option RangeFault
gross_fault sizes = either_first (side_fault sizes side.Delta) (side_fault sizes side.Volatility)

-- all tests, in order
abbrev pub book_fault : ℕ → List (FactorKey × Holding) → GrossSizes → Option RangeFault
book_fault rows factors sizes = either_first (count_fault rows (length factors)) (either_first (keys_fault factors) (gross_fault sizes))
