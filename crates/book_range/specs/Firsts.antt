-- The first crowded bucket of a book. Nobody who reads the range of a book has to read this.
use Rattle.std.specs.Prelude.{◌≡◌, List, length, Option, Some, None, true, is_some, if◌then◌else◌}
use Rattle.std.specs.List.{list_any}
use Rattle.std.specs.Ordering.{is_lt}
use Rattle.std.specs.declared.cmp.Ordering.TheVariants.{Less}
use Rattle.simm_params.specs.SimmKinds.declared.key.FactorKey.{FactorKey}
use Rattle.simm_params.specs.SimmKinds.declared.row.CrifRow.{CrifRow}
use Rattle.simm_params.specs.SimmKinds.declared.row.CrifRow.TheVariants as row
use Rattle.simm_params.specs.SimmRules.declared.values.RangeFault.{RangeFault}
use Rattle.simm_params.specs.SimmRules.Net.{sensitivities}
use Rattle.factor_book.specs.declared.holding.Holding.{Holding}
use Rattle.factor_book.specs.declared.place.Place.{Place}
use Rattle.factor_book.specs.Place.{place_of, place_cmp}
use Rattle.factor_book.specs.Places.{stands_at, factors_at}
use Rattle.book_range.specs.Faults.{bucket_fault}

abbrev pub fault_at : List (FactorKey × Holding) → Place → Option RangeFault
fault_at factors place = bucket_fault (length (factors_at place factors))

abbrev pub fault_of : List (FactorKey × Holding) → Option Place → Option RangeFault
fault_of factors None = None
fault_of factors (Some place) = fault_at factors place

-- the first crowded place of some places, or that none of them is crowded
abbrev pub IsFirst : List (FactorKey × Holding) → (Place → Type 0) → Option Place → Type 0
IsFirst factors among None = (q : Place) → among q → fault_at factors q ≡ None
IsFirst factors among (Some place) = (is_some (fault_at factors place) ≡ true) × ((q : Place) → among q → place_cmp q place ≡ Less → fault_at factors q ≡ None)

-- the earlier of two places
abbrev pub earlier : Option Place → Option Place → Option Place
earlier None b = b
earlier (Some p) None = Some p
earlier (Some p) (Some q) = Some (if is_lt (place_cmp q p) then q else p)

-- where a row lies, if it is a sensitivity
abbrev pub row_place : CrifRow → Option Place
row_place (row.Sensitivity key amount) = Some (place_of key)
row_place (row.Notional qualifier amount) = None
row_place (row.FixedAmount amount) = None
row_place (row.NotionalFactor qualifier factor) = None
row_place (row.Multiplier product factor) = None

-- one of these rows lies at the place, and no row leaves it
abbrev pub IsNewAt : List (FactorKey × Holding) → List CrifRow → Place → Type 0
IsNewAt leaving rows place = (list_any (λ s. stands_at place s.key) (sensitivities rows) ≡ true) × (length (factors_at place leaving) ≡ 0)

-- a row leaves it
abbrev pub IsLeft : List (FactorKey × Holding) → Place → Type 0
IsLeft leaving place = length (factors_at place leaving) ≡ 0 → ⊥
