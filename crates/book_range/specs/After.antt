-- A book after a batch, before the rows that it replaces are taken.
use Rattle.std.specs.Prelude.{ℕ, ◌≡◌, ◌≤◌, List, length, false}
use Rattle.std.specs.List.{list_any}
use Rattle.simm_params.specs.SimmKinds.declared.key.FactorKey.{FactorKey}
use Rattle.simm_params.specs.SimmKinds.declared.row.CrifRow.{CrifRow}
use Rattle.simm_params.specs.SimmRules.Params.{Params}
use Rattle.simm_params.specs.SimmRules.Net.{sensitivities}
use Rattle.factor_book.specs.declared.holding.Holding.{Holding}
use Rattle.factor_book.specs.declared.place.Place.{Place}
use Rattle.factor_book.specs.Factors.{factors_of, IsWithout}
use Rattle.factor_book.specs.Places.{stands_at, factors_at}
use Rattle.book_range.specs.declared.sizes.GrossSizes.{GrossSizes}
use Rattle.book_range.specs.Sizes.{sizes_in}

-- a bucket in which none of these rows lies has no more keys than a bucket may have
abbrev pub AreFewElsewhere : List CrifRow → List (FactorKey × Holding) → Type 0
AreFewElsewhere came factors =
    (place : Place) → list_any (λ s. stands_at place s.key) (sensitivities came) ≡ false → length (factors_at place factors) ≤ 2000

-- What the rows that are held come to once those whose factors are `leaving` go from a book of these factors: their number and
-- their sizes; and where none of them is new, their buckets are in range.
pub record IsAfter (p : Params) (factors leaving : List (FactorKey × Holding)) (rows : ℕ) (sizes : GrossSizes) (came held : List CrifRow) : Type 0 where
  pub without : IsWithout factors leaving (factors_of held)
  pub number : rows ≡ length held
  pub weigh : sizes ≡ sizes_in p (factors_of held)
  pub elsewhere : AreFewElsewhere came (factors_of held)
