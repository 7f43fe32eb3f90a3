-- The steps that the margin of a book may take where rows came or went since its places were kept.
use Rattle.std.specs.Prelude.{ℕ, ◌*◌, List, sum_by, is_some, not, ◌||◌, if◌then◌else◌}
use Rattle.book_margin.specs.SimmKinds.declared.key.FactorKey.{FactorKey}
use Rattle.book_margin.specs.SimmKinds.declared.row.CrifRow.{CrifRow}
use Rattle.book_margin.specs.SimmRules.Params.{Params}
use Rattle.book_margin.specs.FactorBook.declared.holding.Holding.{Holding}
use Rattle.book_margin.specs.FactorBook.declared.place.Place.{Place}
use Rattle.book_margin.specs.FactorBook.Places.{by_place}
use Rattle.book_margin.specs.FactorBook.Value.{measures_of}
use Rattle.book_margin.specs.KeptBuckets.Kept.{Kept, value_at}
use Rattle.book_margin.specs.KeptBuckets.Touched.{lies_at}
use Rattle.book_margin.specs.ClassMargin.value.Place.{count_of}

-- how many values of a place are worked out: all where one of the rows lies there or none is kept
abbrev pub worked_at : List CrifRow → Kept → Place → ℕ
worked_at moved kept place = if lies_at place moved || not (is_some (value_at kept place)) then measures_of place.stand else 0

-- n * n for each value of a place of n of the rule's factors, of all places that have a factor
abbrev pub steps_over : Params → List CrifRow → Kept → List (FactorKey × Holding) → ℕ
steps_over p moved kept factors = sum_by (λ lent. worked_at moved kept lent.place * (count_of p lent * count_of p lent)) (by_place factors)
