-- What of a book is not kept, and what it may cost to work it out.
use Rattle.std.specs.Prelude.{ℕ, ◌*◌, List, sum_by, is_some, if◌then◌else◌}
use Rattle.factor_book.specs.SimmKinds.declared.key.FactorKey.{FactorKey}
use Rattle.factor_book.specs.declared.holding.Holding.{Holding}
use Rattle.factor_book.specs.declared.place.Place.{Place}
use Rattle.factor_book.specs.Places.{Lent, by_place}
use Rattle.factor_book.specs.Value.{measures_of}
use Rattle.kept_buckets.specs.Kept.{Kept, value_at}

-- how many values of a place are not kept
abbrev pub dirty_at : Kept → Place → ℕ
dirty_at kept place = if is_some (value_at kept place) then 0 else measures_of place.stand

-- of all places that have a factor
abbrev pub dirty_in : Kept → List (FactorKey × Holding) → ℕ
dirty_in kept factors = sum_by (λ lent. dirty_at kept lent.place) (by_place factors)

-- a count of the factors of a place
abbrev pub Count : Type 0
Count = Lent → ℕ

-- the steps that the values of a place of n factors may take that are not kept: n * n each
abbrev pub steps_at : Count → Kept → Lent → ℕ
steps_at count kept lent = dirty_at kept lent.place * (count lent * count lent)

-- of all places that have a factor
abbrev pub steps_left : Count → Kept → List (FactorKey × Holding) → ℕ
steps_left count kept factors = sum_by (steps_at count kept) (by_place factors)
