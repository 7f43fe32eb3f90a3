-- The steps that a margin over what is kept of a book may take: those of the values that are not kept.
use Rattle.std.specs.Prelude.{ℕ, List}
use Rattle.kept_buckets.specs.SimmKinds.declared.key.FactorKey.{FactorKey}
use Rattle.kept_buckets.specs.SimmRules.Params.{Params}
use Rattle.kept_buckets.specs.FactorBook.declared.holding.Holding.{Holding}
use Rattle.class_margin.specs.value.Place.{count_of}
use Rattle.kept_buckets.specs.Dirty.{steps_left}
use Rattle.kept_buckets.specs.Kept.{Kept}

-- n * n for each value of a place of n of the rule's factors
abbrev pub steps_due : Params → Kept → List (FactorKey × Holding) → ℕ
steps_due p kept factors = steps_left (count_of p) kept factors
