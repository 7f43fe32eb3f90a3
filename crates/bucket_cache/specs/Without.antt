-- The margin of a book without one of its trades.
use Rattle.std.specs.Prelude.{ℕ, List, [], ◌∷◌}
use Rattle.book_margin.specs.SimmKinds.declared.row.TradeRows.{TradeRows}
use Rattle.book_margin.specs.SimmKinds.Batch.{rows_of}
use Rattle.book_margin.specs.SimmRules.MhUnits.declared.quantities.Cents.{Cents}
use Rattle.book_margin.specs.SimmRules.Params.{Params}
use Rattle.book_margin.specs.SimmRules.Simm.{simm}
use Rattle.book_margin.specs.FactorBook.Factors.{factors_of}
use Rattle.book_margin.specs.KeptBuckets.Kept.{Kept}
use Rattle.bucket_cache.specs.Live.{without, named}
use Rattle.bucket_cache.specs.Worked.{steps_over}

-- its total
abbrev pub total_without : Params → List TradeRows → List ℕ → Cents
total_without p book name = (simm p (rows_of (without (name ∷ []) book))).total

-- the steps that it may take
abbrev pub steps_without : Params → Kept → List TradeRows → List ℕ → ℕ
steps_without p kept book name = steps_over p (rows_of (named (name ∷ []) book)) kept (factors_of (rows_of (without (name ∷ []) book)))
