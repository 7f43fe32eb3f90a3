-- The book after a what-if: some trades leave a book, and then a candidate comes.
use Rattle.std.specs.Prelude.{ℕ, ◌+◌, List, [], ◌++◌, Option, Some, None}
use Rattle.bucket_cache.specs.SimmRules.SimmKinds.declared.row.CrifRow.{CrifRow}
use Rattle.bucket_cache.specs.SimmRules.SimmKinds.declared.row.TradeRows.{TradeRows}
use Rattle.bucket_cache.specs.SimmRules.SimmKinds.Batch.{rows_of}
use Rattle.bucket_cache.specs.SimmRules.Params.{Params}
use Rattle.bucket_cache.specs.FactorBook.Factors.{factors_of}
use Rattle.bucket_cache.specs.KeptBuckets.Kept.{Kept}
use Rattle.bucket_cache.specs.BookMargin.Steps.{steps_due}
use Rattle.bucket_cache.specs.Live.{put_trades, without, named, rows_moved}
use Rattle.bucket_cache.specs.Worked.{steps_over}

-- a candidate is taken in as a batch is
abbrev pub with_candidate : Option (List TradeRows) → List TradeRows → List TradeRows
with_candidate None book = book
with_candidate (Some batch) book = put_trades batch book

-- the rows that it adds, and those that it replaces
abbrev pub candidate_rows : Option (List TradeRows) → List TradeRows → List CrifRow
candidate_rows None book = []
candidate_rows (Some batch) book = rows_moved batch book

-- first the trades of these names leave, and then the candidate comes
abbrev pub book_after : List (List ℕ) → Option (List TradeRows) → List TradeRows → List TradeRows
book_after names candidate book = with_candidate candidate (without names book)

-- all rows that go or come
abbrev pub rows_asked : List (List ℕ) → Option (List TradeRows) → List TradeRows → List CrifRow
rows_asked names candidate book = rows_of (named names book) ++ candidate_rows candidate (without names book)

-- The steps of both margins: for the book those of what of it is not kept, for the book after those
-- of what is not kept or where one of these rows lies.
abbrev pub steps_asked : Params → List (List ℕ) → Option (List TradeRows) → Kept → List TradeRows → ℕ
steps_asked p names candidate kept book =
    steps_due p kept (factors_of (rows_of book))
    + steps_over p (rows_asked names candidate book) kept
    (factors_of (rows_of (book_after names candidate book)))
