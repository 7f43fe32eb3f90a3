-- What a batch comes to that is a book of its own.
use Rattle.std.specs.Prelude.{◌≡◌, List, []}
use Rattle.book_margin.specs.SimmKinds.declared.row.TradeRows.{TradeRows}
use Rattle.book_margin.specs.SimmKinds.Batch.{rows_of}
use Rattle.book_margin.specs.SimmRules.Params.{Params}
use Rattle.book_margin.specs.SimmRules.Simm.{simm}
use Rattle.book_margin.specs.FactorBook.Factors.{factors_of}
use Rattle.book_margin.specs.ClassCombine.Sums.{AreOfBook, StandFor}
use Rattle.book_margin.specs.ClassCombine.Whole.{HasProductMargins}
use Rattle.book_margin.specs.BookRange.Bounded.{IsMarginable}
use Rattle.book_margin.specs.Right.{AreRight, IsFresh}
use Rattle.bucket_cache.specs.declared.figures.BatchFigures.{BatchFigures}
use Rattle.bucket_cache.specs.Live.{rows_in}

-- The factors are those of its rows and can be margined, the sums of add-ons are theirs, and its parameters stand for them. Of each
-- bucket and class all is kept that the margin is made of, and right; and the margin is that of the written rule.
pub record AreFigures (p : Params) (trades : List TradeRows) (f : BatchFigures) : Type 0 where
  pub netted : f.factors ≡ factors_of (rows_of trades)
  pub book : IsMarginable p f.factors
  pub stand : StandFor f.add_ons (rows_in trades []) (rows_of trades)
  pub add_ons : AreOfBook f.add_ons (rows_in trades [])
  pub right : AreRight p f.factors f.kept
  pub fresh : IsFresh f.factors f.kept
  pub margin : f.margin ≡ simm p (rows_of trades)
  pub margins : HasProductMargins f.margin
