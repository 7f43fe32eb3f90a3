use Rattle.std.proofs.Common.{List, subst}
use Rattle.book_margin.specs.SimmKinds.declared.row.TradeRows.{TradeRows}
use Rattle.book_margin.specs.SimmKinds.Batch.{rows_of}
use Rattle.book_margin.specs.FactorBook.Factors.{factors_of}
use Rattle.book_margin.specs.Right.{AreRight}
use Rattle.bucket_cache.proofs.Standing.{no_values}
use Rattle.bucket_cache.proofs.live.LiveMargin.new.Goals as goal

pub returns-clause-none : goal.returns-clause-none
returns-clause-none c =
    no_values c.without_margin-live.result.params c.know_margin.new.self.kept c.facts.ensures
    (subst (λ (trades : List TradeRows). AreRight c.without_margin-live.result.params (factors_of (rows_of trades)) c.know_margin.new.self.kept) c.without_margin-live.ensures.book c.know_margin.ensures.renewed.right)
