use Rattle.std.proofs.Common.{length, sym, ap, ◌∙◌, arith}
use Rattle.book_margin.specs.SimmKinds.declared.row.TradeRows.{TradeRows}
use Rattle.bucket_cache.specs.RowsAt.{rows_at}
use Rattle.bucket_cache.proofs.HeldRows.{rows_at-found}
use Rattle.bucket_cache.proofs.held_rows.HeldRows.as_slice.Goals as goal

pub returns : goal.returns
returns c =
    let index = c.self.inside.index in
    c.as_slice.ensures
    ∙ ap (λ (t : TradeRows). t.rows) (sym c.index-trades-self.is)
    ∙ rows_at-found c.trades.result.now index c.index-trades-self.result (omega (arith, c.self.invariant, ap length c.trades.ensures.value)) c.index-trades-self.is
    ∙ ap (λ ts. rows_at ts index) c.trades.ensures.value ∙ c.self.view_is
