use Rattle.std.proofs.Common.{◌∙◌, sym}
use Rattle.book_margin.specs.SimmKinds.declared.row.TradeRows.{TradeRows}
use Rattle.book_margin.specs.SimmKinds.Batch.{rows_of}
use Rattle.bucket_cache.specs.Live.{put_trades, rows_in}
use Rattle.bucket_cache.specs.Entries.{trades_of}
use Rattle.bucket_cache.specs.Lent.{all_rows}
use Rattle.bucket_cache.proofs.Keeping.{on_some, on_none}
use Rattle.bucket_cache.proofs.Gaining.{lent_rows}
use Rattle.bucket_cache.proofs.Exchanges.{batch_exchange, batch_is_moved}
use Rattle.bucket_cache.proofs.moving.take_in.Goals as goal

pub exchange-requires-clause-batch : goal.exchange-requires-clause-batch
exchange-requires-clause-batch c = lent_rows (λ (t : TradeRows). t.rows) _ _ c.args.batch.now c.as_slice-came.ensures.value c.in_ok-came.ensures

pub exchange-requires-clause-book : goal.exchange-requires-clause-book
exchange-requires-clause-book c =
    let us = trades_of c.args.current.now.entries in (
      rows_of (put_trades c.args.batch.now us),
      batch_exchange c.args.params.now c.args.batch.now us c.requires.batch c.requires.book.live _ _
          (lent_rows (λ (t : TradeRows). t.rows) _ _ c.args.batch.now c.as_slice-came.ensures.value c.in_ok-came.ensures)
          (lent_rows (λ (t : TradeRows). rows_in us t.trade) _ _ c.args.batch.now c.as_slice-gone.ensures.value c.in_ok-gone.ensures)
          c.args.sums.now c.order_is_free.ensures.permuted c.range_order_is_free.ensures c.elsewhere_few.ensures c.requires.book.summed,
    )

pub returns-in-Some-clause-range : goal.returns-in-Some-clause-range
returns-in-Some-clause-range c =
    let us = trades_of c.args.current.now.entries in
    sym c.in-Some.is ∙ c.in_ok-refused.ensures.range (rows_of (put_trades c.args.batch.now us))
    (batch_exchange c.args.params.now c.args.batch.now us c.requires.batch c.requires.book.live _ _
    (lent_rows (λ (t : TradeRows). t.rows) _ _ c.args.batch.now c.as_slice-came.ensures.value c.in_ok-came.ensures)
    (lent_rows (λ (t : TradeRows). rows_in us t.trade) _ _ c.args.batch.now c.as_slice-gone.ensures.value c.in_ok-gone.ensures)
    c.args.sums.now c.order_is_free.ensures.permuted c.range_order_is_free.ensures c.elsewhere_few.ensures c.requires.book.summed)

pub returns-in-Some-clause-refused_sums : goal.returns-in-Some-clause-refused_sums
returns-in-Some-clause-refused_sums c = on_some c.in_ok-refused.refused c.in-Some.fault _ c.in-Some.is c.in_ok-refused.ensures.refused

pub returns-clause-range : goal.returns-clause-range
returns-clause-range c =
    let us = trades_of c.args.current.now.entries in
    sym c.in_default.is ∙ c.in_ok-refused.ensures.range (rows_of (put_trades c.args.batch.now us))
    (batch_exchange c.args.params.now c.args.batch.now us c.requires.batch c.requires.book.live _ _
    (lent_rows (λ (t : TradeRows). t.rows) _ _ c.args.batch.now c.as_slice-came.ensures.value c.in_ok-came.ensures)
    (lent_rows (λ (t : TradeRows). rows_in us t.trade) _ _ c.args.batch.now c.as_slice-gone.ensures.value c.in_ok-gone.ensures)
    c.args.sums.now c.order_is_free.ensures.permuted c.range_order_is_free.ensures c.elsewhere_few.ensures c.requires.book.summed)

pub returns-clause-moved : goal.returns-clause-moved
returns-clause-moved c =
    let us = trades_of c.args.current.now.entries in
    batch_is_moved c.args.params.now c.args.batch.now us c.requires.batch c.requires.book.live (all_rows c.as_slice-came.result.now) (all_rows c.as_slice-gone.result.now)
    (lent_rows (λ (t : TradeRows). t.rows) _ _ c.args.batch.now c.as_slice-came.ensures.value c.in_ok-came.ensures)
    (lent_rows (λ (t : TradeRows). rows_in us t.trade) _ _ c.args.batch.now c.as_slice-gone.ensures.value c.in_ok-gone.ensures)
    c.args.kept.now c.touch_lent-2.new.kept c.exchange.new.sums c.order_is_free.ensures.permuted c.other_factors_stand.ensures.added c.other_factors_stand.ensures.taken c.touches_add_up.ensures.others
    c.touched_stays_right.ensures c.requires.book.right
    (on_none c.in_ok-refused.refused _ c.in_default.is
    (c.in_ok-refused.ensures.sums (rows_of (put_trades c.args.batch.now us))
    (batch_exchange c.args.params.now c.args.batch.now us c.requires.batch c.requires.book.live _ _
    (lent_rows (λ (t : TradeRows). t.rows) _ _ c.args.batch.now c.as_slice-came.ensures.value c.in_ok-came.ensures)
    (lent_rows (λ (t : TradeRows). rows_in us t.trade) _ _ c.args.batch.now c.as_slice-gone.ensures.value c.in_ok-gone.ensures)
    c.args.sums.now c.order_is_free.ensures.permuted c.range_order_is_free.ensures c.elsewhere_few.ensures c.requires.book.summed)))
    (c.touches_add_up.ensures.forgotten _ _ _ _ _ c.touch_lent.ensures c.touch_lent-2.ensures)
