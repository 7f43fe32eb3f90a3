use Rattle.std.proofs.Common.{length, ap, sym, subst, arith, take, List}
use Rattle.std.specs.Map.{lookup}
use Rattle.std.proofs.lemmas.List.{take_all}
use Rattle.std.proofs.lemmas.List.Folds.{length-flat_map-take}
use Rattle.book_margin.specs.SimmKinds.declared.row.CrifRow.{CrifRow}
use Rattle.book_margin.specs.SimmKinds.Batch.{is_in_range}
use Rattle.book_margin.specs.SimmKinds.Order.{same_key}
use Rattle.book_margin.specs.FactorBook.Netting.{AreNets}
use Rattle.bucket_cache.specs.declared.lent.LentRows.{LentRows}
use Rattle.bucket_cache.specs.Lent.{all_rows}
use Rattle.bucket_cache.proofs.Books.{each_trade, front_trades, one_trade_more}
use Rattle.bucket_cache.proofs.booking.net.Goals as goal

pub loop-trade-init : goal.loop-trade-init
loop-trade-init c = λ k. ap (lookup (same_key k)) c.new-rows.ensures

pub add_rows-requires-clause-room : goal.add_rows-requires-clause-room
add_rows-requires-clause-room c = record {
  rows = all_rows (take c.loop-trade.trade-index c.args.lent.now);
  are = c.loop-trade.invariant;
  amounts = front_trades is_in_range c.args.lent.now c.loop-trade.trade-index c.requires.amounts;
  few = omega (
    arith,
    c.requires.few,
    ap (λ (t : LentRows). length t.rows.now) c.trade-item.is,
    length-flat_map-take (λ (t : LentRows). t.rows.now) c.args.lent.now c.loop-trade.trade-index c.trade-item.result c.loop-trade-test.true,
  );
}

pub add_rows-requires-clause-amounts : goal.add_rows-requires-clause-amounts
add_rows-requires-clause-amounts c =
    each_trade is_in_range c.args.lent.now c.loop-trade.trade-index c.trade-item.result c.loop-trade-test.true c.trade-item.is c.requires.amounts

pub loop-trade-preserved : goal.loop-trade-preserved
loop-trade-preserved c =
    subst (λ (rows : List CrifRow). AreNets rows c.add_rows.new.self) (sym (one_trade_more c.args.lent.now c.loop-trade.trade-index c.trade-item.result c.loop-trade-test.true c.trade-item.is))
    (c.in_ok-add_rows.ensures (all_rows (take c.loop-trade.trade-index c.args.lent.now)) c.loop-trade.invariant)

pub of-requires : goal.of-requires
of-requires c = record {
  rows = all_rows c.args.lent.now;
  are = subst (λ (trades : List LentRows). AreNets (all_rows trades) c.loop-trade.rows) (take_all c.loop-trade.trade-index c.args.lent.now c.loop-trade-test.false) c.loop-trade.invariant;
  amounts = c.requires.amounts;
}

pub returns : goal.returns
returns c =
    c.of.ensures (all_rows c.args.lent.now)
    (subst (λ (trades : List LentRows). AreNets (all_rows trades) c.loop-trade.rows) (take_all c.loop-trade.trade-index c.args.lent.now c.loop-trade-test.false) c.loop-trade.invariant)
