use Rattle.std.proofs.Common.{◌∙◌, sym}
use Rattle.book_margin.specs.SimmKinds.Batch.{rows_of}
use Rattle.bucket_cache.specs.Lent.{all_rows}
use Rattle.bucket_cache.proofs.AddOnOrder.{add_ons_move}
use Rattle.bucket_cache.proofs.Exchanges.{exchange_netted, gone_amounts, gone_few}
use Rattle.bucket_cache.proofs.exchanging.exchange.Goals as goal

pub net-requires-clause-few : goal.net-requires-clause-few
net-requires-clause-few c = gone_few c.args.params.now c.args.sums.now (all_rows c.args.came.now) (all_rows c.args.gone.now) c.requires.book.0 c.requires.book.1

pub net-requires-clause-amounts : goal.net-requires-clause-amounts
net-requires-clause-amounts c = gone_amounts c.args.params.now c.args.sums.now (all_rows c.args.came.now) (all_rows c.args.gone.now) c.requires.book.0 c.requires.book.1

pub add_lent-requires : goal.add_lent-requires
add_lent-requires c =
    let e = c.requires.book.1 in
    record { held = e.before; are = e.are; amounts = e.amounts; few = e.few }

pub fault_without-requires : goal.fault_without-requires
fault_without-requires c =
    let e = c.requires.book.1 in (
      c.requires.book.0,
      exchange_netted c.args.params.now c.args.sums.now c.add_lent.new.self c.in_ok-leaving.leaving (rows_of c.args.batch.now) (all_rows c.args.came.now) (all_rows c.args.gone.now) c.requires.book.0
          c.order_is_free.ensures.permuted (add_ons_move c.sums_ignore_order.ensures.alike) e (c.in_ok-add_lent.ensures.ok e.before e.are) c.in_ok-leaving.ensures c.requires.batch,
    )

pub take_lent-requires : goal.take_lent-requires
take_lent-requires c =
    let e = c.requires.book.1 in
    record { rest = e.before; are = c.in_ok-add_lent.ensures.ok e.before e.are; amounts = e.amounts; few = e.few }

pub returns-in-Some-clause-range : goal.returns-in-Some-clause-range
returns-in-Some-clause-range c = λ held e.
    sym c.in-Some.is ∙ c.fault_without.ensures held
    (exchange_netted c.args.params.now c.args.sums.now c.add_lent.new.self c.in_ok-leaving.leaving (rows_of c.args.batch.now) (all_rows c.args.came.now) (all_rows c.args.gone.now) held
    c.order_is_free.ensures.permuted (add_ons_move c.sums_ignore_order.ensures.alike) e (c.in_ok-add_lent.ensures.ok e.before e.are) c.in_ok-leaving.ensures c.requires.batch)

pub returns-in-Some-clause-refused : goal.returns-in-Some-clause-refused
returns-in-Some-clause-refused c =
    let e = c.requires.book.1 in
    c.take_lent.ensures e.before (c.in_ok-add_lent.ensures.ok e.before e.are) ∙ sym e.are

pub take_lent-requires-in-None : goal.take_lent-requires-in-None
take_lent-requires-in-None c =
    let e = c.requires.book.1 in
    let n = exchange_netted c.args.params.now c.args.sums.now c.add_lent.new.self c.in_ok-leaving.leaving (rows_of c.args.batch.now) (all_rows c.args.came.now) (all_rows c.args.gone.now) c.requires.book.0
    c.order_is_free.ensures.permuted (add_ons_move c.sums_ignore_order.ensures.alike) e (c.in_ok-add_lent.ensures.ok e.before e.are) c.in_ok-leaving.ensures c.requires.batch in
    record { rest = c.requires.book.0; are = n.are; amounts = n.amounts; few = n.few }

pub returns-clause-range : goal.returns-clause-range
returns-clause-range c = λ held e.
    sym c.in-None.is ∙ c.fault_without.ensures held
    (exchange_netted c.args.params.now c.args.sums.now c.add_lent.new.self c.in_ok-leaving.leaving (rows_of c.args.batch.now) (all_rows c.args.came.now) (all_rows c.args.gone.now) held
    c.order_is_free.ensures.permuted (add_ons_move c.sums_ignore_order.ensures.alike) e (c.in_ok-add_lent.ensures.ok e.before e.are) c.in_ok-leaving.ensures c.requires.batch)

pub returns-clause-sums : goal.returns-clause-sums
returns-clause-sums c = λ held e.
    c.take_lent-in-None.ensures held
    (exchange_netted c.args.params.now c.args.sums.now c.add_lent.new.self c.in_ok-leaving.leaving (rows_of c.args.batch.now) (all_rows c.args.came.now) (all_rows c.args.gone.now) held
    c.order_is_free.ensures.permuted (add_ons_move c.sums_ignore_order.ensures.alike) e (c.in_ok-add_lent.ensures.ok e.before e.are) c.in_ok-leaving.ensures c.requires.batch).are
