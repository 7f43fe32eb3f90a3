use Rattle.std.proofs.Common.{[], sym, ap, ◌∙◌, length, eqb-true}
use Rattle.std.proofs.lemmas.Bool.{eqb-false}
use Rattle.std.proofs.lemmas.List.{drop_all}
use Rattle.bucket_cache.specs.Live.{rows_in}
use Rattle.bucket_cache.proofs.Batches.{nameless_here, nameless_later}
use Rattle.bucket_cache.proofs.figures.batch_parameters.Goals as goal

pub returns-then-is_empty : goal.returns-then-is_empty
returns-then-is_empty c =
    c.as_slice.ensures
    ∙ sym (c.loop-trade.invariant
    ∙ nameless_here c.args.trades.now c.loop-trade.trade-index c.trade-item.result c.loop-trade-test.true c.trade-item.is
    (sym (ap length c.bytes.ensures.value) ∙ eqb-true (length c.bytes.result.now) 0 (sym c.is_empty.ensures ∙ c.if-is_empty.true)))

pub loop-trade-preserved : goal.loop-trade-preserved
loop-trade-preserved c =
    c.loop-trade.invariant
    ∙ nameless_later c.args.trades.now c.loop-trade.trade-index c.trade-item.result c.loop-trade-test.true c.trade-item.is
    (λ none. eqb-false (length c.bytes.result.now) 0 (sym c.is_empty.ensures ∙ c.if-is_empty.false) (ap length c.bytes.ensures.value ∙ none))

pub returns : goal.returns
returns c = sym (c.loop-trade.invariant ∙ ap (λ trades. rows_in trades []) (drop_all c.loop-trade.trade-index c.args.trades.now c.loop-trade-test.false))
