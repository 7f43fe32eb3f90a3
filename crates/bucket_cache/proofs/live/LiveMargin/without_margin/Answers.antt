use Rattle.std.proofs.Common.{◌∙◌, sym, ap, subst}
use Rattle.book_margin.specs.SimmKinds.Batch.{rows_of}
use Rattle.bucket_cache.specs.Live.{IsLive}
use Rattle.bucket_cache.specs.Entries.{trades_of}
use Rattle.bucket_cache.specs.Sums.{book_sums}
use Rattle.bucket_cache.proofs.Lives.{live_none}
use Rattle.bucket_cache.proofs.live.LiveMargin.without_margin.Goals as goal

pub invariant_of-result : goal.invariant_of-result
invariant_of-result c = record {
  summed = record {
    live = subst (λ es. IsLive c.args.params (trades_of es)) (sym c.new-trades.ensures.empty) (live_none c.args.params);
    summed = c.new-sums.ensures c.args.params ∙ ap (λ es. book_sums c.args.params (rows_of (trades_of es))) (sym c.new-trades.ensures.empty);
    right = c.nothing_is_right.ensures c.args.params _ _ c.new-kept.ensures.values c.new-kept.ensures.margins;
  };
  fresh = tt;
}
