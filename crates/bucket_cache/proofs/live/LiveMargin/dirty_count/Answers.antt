use Rattle.std.proofs.Common.{◌∙◌, length, ap, arith}
use Rattle.book_margin.specs.SimmKinds.Batch.{rows_of}
use Rattle.book_margin.specs.FactorBook.Factors.{factors_of}
use Rattle.book_margin.specs.KeptBuckets.Dirty.{dirty_in}
use Rattle.bucket_cache.specs.declared.sums.Sums.{Sums}
use Rattle.bucket_cache.specs.Entries.{trades_of}
use Rattle.bucket_cache.specs.Live.{Live}
use Rattle.bucket_cache.proofs.live.LiveMargin.dirty_count.Goals as goal

pub dirty_count-requires : goal.dirty_count-requires
dirty_count-requires c =
    omega (
      arith,
      ap (λ (s : Sums). length s.factors) c.self.invariant.summed.summed,
      (c.range_bounds.ensures (rows_of (trades_of c.self.inside.trades.entries)) c.self.invariant.summed.live.in_range).keys,
    )

pub returns : goal.returns
returns c =
    c.dirty_count.ensures ∙ ap (λ (s : Sums). dirty_in c.self.inside.kept s.factors) c.self.invariant.summed.summed
    ∙ ap (λ (l : Live). dirty_in l.kept (factors_of (rows_of l.book))) c.self.view_is
