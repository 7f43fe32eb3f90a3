use Rattle.std.proofs.Common.{◌≡◌}
use Rattle.feed_reader.specs.Feed.{block_of}
use Rattle.house_sample.specs.Trades.{state_at}
use Rattle.house_sample.proofs.Messages.{lines_to}
use Rattle.house_sample.proofs.feeds.sample_feed.Given as goal

-- the batches so far
abbrev pub invariant-loop-batch : goal.invariant-loop-batch
invariant-loop-batch l = (l.text ≡ block_of (lines_to l.seed l.number l.batch)) × (l.draws.state ≡ state_at l.seed l.number l.batch)
