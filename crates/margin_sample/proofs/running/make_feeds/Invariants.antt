use Rattle.std.proofs.Common.{◌≡◌, length}
use Rattle.margin_sample.specs.Feeds.{AreFeeds}
use Rattle.margin_sample.proofs.running.make_feeds.Given as goal

-- the feeds so far
abbrev pub invariant-loop-number : goal.invariant-loop-number
invariant-loop-number l = AreFeeds l.plan.seed 0 l.sources.items × (length l.sources.items ≡ l.number)
