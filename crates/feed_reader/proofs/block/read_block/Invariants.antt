use Rattle.std.proofs.Common.{◌≡◌, ℕ, ◌-◌, ◌++◌, List}
use Rattle.mh_io.specs.Lined.{Gave}
use Rattle.mh_io.specs.Limits.{most_bytes}
use Rattle.feed_reader.specs.Feed.{block_of}
use Rattle.feed_reader.specs.Steps.{AreInside}
use Rattle.feed_reader.proofs.block.read_block.Given as goal

-- the lines so far lie within the block
abbrev pub invariant-loop-block : goal.invariant-loop-block
invariant-loop-block g l = (inside : List (List ℕ)) × AreInside inside × Gave g.S.Source.seen l.initial.lines l.lines inside × (l.block ≡ l.initial.block ++ block_of inside)

abbrev pub decreases-loop-block : goal.decreases-loop-block
decreases-loop-block g l = most_bytes - l.lines.given
