-- The margins of a book on both sides.
use Rattle.kept_buckets.specs.SimmKinds.declared.margin_side.MarginSide.{MarginSide}
use Rattle.kept_buckets.specs.SimmKinds.declared.margin_side.MarginSide.TheVariants.{Collect, Post}
use Rattle.kept_buckets.specs.SimmRules.declared.values.Breakdown.{Breakdown}
use Rattle.book_margin.specs.declared.both_breakdowns.BothBreakdowns.{BothBreakdowns}

abbrev pub breakdown_on : BothBreakdowns → MarginSide → Breakdown
breakdown_on margins Collect = margins.collect
breakdown_on margins Post = margins.post
