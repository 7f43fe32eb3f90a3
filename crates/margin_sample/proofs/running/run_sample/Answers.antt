use Rattle.std.proofs.Common.{sym, ap, ◌∙◌}
use Rattle.std.specs.List.{list_all}
use Rattle.feed_gate.specs.declared.report.FeedReport.{FeedReport}
use Rattle.margin_sample.specs.Feeds.{is_whole}
use Rattle.margin_sample.proofs.RunFeeds.{are_fed}
use Rattle.margin_sample.proofs.running.run_sample.Goals as goal

pub returns-then-are_whole : goal.returns-then-are_whole
returns-then-are_whole g c =
    are_fed c.args.plan.feeds c.args.plan.seed c.in_ok-feeds.feeds.items c.in-Ok.run'.sources.items c.in_ok-sets.sets.items c.in-Ok.run'.sets.items c.in-Ok.run'.reports.items
    c.requires.1 c.in_ok-feeds.ensures.count c.in_ok-feeds.ensures.feeds c.in_ok-sets.ensures.start c.in-Ok.ensures.ran
    (ap (list_all (λ (r : FeedReport). is_whole r.end)) (sym c.deref.ensures.value) ∙ (sym c.are_whole.ensures ∙ c.if-are_whole.true))
