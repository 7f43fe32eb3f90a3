use Rattle.std.proofs.Common.{◌≡◌, ◌∙◌, true}
use Rattle.bucket_cache.proofs.Standing.{asked_cached, renewed_cached, renewed_still}
use Rattle.set_core.proofs.Caching.{both_so, either_so}
use Rattle.set_core.proofs.Changes.{same_trades}
use Rattle.set_core.proofs.asking.ask_counted.Goals as goal

pub returns-clause-trades : goal.returns-clause-trades
returns-clause-trades g c = same_trades c.margin.new.self c.args.live.now c.margin.ensures.params c.margin.ensures.book

pub returns-clause-all : goal.returns-clause-all
returns-clause-all g c =
    both_so c.margin.result _ _ _ c.margin.ensures.fresh c.margin.ensures.all (λ fresh all. record {
      fresh = fresh;
      kept = all;
      cached = asked_cached c.args.live.now c.margin.new.self _ c.margin.ensures.book c.margin.ensures.renewed all;
    })

pub returns-clause-stays : goal.returns-clause-stays
returns-clause-stays g c = record {
  fresh = λ known. either_so c.margin.result _ _ (c.margin.new.self.is_fresh ≡ true) c.margin.ensures.fresh c.margin.ensures.still_stale (λ h. h) (λ same. same ∙ known);
  kept = λ place. renewed_cached c.args.live.now c.margin.new.self _ _ c.margin.ensures.book c.margin.ensures.renewed place;
  cached = λ place. renewed_still c.args.live.now c.margin.new.self _ _ c.margin.ensures.renewed place;
}
