use Rattle.std.proofs.Common.{◌≡◌, ◌∙◌, Option, Some, IfSome, sym, ap, subst}
use Rattle.std.specs.Option.{option_and_then}
use Rattle.book_margin.specs.SimmKinds.Batch.{rows_of}
use Rattle.book_margin.specs.FactorBook.declared.place.Place.{Place}
use Rattle.book_margin.specs.FactorBook.Factors.{factors_of}
use Rattle.book_margin.specs.KeptBuckets.Kept.{cached_in}
use Rattle.book_margin.specs.Right.{value_in}
use Rattle.bucket_cache.specs.Entries.{trades_of}
use Rattle.bucket_cache.specs.Live.{Live}
use Rattle.bucket_cache.proofs.live.LiveMargin.cached.Goals as goal

pub returns-in-None-clause-kept : goal.returns-in-None-clause-kept
returns-in-None-clause-kept c =
    ap (option_and_then (λ q. cached_in c.args.self.now.kept q c.args.measure)) c.in-None.ensures

pub returns-in-Some-clause-kept : goal.returns-in-Some-clause-kept
returns-in-Some-clause-kept c =
    c.cached.ensures ∙ ap (λ (l : Live). cached_in l.kept c.in-Some.place c.args.measure) c.self.view_is
    ∙ ap (option_and_then (λ q. cached_in c.args.self.now.kept q c.args.measure)) c.in-Some.ensures

pub returns-in-Some-clause-right : goal.returns-in-Some-clause-right
returns-in-Some-clause-right c =
    let place : Place = c.in-Some.place in
    let factors = factors_of (rows_of (trades_of c.self.inside.trades.entries)) in
    subst (λ (o : Option Place). IfSome c.cached.result (λ value. Some value ≡ option_and_then (λ q. value_in c.args.self.now.params (factors_of (rows_of c.args.self.now.book)) q c.args.measure) o)) c.in-Some.ensures
    (subst (λ (l : Live). IfSome c.cached.result (λ value. Some value ≡ value_in l.params (factors_of (rows_of l.book)) place c.args.measure)) c.self.view_is
    (subst (λ o. IfSome o (λ value. Some value ≡ value_in c.self.inside.params factors place c.args.measure)) (sym c.cached.ensures)
    (c.kept_values_are_from_scratch.ensures c.self.inside.params factors c.self.inside.kept c.self.invariant.summed.right place c.args.measure)))
