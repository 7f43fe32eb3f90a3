use Rattle.std.proofs.Common.{◌∙◌, is_some, sym, subst}
use Rattle.book_margin.specs.SimmRules.Params.{Params}
use Rattle.bucket_cache.specs.Entries.{trades_of}
use Rattle.bucket_cache.specs.Held.{IsHeld}
use Rattle.bucket_cache.proofs.Keeping.{live_of, held_still}
use Rattle.bucket_cache.proofs.live.LiveMargin.copy.Goals as goal

pub invariant_of-result : goal.invariant_of-result
invariant_of-result c =
    subst (λ (p : Params). IsHeld p (trades_of c.in_ok-trades.trades.entries) c.in_ok-sums.sums c.in_ok-kept.kept c.self.inside.last) (sym c.in_ok-params.ensures)
    (held_still c.self.inside.params c.self.inside.last c.in_ok-trades.ensures c.in_ok-sums.ensures c.in_ok-kept.ensures c.self.invariant)

pub returns : goal.returns
returns c = (λ i. live_of (c.in_ok-params.ensures i) (c.in_ok-trades.ensures i) (c.in_ok-kept.ensures i) (is_some c.self.inside.last)) ∙ c.self.view_is
