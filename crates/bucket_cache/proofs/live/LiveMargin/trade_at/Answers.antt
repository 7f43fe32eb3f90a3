use Rattle.std.proofs.Common.{◌≡◌, suc, ◌∙◌, ap, arith}
use Rattle.bucket_cache.specs.Live.{Live, name_at}
use Rattle.bucket_cache.proofs.Maps.{name_at-trades_of}
use Rattle.bucket_cache.proofs.live.LiveMargin.trade_at.Goals as goal

pub returns : goal.returns
returns c =
    let place : suc c.in_ok-index.index ≡ c.args.place = omega arith in
    name_at-trades_of c.self.inside.trades.entries c.in_ok-index.index (c.in_ok-name.name.now, c.in_ok-name._rows.now) c.in_ok-name.ensures.entry
    ∙ ap (name_at _) place ∙ ap (λ (l : Live). name_at l.book c.args.place) c.self.view_is
