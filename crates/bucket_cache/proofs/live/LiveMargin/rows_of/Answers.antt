use Rattle.std.proofs.Common.{◌∙◌, ap, Some}
use Rattle.std.specs.Option.{option_copied}
use Rattle.bucket_cache.specs.Live.{Live, rows_named}
use Rattle.bucket_cache.proofs.Maps.{rows_named-trades_of}
use Rattle.bucket_cache.proofs.live.LiveMargin.rows_of.Goals as goal

pub returns-in_err-rows : goal.returns-in_err-rows
returns-in_err-rows c =
    ap option_copied c.from_residual.ensures ∙ c.in_err-rows.ensures.value ∙ rows_named-trades_of c.args.name.now c.self.inside.trades.entries
    ∙ ap (λ (l : Live). rows_named l.book c.args.name.now) c.self.view_is

pub returns : goal.returns
returns c =
    ap Some c.as_slice.ensures ∙ c.in_ok-rows.ensures.value ∙ rows_named-trades_of c.args.name.now c.self.inside.trades.entries
    ∙ ap (λ (l : Live). rows_named l.book c.args.name.now) c.self.view_is
