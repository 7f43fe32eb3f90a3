use Rattle.std.proofs.Common.{◌∙◌, ap}
use Rattle.bucket_cache.specs.Live.{rows_or_none}
use Rattle.bucket_cache.proofs.Maps.{rows_named-trades_of}
use Rattle.bucket_cache.proofs.lending.rows_in.Goals as goal

pub returns-in-Some : goal.returns-in-Some
returns-in-Some c = c.as_slice.ensures ∙ ap rows_or_none (c.in-Some.ensures.value ∙ rows_named-trades_of c.args.name.now c.args.current.now.entries)

pub returns-in-None : goal.returns-in-None
returns-in-None c = ap rows_or_none (c.in-None.ensures.value ∙ rows_named-trades_of c.args.name.now c.args.current.now.entries)
