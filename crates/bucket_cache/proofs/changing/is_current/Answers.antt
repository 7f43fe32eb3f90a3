use Rattle.std.proofs.Common.{◌∙◌}
use Rattle.bucket_cache.proofs.Maps.{is_current-trades_of}
use Rattle.bucket_cache.proofs.changing.is_current.Goals as goal

pub returns : goal.returns
returns c = c.contains_key.ensures ∙ is_current-trades_of c.args.name.now c.args.current.now.entries
