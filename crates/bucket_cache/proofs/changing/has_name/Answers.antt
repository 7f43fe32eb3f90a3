use Rattle.std.proofs.Common.{◌∙◌}
use Rattle.bucket_cache.proofs.Maps.{is_among-by_eq}
use Rattle.bucket_cache.proofs.changing.has_name.Goals as goal

pub returns : goal.returns
returns c = c.contains.ensures ∙ is_among-by_eq c.args.name.now c.args.names.now.keys
