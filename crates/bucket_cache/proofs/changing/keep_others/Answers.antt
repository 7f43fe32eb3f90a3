use Rattle.std.proofs.Common.{rules, not}
use Rattle.indexmap.proofs.CallerLemmas.{filter-RetainsPairs}
use Rattle.bucket_cache.specs.Entries.{is_among}
use Rattle.bucket_cache.proofs.changing.keep_others.Goals as goal

pub returns : goal.returns
returns c = filter-RetainsPairs _ (λ e. not (is_among c.args.names.now.keys e.0)) _ (λ k v b w g call. search rules) _ _ c.retain.ensures.filtered
