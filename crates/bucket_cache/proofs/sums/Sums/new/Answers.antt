use Rattle.std.proofs.Common.{refl, []}
use Rattle.bucket_cache.proofs.Gaining.{sums_are}
use Rattle.bucket_cache.proofs.sums.Sums.new.Goals as goal

pub returns : goal.returns
returns c = λ p. sums_are p _ [] refl c.new-factors.ensures (c.new-sizes.ensures p) c.new-add_ons.ensures
