use Rattle.std.proofs.Common.{subst}
use Rattle.book_margin.specs.KeptBuckets.Kept.{AreOfPlaces}
use Rattle.bucket_cache.specs.Live.{Live}
use Rattle.bucket_cache.proofs.live.LiveMargin.facts.Goals as goal

pub returns : goal.returns
returns c = subst (λ (l : Live). AreOfPlaces l.kept.values) c.self.view_is c.facts.ensures
