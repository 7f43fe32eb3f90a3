use Rattle.bucket_cache.proofs.Working.{steps_touched}
use Rattle.bucket_cache.proofs.laws.touched_values_cost.Goals as goal

pub returns : goal.returns
returns c = steps_touched
