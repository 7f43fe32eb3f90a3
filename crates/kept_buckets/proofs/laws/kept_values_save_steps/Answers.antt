use Rattle.kept_buckets.proofs.Sums.{steps_saved}
use Rattle.kept_buckets.proofs.laws.kept_values_save_steps.Goals as goal

pub returns : goal.returns
returns c = λ count old new place value factors keeps none some. steps_saved old new place value keeps count factors none some
