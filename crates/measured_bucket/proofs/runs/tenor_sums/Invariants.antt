use Rattle.measured_bucket.specs.Runs.{scaled_net, sum_view}
use Rattle.measured_bucket.proofs.Summing.{Summing}
use Rattle.measured_bucket.proofs.runs.tenor_sums.Given as goal

abbrev pub invariant-loop-place : goal.invariant-loop-place
invariant-loop-place g l = Summing g.K.PartialEq.eq (scaled_net l.scale) sum_view l.nets l.place l.run l.sums.items
