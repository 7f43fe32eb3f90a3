use Rattle.simm_params.specs.BucketView.{terms_view}
use Rattle.params_file.specs.Thickness.{thick_bucket}
use Rattle.params_file.proofs.Passes.{PassedSoFar}
use Rattle.params_file.proofs.class_thickness.check_each.Given as goal

abbrev pub invariant-loop-index : goal.invariant-loop-index
invariant-loop-index l = PassedSoFar (thick_bucket l.class l.kind) (λ b. terms_view b.terms) l.index l.buckets
