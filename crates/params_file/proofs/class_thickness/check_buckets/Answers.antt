use Rattle.std.proofs.Common.{List, map, ap, ◌∙◌, subst}
use Rattle.simm_params.specs.SimmRules.Params.{BucketTerms}
use Rattle.simm_params.specs.Buckets.{ClassBucket}
use Rattle.params_file.specs.Faults.{Gives, is_memory}
use Rattle.simm_params.specs.Thickness.{AreThickBuckets}
use Rattle.params_file.specs.Thickness.{each_passes, thick_bucket, thick_buckets}
use Rattle.params_file.proofs.Each.{of_given}
use Rattle.params_file.proofs.ThickBuckets.{are_thick_buckets, terms-view}
use Rattle.params_file.proofs.class_thickness.check_buckets.Goals as goal

pub returns-clause-value : goal.returns-clause-value
unfolding thick_buckets
returns-clause-value c =
    subst (λ (l : List BucketTerms). Gives (λ u. u) c.check_each.result (each_passes (thick_bucket c.args.class.now c.args.kind) 1 l)) (terms-view _ ∙ ap (map (λ (b : ClassBucket). b.terms)) c.as_slice.ensures) c.check_each.ensures

pub returns-clause-thick : goal.returns-clause-thick
returns-clause-thick c =
    let same = terms-view _ ∙ ap (map (λ (b : ClassBucket). b.terms)) c.as_slice.ensures in
    of_given {P = λ _. AreThickBuckets c.args.kind (map (λ (b : ClassBucket). b.terms) c.args.buckets.now)} is_memory (λ u. u) c.check_each.result _
    (λ _ passed. subst (AreThickBuckets c.args.kind) same (are_thick_buckets c.args.class.now c.args.kind _ passed))
    c.check_each.ensures
