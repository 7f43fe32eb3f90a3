use Rattle.std.proofs.Common.{List, OnOk, subst}
use Rattle.simm_params.specs.SimmRules.Params.{BucketTerms}
use Rattle.params_file.specs.Faults.{Gives}
use Rattle.params_file.specs.BucketClass.{class_key}
use Rattle.simm_params.specs.Thickness.{AreThickBuckets}
use Rattle.params_file.specs.Thickness.{thick_buckets, thick_class}
use Rattle.params_file.proofs.ThickBuckets.{credit_terms-is}
use Rattle.params_file.proofs.class_thickness.check_credit.Goals as goal

pub returns-clause-value : goal.returns-clause-value
unfolding thick_class
returns-clause-value c =
    subst (λ (l : List BucketTerms). Gives (λ u. u) c.check_buckets.result (thick_buckets (class_key c.args.which) c.args.kind l)) (credit_terms-is c.args.class.now.buckets)
    (rw c.key.ensures at c.check_buckets.ensures.value)

pub returns-clause-thick : goal.returns-clause-thick
returns-clause-thick c =
    subst (λ (l : List BucketTerms). OnOk c.check_buckets.result (AreThickBuckets c.args.kind l)) (credit_terms-is c.args.class.now.buckets) c.check_buckets.ensures.thick
