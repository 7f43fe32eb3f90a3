-- The values of buckets.
use Rattle.std.specs.Prelude.{List, map}
use Rattle.simm_rules.specs.Params.{BucketTerms}
use Rattle.simm_params.specs.ThresholdView.{thresholds_view}
use Rattle.simm_params.specs.Buckets.{ClassBucket}
use Rattle.simm_params.specs.declared.bucket.BucketTerms.{BucketTerms as HeldTerms}
use Rattle.simm_params.specs.declared.bucket.ClassBucket.{ClassBucket as Held}

abbrev pub terms_view : HeldTerms → BucketTerms
terms_view t = record {
  id = t.id;
  weight = t.weight.0;
  thresholds = thresholds_view t.thresholds;
  rho = t.rho.0;
  vrw = t.vrw.0;
  curvature = t.curvature;
}

abbrev pub bucket_view : Held → ClassBucket
bucket_view b = record { terms = terms_view b.terms; own = b.own.0 }

abbrev pub buckets_view : List Held → List ClassBucket
buckets_view buckets = map bucket_view buckets
