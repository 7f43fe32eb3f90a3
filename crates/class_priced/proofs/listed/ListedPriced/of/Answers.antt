use Rattle.std.proofs.Common.{sym}
use Rattle.measured_bucket.specs.SimmParams.ListedBuckets.{priced_bucket_view}
use Rattle.measured_bucket.proofs.Listed.{priced_terms}
use Rattle.class_priced.proofs.listed.ListedPriced.of.Goals as goal

pub invariant_of-result : goal.invariant_of-result
invariant_of-result c = record {
  weighed = c.in_ok-bucket.ensures.weighed;
  terms = priced_terms c.args.params.now c.facts.ensures.params c.args.class c.args.id (priced_bucket_view c.in_ok-bucket.bucket) (sym c.in_ok-bucket.ensures.value) c.in_ok-bucket.ensures.weighed;
  ratio = c.priced_hvr.ensures.range;
}
