use Rattle.std.proofs.Common.{sym}
use Rattle.measured_bucket.specs.SimmParams.ListedBuckets.{credit_bucket_view}
use Rattle.measured_bucket.proofs.Listed.{credit_terms}
use Rattle.class_credit.proofs.listed.ListedCredit.of.Goals as goal

pub invariant_of-result : goal.invariant_of-result
invariant_of-result c = record {
  weighed = c.in_ok-bucket.ensures.weighed;
  terms = credit_terms c.args.params.now c.facts.ensures.params c.args.class c.args.id (credit_bucket_view c.in_ok-bucket.bucket) (sym c.in_ok-bucket.ensures.value) c.in_ok-bucket.ensures.weighed;
}
