use Rattle.std.proofs.Common.{length, arith}
use Rattle.weighted_bucket.proofs.Kept.{scratch_steps, difference_steps}
use Rattle.weighted_bucket.proofs.margin.bucket_margin_after.Goals as goal

pub returns-then-changed_count-factors-clause-steps : goal.returns-then-changed_count-factors-clause-steps
returns-then-changed_count-factors-clause-steps g c = scratch_steps (length c.args.factors.now) _ _ _ (omega (arith, c.changed_count.ensures.count)) c.bucket_margin.ensures.steps

pub returns-clause-at_most : goal.returns-clause-at_most
returns-clause-at_most g c = difference_steps (length c.args.factors.now) _ _ _ (omega (arith, c.changed_count.ensures.count)) c.renewed_pairs-q.ensures.steps
