use Rattle.std.proofs.Common.{◌∙◌, sym, rules}
use Rattle.pair_sum.proofs.OverLists.{total_by-sizes}
use Rattle.weighted_bucket.specs.declared.weighed.Weighed.{Weighed}
use Rattle.weighted_bucket.proofs.sums.gross.Goals as goal

pub returns-clause-value : goal.returns-clause-value
returns-clause-value c = search rules ∙ sym (total_by-sizes (λ (factor : Weighed). factor.w) c.args.factors.now)
