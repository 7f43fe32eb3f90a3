use Rattle.class_credit.proofs.Numbers.{issuer_rho-symmetric, issuer_rho-small}
use Rattle.class_credit.proofs.listed.ListedCredit.correlated.Goals as goal

pub invariant_of-result : goal.invariant_of-result
invariant_of-result c = record {
  symmetric = issuer_rho-symmetric c.in_millionths.result.0 c.in_millionths-2.result.0 c.args.grouped.items;
  at_most_one = λ i j. issuer_rho-small c.in_millionths.result.0 c.in_millionths-2.result.0 c.args.grouped.items i j c.in_millionths.ensures.size c.in_millionths-2.ensures.size;
}
