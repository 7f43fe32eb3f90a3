use Rattle.negated_book.proofs.Netting.{sensitivities-negated, in_product-negated, netted-negated, products-negated}
use Rattle.negated_book.proofs.whole.nets_are_negated.Goals as goal

pub returns : goal.returns
returns c = record {
  rows = sensitivities-negated;
  nets = netted-negated;
  product = in_product-negated;
  products = products-negated;
}
