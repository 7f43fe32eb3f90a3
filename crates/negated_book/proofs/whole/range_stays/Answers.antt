use Rattle.negated_book.proofs.Range.{range-stays, delta_size-even, vega_size-even}
use Rattle.negated_book.proofs.Rows.{admitted-stay, amounts-stay}
use Rattle.negated_book.proofs.whole.range_stays.Goals as goal

pub returns : goal.returns
returns c = record {
  range = range-stays;
  delta = delta_size-even;
  vega = vega_size-even;
  admitted = admitted-stay;
  amounts = amounts-stay;
}
