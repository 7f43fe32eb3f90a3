use Rattle.negated_book.proofs.BaseCorrelation.{base_value-turns, base_margin-even}
use Rattle.negated_book.proofs.base.base_correlation_is_even.Goals as goal

pub returns : goal.returns
returns c = record { value = base_value-turns; margin = base_margin-even }
