use Rattle.negated_book.proofs.Factors.{factors_of-negated, nets_of-negated}
use Rattle.negated_book.proofs.whole.factors_are_negated.Goals as goal

pub returns : goal.returns
returns c = record { factors = factors_of-negated; nets = nets_of-negated }
