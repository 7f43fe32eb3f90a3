use Rattle.class_combine.proofs.Parameters.{stand_alone}
use Rattle.class_combine.proofs.laws.parameters_stand_for_book.Goals as goal

pub returns : goal.returns
returns c = stand_alone
