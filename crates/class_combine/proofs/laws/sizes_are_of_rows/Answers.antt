use Rattle.std.proofs.Common.{[], refl}
use Rattle.class_combine.specs.Sums.{sums_of}
use Rattle.class_combine.proofs.Shares.{size_is}
use Rattle.class_combine.proofs.laws.sizes_are_of_rows.Goals as goal

pub returns : goal.returns
returns c = λ held name. size_is (sums_of held) [] held refl name
