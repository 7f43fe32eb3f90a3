use Rattle.std.proofs.Common.{sym}
use Rattle.params_file.proofs.Mirrored.{symmetric-from, diagonal-from}
use Rattle.params_file.proofs.symmetry.check_correlations.Goals as goal

pub returns-then-has_unit_diagonal-clause-mirrored : goal.returns-then-has_unit_diagonal-clause-mirrored
returns-then-has_unit_diagonal-clause-mirrored c = record {
  symmetric = symmetric-from c.args.matrix.now (sym c.if-is_symmetric.ensures);
  diagonal = diagonal-from c.args.matrix.now (sym c.if-has_unit_diagonal.ensures);
}
