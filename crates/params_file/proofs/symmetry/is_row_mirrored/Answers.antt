use Rattle.std.proofs.Common.{sym}
use Rattle.params_file.specs.Symmetry.{is_mirrored}
use Rattle.params_file.proofs.Mirrored.{all_below-fails}
use Rattle.params_file.proofs.symmetry.is_row_mirrored.Goals as goal

pub returns-then-not-is_mirrored : goal.returns-then-not-is_mirrored
returns-then-not-is_mirrored c =
    sym (all_below-fails c.args.row (is_mirrored c.args.matrix.now c.args.row) c.loop-column.column c.loop-column-test.true (sym c.if-not-is_mirrored.ensures))
