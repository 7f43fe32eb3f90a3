use Rattle.std.proofs.Common.{◌<◌, length, sym, arith}
use Rattle.params_file.specs.Symmetry.{all_below, is_mirrored}
use Rattle.params_file.proofs.Mirrored.{all_below-fails}
use Rattle.params_file.proofs.symmetry.is_symmetric.Goals as goal

pub returns-then-not-is_row_mirrored : goal.returns-then-not-is_row_mirrored
returns-then-not-is_row_mirrored c =
    let within : c.loop-row.row < length c.args.matrix.now = omega arith in
    sym (all_below-fails (length c.args.matrix.now) (λ row. all_below row (is_mirrored c.args.matrix.now row)) c.loop-row.row within (sym c.if-not-is_row_mirrored.ensures))
