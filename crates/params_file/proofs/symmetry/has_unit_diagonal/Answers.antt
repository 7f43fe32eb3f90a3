use Rattle.std.proofs.Common.{◌<◌, length, pos, sym, arith}
use Rattle.std.specs.Ordering.{int_eq}
use Rattle.simm_params.specs.Matrix.{entry}
use Rattle.params_file.proofs.Mirrored.{all_below-fails}
use Rattle.params_file.proofs.symmetry.has_unit_diagonal.Goals as goal

pub returns-then-not-is_unit : goal.returns-then-not-is_unit
returns-then-not-is_unit c =
    let matrix = c.args.matrix.now in
    let within : c.loop-place.place < length matrix = omega arith in
    sym (all_below-fails (length matrix) (λ place. int_eq (entry matrix place place) (pos 10000)) c.loop-place.place within (sym c.if-not-is_unit.ensures))
