use Rattle.std.proofs.Common.{map}
use Rattle.simm_params.specs.TomlValues.Paths.{word_of}
use Rattle.params_file.proofs.Each.{array_of_length-count}
use Rattle.params_file.proofs.Matrices.{is_matrix, is_square}
use Rattle.params_file.proofs.matrix_array.read_matrix.Goals as goal

pub new-requires : goal.new-requires
new-requires c =
    is_square c.args.size c.args.range c.in_ok-rows.rows.items (is_matrix (map word_of c.args.path.now) c.args.size c.args.range _ _ (array_of_length-count _ c.args.size _ _ c.in_ok-places.ensures) c.in_ok-rows.ensures)

pub returns-clause-matrix : goal.returns-clause-matrix
returns-clause-matrix c =
    rw c.new.ensures
    (is_matrix (map word_of c.args.path.now) c.args.size c.args.range _ _ (array_of_length-count _ c.args.size _ _ c.in_ok-places.ensures) c.in_ok-rows.ensures)
