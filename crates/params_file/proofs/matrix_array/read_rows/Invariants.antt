use Rattle.std.proofs.Common.{[], map}
use Rattle.toml.specs.View.{items_view}
use Rattle.simm_params.specs.TomlValues.Paths.{word_of}
use Rattle.simm_params.specs.TomlValues.Places.{each_of}
use Rattle.simm_params.proofs.TomlValues.Places.{SoFar}
use Rattle.params_file.specs.Matrix.{row_at}
use Rattle.params_file.proofs.matrix_array.read_rows.Given as goal

abbrev pub invariant-loop-index : goal.invariant-loop-index
invariant-loop-index l = SoFar (row_at (map word_of l.path) l.size l.range) [] l.rows.items l.index l.places (each_of (row_at (map word_of l.path) l.size l.range) 1 [] (items_view l.places))
