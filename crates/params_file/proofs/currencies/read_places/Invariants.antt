use Rattle.std.proofs.Common.{[], map}
use Rattle.toml.specs.View.{items_view}
use Rattle.simm_params.specs.TomlValues.Paths.{word_of}
use Rattle.simm_params.specs.TomlValues.Places.{each_of}
use Rattle.simm_params.proofs.TomlValues.Places.{SoFar}
use Rattle.params_file.specs.Currencies.{currency_at}
use Rattle.params_file.proofs.currencies.read_places.Given as goal

abbrev pub invariant-loop-index : goal.invariant-loop-index
invariant-loop-index l = SoFar (currency_at (map word_of l.path)) [] l.list l.index l.places (each_of (currency_at (map word_of l.path)) 1 [] (items_view l.places))
