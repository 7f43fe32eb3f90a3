use Rattle.std.proofs.Common.{map}
use Rattle.toml.specs.View.{items_view}
use Rattle.simm_params.specs.TomlValues.Paths.{word_of}
use Rattle.simm_params.specs.TomlValues.Places.{each_of}
use Rattle.simm_params.proofs.TomlValues.Places.{SoFar}
use Rattle.params_file.specs.Currencies.{new_currency_at}
use Rattle.params_file.proofs.currencies.read_new_places.Given as goal

abbrev pub invariant-loop-index : goal.invariant-loop-index
invariant-loop-index l = SoFar (new_currency_at (map word_of l.path)) l.earlier l.list l.index l.places (each_of (new_currency_at (map word_of l.path)) 1 l.earlier (items_view l.places))
