use Rattle.std.proofs.Common.{[]}
use Rattle.toml.specs.View.{items_view}
use Rattle.toml_values.specs.Places.{each_of}
use Rattle.toml_values.proofs.Places.{SoFar}
use Rattle.csa_terms.specs.Grammar.{set_at}
use Rattle.csa_terms.proofs.sets.read_places.Given as goal

abbrev pub invariant-loop-index : goal.invariant-loop-index
invariant-loop-index l = SoFar set_at [] l.sets.items l.index l.places (each_of set_at 1 [] (items_view l.places))
