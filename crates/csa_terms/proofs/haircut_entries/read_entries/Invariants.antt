use Rattle.toml.specs.View.{table_view}
use Rattle.csa_terms.specs.Grammar.{haircuts_of}
use Rattle.csa_terms.proofs.Loops.{EntriesSoFar}
use Rattle.csa_terms.proofs.haircut_entries.read_entries.Given as goal

abbrev pub invariant-loop-class : goal.invariant-loop-class
invariant-loop-class l = EntriesSoFar l.table l.haircuts l.class-iterator (haircuts_of l.table (table_view l.entries))
