use Rattle.std.proofs.Common.{◌∙◌, sym, refl}
use Rattle.csa_terms.proofs.Loops.{has_table-view, has_table-some}
use Rattle.csa_terms.specs.Paths.{sets_path}
use Rattle.csa_terms.proofs.sets.check_tables.Goals as goal

pub returns-then-not-has_table-clause-value : goal.returns-then-not-has_table-clause-value
unfolding sets_path
returns-then-not-has_table-clause-value c = rw (← has_table-view c.args.places.now, ← c.has_table.ensures, c.if-not-has_table.true, c.in_ok-path_text.ensures) refl

pub returns-clause-value : goal.returns-clause-value
returns-clause-value c = rw (← has_table-view c.args.places.now, ← c.has_table.ensures, c.if-not-has_table.false) refl

pub returns-clause-some : goal.returns-clause-some
returns-clause-some c = has_table-some c.args.places.now (sym (has_table-view c.args.places.now) ∙ sym c.has_table.ensures ∙ c.if-not-has_table.false)
