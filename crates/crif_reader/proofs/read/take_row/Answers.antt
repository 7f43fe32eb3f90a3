use Rattle.std.proofs.Common.{◌∙◌, sym}
use Rattle.std.proofs.lemmas.Bool.{not-true, not-false}
use Rattle.crif_reader.specs.Repeated.{rows_in}
use Rattle.crif_reader.proofs.Runs.{once_first, once_again}
use Rattle.crif_reader.proofs.read.take_row.Goals as goal

pub returns-then-not-branch-clause-given : goal.returns-then-not-branch-clause-given
returns-then-not-branch-clause-given c = λ before noted.
    once_again c.args.number before _ (not-false _ (sym (c.in_ok-note.ensures.once (rows_in before) noted) ∙ c.if-not-branch.true))

pub returns-clause-given : goal.returns-clause-given
returns-clause-given c = λ before noted.
    once_first c.args.number before _ (not-true _ (sym (c.in_ok-note.ensures.once (rows_in before) noted) ∙ c.if-not-branch.false))

pub returns-clause-noted : goal.returns-clause-noted
returns-clause-noted c = λ before noted. c.in_ok-note.ensures.noted before noted c.if-not-branch.false
