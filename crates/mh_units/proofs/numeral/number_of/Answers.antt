use Rattle.std.proofs.Common.{◌∙◌, sym, eqb-true, length}
use Rattle.std.proofs.lemmas.Bool.{eqb-false}
use Rattle.mh_units.proofs.Answers.{empty_is, long_is, bad_is}
use Rattle.mh_units.proofs.numeral.number_of.Goals as goal

pub returns-then-is_empty-clause-value : goal.returns-then-is_empty-clause-value
returns-then-is_empty-clause-value c =
    empty_is c.args.places c.args.most c.args.text.now (eqb-true (length c.args.text.now) 0 (sym c.is_empty.ensures ∙ c.if-is_empty.true))

pub returns-then-text-gt-LONGEST-clause-value : goal.returns-then-text-gt-LONGEST-clause-value
returns-then-text-gt-LONGEST-clause-value c = long_is c.args.places c.args.most c.args.text.now c.if-text-gt-LONGEST.true

pub returns-in-Err-clause-value : goal.returns-in-Err-clause-value
returns-in-Err-clause-value c =
    bad_is c.args.places c.args.most c.args.text.now c.in-Err.place (eqb-false (length c.args.text.now) 0 (sym c.is_empty.ensures ∙ c.if-is_empty.false)) c.if-text-gt-LONGEST.false c.in-Err.ensures.0 c.in-Err.ensures.1
