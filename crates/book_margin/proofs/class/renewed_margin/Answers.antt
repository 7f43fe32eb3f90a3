use Rattle.std.proofs.Common.{sym, subst}
use Rattle.class_margin.specs.value.Values.{AreBookValues, AreClassValues}
use Rattle.book_margin.proofs.Classes.{on_ok}
use Rattle.book_margin.proofs.class.renewed_margin.Goals as goal

pub class_from-requires : goal.class_from-requires
class_from-requires g c =
    subst (AreBookValues c.args.params.now c.args.product c.args.class) (sym c.as_slice.ensures.value) record { factors = c.args.factors.now; book = c.requires.book; are = c.in_ok-values.ensures.values }

pub returns-clause-margin : goal.returns-clause-margin
returns-clause-margin g c =
    c.class_from.ensures c.args.factors.now c.requires.book
    (subst (AreClassValues c.args.params.now c.args.product c.args.class c.args.factors.now) (sym c.as_slice.ensures.value) c.in_ok-values.ensures.values)

pub returns-clause-whole : goal.returns-clause-whole
returns-clause-whole g c = on_ok c.class_from.result c.in_ok-values.ensures.whole

pub returns-clause-steps : goal.returns-clause-steps
returns-clause-steps g c = on_ok c.class_from.result c.in_ok-values.ensures.steps
