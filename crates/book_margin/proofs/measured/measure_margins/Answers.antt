use Rattle.std.proofs.Common.{sym, subst}
use Rattle.class_margin.specs.value.Values.{AreBookValues, AreClassValues}
use Rattle.book_margin.proofs.measured.measure_margins.Goals as goal

pub measures_from-requires : goal.measures_from-requires
measures_from-requires c =
    subst (AreBookValues c.args.params.now c.args.product c.args.class) (sym c.as_slice.ensures.value) record { factors = c.args.factors.now; book = c.requires.book; are = c.in_ok-values.ensures }

pub returns : goal.returns
returns c =
    c.measures_from.ensures.measures c.args.factors.now c.requires.book
    (subst (AreClassValues c.args.params.now c.args.product c.args.class c.args.factors.now) (sym c.as_slice.ensures.value) c.in_ok-values.ensures)
