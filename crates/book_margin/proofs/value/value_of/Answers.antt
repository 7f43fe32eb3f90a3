use Rattle.std.proofs.Common.{◌∙◌, sym, ap, subst}
use Rattle.std.specs.Prelude.{is_some}
use Rattle.class_margin.specs.value.Values.{IsValued}
use Rattle.kept_buckets.specs.Kept.{value_at}
use Rattle.book_margin.proofs.Renewed.{renews_none, right_value}
use Rattle.book_margin.proofs.value.value_of.Goals as goal

pub returns-in-Some-clause-value : goal.returns-in-Some-clause-value
returns-in-Some-clause-value g c =
    let p = c.args.params.now in
    let lent = c.args.lent.now in
    subst (λ l. IsValued p l c.in-Some.value.now) (sym c.requires.its)
    (right_value p c.args.factors.now lent.place c.args.kept.now c.in-Some.value.now c.requires.right (c.in-Some.ensures ∙ ap (value_at c.args.kept.now) c.place.ensures))

pub returns-in-Some-clause-renewed : goal.returns-in-Some-clause-renewed
returns-in-Some-clause-renewed g c = renews_none c.args.kept.now c.requires.right

pub returns-in-Some-clause-kept : goal.returns-in-Some-clause-kept
returns-in-Some-clause-kept g c = ap is_some (sym (c.in-Some.ensures ∙ ap (value_at c.args.kept.now) c.place.ensures))

pub renewed_value-requires-clause-none : goal.renewed_value-requires-clause-none
renewed_value-requires-clause-none g c = sym (c.in-None.ensures ∙ ap (value_at c.args.kept.now) c.place.ensures)
