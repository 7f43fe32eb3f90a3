use Rattle.std.proofs.Common.{◌≡◌, ◌∙◌, ◌++◌, Option, Some, None, true, refl, sym, ap, subst}
use Rattle.std.specs.Prelude.{is_some}
use Rattle.std.specs.Option.{option_copied}
use denote.Bor.{Bor}
use Rattle.kept_buckets.specs.FactorBook.declared.value.PlaceValue.{PlaceValue}
use Rattle.class_margin.specs.value.Values.{IsValued}
use Rattle.kept_buckets.specs.Kept.{value_at}
use Rattle.book_margin.proofs.Gathering.{gone_all, gone_more, gone_none, next_lent, lent_kept}
use Rattle.book_margin.proofs.Renewed.{right_value}
use Rattle.book_margin.proofs.measured.push_kept_side.Goals as goal

-- what is lent is there where a copy of it is
some_copied : (o : Option (Bor PlaceValue)) → is_some (option_copied o) ≡ true → is_some o ≡ true
some_copied (Some b) h = refl
some_copied None h = h

pub loop-lent-init : goal.loop-lent-init
loop-lent-init c =
    gone_none c.args.params.now c.args.factors.now c.args.product c.args.class c.args.side c.args.values.now.items c.into_iter-lent-iterator.result (c.into_iter-lent-iterator.ensures.into_iter_gives ∙ c.side-lent-items.ensures.rest)

pub unwrap-value-requires : goal.unwrap-value-requires
unwrap-value-requires c =
    some_copied c.get.result (ap is_some (c.get.ensures ∙ ap (value_at c.args.kept.now) c.place.ensures)
    ∙ lent_kept c.args.params.now c.args.factors.now c.args.product c.args.class c.args.side c.args.values.now.items c.args.kept.now c.loop-lent.lent-iterator c.next.new.self (c.in-Some.field-0-0.now, c.in-Some.lent.now) c.loop-lent.values.items
    c.loop-lent.invariant c.in-Some.ensures.steps c.requires.kept)

pub loop-lent-preserved : goal.loop-lent-preserved
loop-lent-preserved c =
    let p = c.args.params.now in
    let lent = c.in-Some.lent.now in
    let its = next_lent p c.args.factors.now c.args.product c.args.class c.args.side c.args.values.now.items c.loop-lent.lent-iterator c.next.new.self (c.in-Some.field-0-0.now, lent) c.loop-lent.values.items c.loop-lent.invariant c.in-Some.ensures.steps in
    gone_more p c.args.factors.now c.args.product c.args.class c.args.side c.args.values.now.items c.loop-lent.lent-iterator c.next.new.self (c.in-Some.field-0-0.now, lent) c.unwrap-value.result.now c.loop-lent.values.items c.extend_from_slice.new.self.items
    c.loop-lent.invariant c.in-Some.ensures.steps
    (subst (λ l. IsValued p l c.unwrap-value.result.now) (sym its.is)
    (right_value p c.args.factors.now lent.place c.args.kept.now c.unwrap-value.result.now c.requires.right (sym (ap option_copied c.unwrap-value.ensures) ∙ c.get.ensures ∙ ap (value_at c.args.kept.now) c.place.ensures)))
    (c.in_ok-extend_from_slice.ensures.items ∙ ap (λ vs. c.loop-lent.values.items ++ vs) c.from_ref.ensures.value)

pub returns : goal.returns
returns c = λ before valued.
    gone_all c.args.params.now c.args.factors.now c.args.product c.args.class c.args.side c.args.values.now.items c.loop-lent.lent-iterator c.loop-lent.values.items c.loop-lent.invariant c.in-None.ensures.steps.0 before valued
