use Rattle.std.proofs.Common.{◌∙◌, ap, sym}
use Rattle.std.specs.Prelude.{is_some}
use Rattle.std.specs.List.{list_any}
use Rattle.bucket_cache.specs.FactorBook.Places.{by_side}
use Rattle.bucket_cache.specs.KeptBuckets.Kept.{cached_in}
use Rattle.explain_text.specs.Sides.{has_measure}
use Rattle.explain_text.proofs.Lent.{lent_has, all_have}
use Rattle.explain_text.proofs.Pieces.{any_next, any_here, any_end}
use Rattle.explain_text.proofs.sides.has_measure.Goals as goal

pub loop-lent-init : goal.loop-lent-init
loop-lent-init c =
    let K = cached_in c.args.kept.now in
    ap (list_any (lent_has K c.args.measure)) (c.into_iter-lent-iterator.ensures.into_iter_gives ∙ c.side-lent-items.ensures.rest)
    ∙ all_have c.args.product c.args.class c.args.side c.args.factors.now K c.args.measure

pub loop-lent-preserved : goal.loop-lent-preserved
loop-lent-preserved c =
    let K = cached_in c.args.kept.now in
    let m = c.args.measure in
    any_next (lent_has K m) c.loop-lent.lent-iterator c.next.new.self (c.in-Some.field-0-0.now, c.in-Some.lent.now) (has_measure K m (by_side c.args.product c.args.class c.args.side c.args.factors.now))
    c.in-Some.ensures.steps c.loop-lent.invariant
    (ap is_some (sym (c.cached.ensures ∙ ap (λ q. cached_in c.args.kept.now q m) c.place.ensures)) ∙ sym c.is_some.ensures ∙ c.if-is_some.false)

pub returns-then-is_some : goal.returns-then-is_some
returns-then-is_some c =
    let K = cached_in c.args.kept.now in
    let m = c.args.measure in
    any_here (lent_has K m) c.loop-lent.lent-iterator c.next.new.self (c.in-Some.field-0-0.now, c.in-Some.lent.now) (has_measure K m (by_side c.args.product c.args.class c.args.side c.args.factors.now))
    c.in-Some.ensures.steps c.loop-lent.invariant
    (ap is_some (sym (c.cached.ensures ∙ ap (λ q. cached_in c.args.kept.now q m) c.place.ensures)) ∙ sym c.is_some.ensures ∙ c.if-is_some.true)

pub returns : goal.returns
returns c =
    let K = cached_in c.args.kept.now in
    let m = c.args.measure in
    any_end (lent_has K m) c.loop-lent.lent-iterator (has_measure K m (by_side c.args.product c.args.class c.args.side c.args.factors.now)) c.in-None.ensures.steps.0 c.loop-lent.invariant
