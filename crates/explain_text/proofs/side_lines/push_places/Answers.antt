use Rattle.std.proofs.Common.{◌++◌, ◌∙◌, ap, sym, subst}
use Rattle.std.specs.List.{flat_map, AllByRecursion}
use Rattle.bucket_cache.specs.FactorBook.Places.{by_side}
use Rattle.bucket_cache.specs.KeptBuckets.Kept.{cached_in}
use Rattle.explain_text.specs.Sides.{place_lines}
use Rattle.explain_text.proofs.Lent.{lent_lines, all_lines}
use Rattle.explain_text.proofs.Measured.{Can, all_can, next_can}
use Rattle.explain_text.proofs.Pieces.{lent_step, lent_end}
use Rattle.explain_text.proofs.side_lines.push_places.Goals as goal

pub loop-lent-init : goal.loop-lent-init
loop-lent-init c =
    let K = cached_in c.args.kept.now in
    let p = c.args.params.now in
    let there = c.into_iter-lent-iterator.ensures.into_iter_gives ∙ c.side-lent-items.ensures.rest in (
      ap (λ xs. c.args.text.now ++ flat_map (lent_lines p K) xs) there
          ∙ ap (λ t. c.args.text.now ++ t) (all_lines c.args.product c.args.class c.args.side c.args.factors.now p K),
      subst (AllByRecursion (Can p)) (sym there)
          (all_can p c.places_can_be_measured.ensures c.args.factors.now c.requires c.args.product c.args.class c.args.side),
    )

pub push_place-requires : goal.push_place-requires
push_place-requires c =
    (next_can (Can c.args.params.now) c.loop-lent.lent-iterator c.next.new.self (c.in-Some.field-0-0.now, c.in-Some.lent.now) c.in-Some.ensures.steps c.loop-lent.invariant.1).0

pub loop-lent-preserved : goal.loop-lent-preserved
loop-lent-preserved c =
    let K = cached_in c.args.kept.now in
    let p = c.args.params.now in (
      lent_step (lent_lines p K) c.loop-lent.lent-iterator c.next.new.self (c.in-Some.field-0-0.now, c.in-Some.lent.now) c.loop-lent.text c.push_place.new.text
          (c.args.text.now ++ flat_map (place_lines p K) (by_side c.args.product c.args.class c.args.side c.args.factors.now))
          c.in-Some.ensures.steps c.loop-lent.invariant.0 c.in_ok-push_place.ensures,
      (next_can (Can p) c.loop-lent.lent-iterator c.next.new.self (c.in-Some.field-0-0.now, c.in-Some.lent.now) c.in-Some.ensures.steps c.loop-lent.invariant.1).1,
    )

pub returns : goal.returns
returns c =
    let K = cached_in c.args.kept.now in
    let p = c.args.params.now in
    lent_end (lent_lines p K) c.loop-lent.lent-iterator c.loop-lent.text
    (c.args.text.now ++ flat_map (place_lines p K) (by_side c.args.product c.args.class c.args.side c.args.factors.now))
    c.in-None.ensures.steps.0 c.loop-lent.invariant.0
