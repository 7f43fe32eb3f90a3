use Rattle.std.proofs.Common.{sym, ap, ◌∙◌}
use Rattle.class_combine.specs.Multipliers.{multiplied_in}
use Rattle.class_combine.specs.Whole.{breakdown_of, margins_of}
use Rattle.book_margin.proofs.Sides.{nets_on, fixed_on, notional_on, multiplied_on}
use Rattle.book_margin.proofs.Whole.{whole_is}
use Rattle.class_margin.specs.NegatedBook.Sides.{side_rows, side_factors}
use Rattle.book_margin.proofs.margin.margin_on.Goals as goal

pub product_margins-margins-requires : goal.product_margins-margins-requires
product_margins-margins-requires c = c.kept_products-classes.ensures.margins c.args.params.now c.args.factors.now c.requires.right

pub returns-clause-value : goal.returns-clause-value
returns-clause-value c = λ held netted stand.
    let p = c.args.params.now in
    let side = c.args.side in
    let classes = c.kept_products-classes.ensures.value p c.args.factors.now c.requires.right in
    let margins = c.product_margins-margins.ensures.value ∙ ap (margins_of p) classes in
    c.breakdown.ensures.value ∙ (λ i. breakdown_of (classes i) (margins i) c.add_ons-added.result)
    ∙ whole_is p (side_rows side held) (side_factors side c.args.factors.now) c.add_ons-added.result
    (nets_on side held c.args.factors.now netted c.factors_are_negated.ensures.factors c.products_are_netted.ensures)
    (c.add_ons-added.ensures.fixed held stand ∙ sym (fixed_on side held c.add_ons_stay.ensures.fixed))
    (c.add_ons-added.ensures.notional held stand ∙ sym (notional_on side held c.add_ons_stay.ensures.notional))
    (c.add_ons-added.ensures.multiplier held stand ∙ ap (multiplied_in held) margins ∙ sym (multiplied_on side held _ c.add_ons_stay.ensures.multiplier))
