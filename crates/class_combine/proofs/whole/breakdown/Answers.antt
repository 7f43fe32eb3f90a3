use Rattle.std.proofs.Common.{◌≡◌, ℤ}
use Rattle.simm_params.specs.SimmKinds.declared.kinds.ProductClass.TheVariants as product
use Rattle.simm_params.specs.SimmRules.declared.values.ProductMargin.{ProductMargin}
use Rattle.simm_params.specs.SimmRules.declared.values.Breakdown.{Breakdown}
use Rattle.simm_params.specs.SimmRules.Parts.{cents}
use Rattle.class_combine.specs.declared.additional.AddOns.{AddOns}
use Rattle.class_combine.proofs.Totals.{total_of, has_margins}
use Rattle.class_combine.proofs.whole.breakdown.Goals as goal

-- the breakdown as it is written out
abbrev written_out : AddOns → ProductMargin → ProductMargin → ProductMargin → ProductMargin → ℤ → Breakdown
written_out o a b c d t = record {
  products = record { rates_fx = a; credit = b; equity = c; commodity = d };
  fixed = o.fixed;
  notional = o.notional;
  multiplier = o.multiplier;
  total = cents t;
}

written : (o : AddOns) (a b c d u v w x : ProductMargin) (s t : ℤ) → a ≡ u → b ≡ v → c ≡ w → d ≡ x → s ≡ t → written_out o a b c d s ≡ written_out o u v w x t
written o a b c d u v w x s t p q r l e = λ i. written_out o (p i) (q i) (r i) (l i) (e i)

pub overflow_add-products : goal.overflow_add-products
overflow_add-products c =
    let m = c.args.margins.now in
    let o = c.args.add_ons.now in
    let are = c.requires.margins in
    (total_of m.rates_fx.0 m.credit.0 m.equity.0 m.commodity.0 o.fixed.0 o.notional.0 o.multiplier.0
    (are product.RatesFX) (are product.Credit) (are product.Equity) (are product.Commodity) c.requires.add_ons.fixed c.requires.add_ons.notional c.requires.add_ons.multiplier).two

pub overflow_add-products-2 : goal.overflow_add-products-2
overflow_add-products-2 c =
    let m = c.args.margins.now in
    let o = c.args.add_ons.now in
    let are = c.requires.margins in
    (total_of m.rates_fx.0 m.credit.0 m.equity.0 m.commodity.0 o.fixed.0 o.notional.0 o.multiplier.0
    (are product.RatesFX) (are product.Credit) (are product.Equity) (are product.Commodity) c.requires.add_ons.fixed c.requires.add_ons.notional c.requires.add_ons.multiplier).three

pub overflow_add-products-3 : goal.overflow_add-products-3
overflow_add-products-3 c =
    let m = c.args.margins.now in
    let o = c.args.add_ons.now in
    let are = c.requires.margins in
    (total_of m.rates_fx.0 m.credit.0 m.equity.0 m.commodity.0 o.fixed.0 o.notional.0 o.multiplier.0
    (are product.RatesFX) (are product.Credit) (are product.Equity) (are product.Commodity) c.requires.add_ons.fixed c.requires.add_ons.notional c.requires.add_ons.multiplier).four

pub overflow_add-total : goal.overflow_add-total
overflow_add-total c =
    let m = c.args.margins.now in
    let o = c.args.add_ons.now in
    let are = c.requires.margins in
    (total_of m.rates_fx.0 m.credit.0 m.equity.0 m.commodity.0 o.fixed.0 o.notional.0 o.multiplier.0
    (are product.RatesFX) (are product.Credit) (are product.Equity) (are product.Commodity) c.requires.add_ons.fixed c.requires.add_ons.notional c.requires.add_ons.multiplier).five

pub overflow_add-total-2 : goal.overflow_add-total-2
overflow_add-total-2 c =
    let m = c.args.margins.now in
    let o = c.args.add_ons.now in
    let are = c.requires.margins in
    (total_of m.rates_fx.0 m.credit.0 m.equity.0 m.commodity.0 o.fixed.0 o.notional.0 o.multiplier.0
    (are product.RatesFX) (are product.Credit) (are product.Equity) (are product.Commodity) c.requires.add_ons.fixed c.requires.add_ons.notional c.requires.add_ons.multiplier).six

pub overflow_add-total-3 : goal.overflow_add-total-3
overflow_add-total-3 c =
    let m = c.args.margins.now in
    let o = c.args.add_ons.now in
    let are = c.requires.margins in
    (total_of m.rates_fx.0 m.credit.0 m.equity.0 m.commodity.0 o.fixed.0 o.notional.0 o.multiplier.0
    (are product.RatesFX) (are product.Credit) (are product.Equity) (are product.Commodity) c.requires.add_ons.fixed c.requires.add_ons.notional c.requires.add_ons.multiplier).all

pub returns-clause-value : goal.returns-clause-value
returns-clause-value c =
    let m = c.args.margins.now in
    let o = c.args.add_ons.now in
    let are = c.requires.margins in
    let sum =
    total_of m.rates_fx.0 m.credit.0 m.equity.0 m.commodity.0 o.fixed.0 o.notional.0 o.multiplier.0
    (are product.RatesFX) (are product.Credit) (are product.Equity) (are product.Commodity) c.requires.add_ons.fixed c.requires.add_ons.notional c.requires.add_ons.multiplier in
    written o _ _ _ _ _ _ _ _ _ _ c.part.ensures c.part-2.ensures c.part-3.ensures c.part-4.ensures sum.value

pub returns-clause-total : goal.returns-clause-total
returns-clause-total c =
    let m = c.args.margins.now in
    let o = c.args.add_ons.now in
    let are = c.requires.margins in
    (total_of m.rates_fx.0 m.credit.0 m.equity.0 m.commodity.0 o.fixed.0 o.notional.0 o.multiplier.0
    (are product.RatesFX) (are product.Credit) (are product.Equity) (are product.Commodity) c.requires.add_ons.fixed c.requires.add_ons.notional c.requires.add_ons.multiplier).total

pub returns-clause-margins : goal.returns-clause-margins
returns-clause-margins c = has_margins c.args.classes.now c.args.margins.now c.args.add_ons.now _ (returns-clause-value c) c.requires.margins
