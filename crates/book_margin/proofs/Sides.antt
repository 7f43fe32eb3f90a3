-- What the margin of a book is made of on a side: the nets of its factors, and its add-ons, which no side changes.
use Rattle.std.proofs.Common.{◌≡◌, List, ℤ, pos, ◌-ℤ◌, ◌*ℤ◌, refl, sym, ap, ◌∙◌}
use Rattle.kept_buckets.specs.MhUnits.Rounding.{up}
use Rattle.kept_buckets.specs.SimmKinds.declared.kinds.ProductClass.{ProductClass}
use Rattle.kept_buckets.specs.SimmKinds.declared.key.FactorKey.{FactorKey}
use Rattle.kept_buckets.specs.SimmKinds.declared.margin_side.MarginSide.{MarginSide}
use Rattle.kept_buckets.specs.SimmKinds.declared.margin_side.MarginSide.TheVariants.{Collect, Post}
use Rattle.kept_buckets.specs.SimmKinds.declared.row.CrifRow.{CrifRow}
use Rattle.kept_buckets.specs.SimmRules.declared.values.Breakdown.{Breakdown}
use Rattle.kept_buckets.specs.SimmRules.Sums.{total_by}
use Rattle.kept_buckets.specs.SimmRules.Net.{sensitivities, in_product, netted}
use Rattle.kept_buckets.specs.SimmRules.AddOns.{fixed_amounts, notional_add_on, multiplier_of}
use Rattle.kept_buckets.specs.SimmRules.Simm.{products}
use Rattle.kept_buckets.specs.FactorBook.declared.holding.Holding.{Holding}
use Rattle.kept_buckets.specs.FactorBook.Factors.{factors_of}
use Rattle.class_margin.specs.NegatedBook.Negated.{negated, negated_factors}
use Rattle.class_margin.specs.NegatedBook.Sides.{side_rows, side_factors}
use Rattle.class_margin.specs.names_delta.Values.{nets_in}
use Rattle.kept_buckets.specs.MhUnits.declared.quantities.Cents.{Cents}
use Rattle.kept_buckets.specs.SimmRules.declared.tables.ByProduct.{ByProduct}
use Rattle.kept_buckets.specs.SimmRules.Tables.{product_at}
use Rattle.class_combine.specs.Multipliers.{multiplied_in}
use Rattle.book_margin.specs.declared.both_breakdowns.BothBreakdowns.{BothBreakdowns}
use Rattle.book_margin.specs.Sides.{breakdown_on}

pub nets_on : (side : MarginSide) (held : List CrifRow) (factors : List (FactorKey × Holding)) → factors ≡ factors_of held
    → ((rows : List CrifRow) → factors_of (negated rows) ≡ negated_factors (factors_of rows))
    → ((rows : List CrifRow) (product : ProductClass) → nets_in product (factors_of rows) ≡ netted (in_product product (sensitivities rows)))
    → (product : ProductClass) → nets_in product (side_factors side factors) ≡ netted (in_product product (sensitivities (side_rows side held)))
nets_on Collect held factors are turn nets product = ap (nets_in product) are ∙ nets held product
nets_on Post held factors are turn nets product = ap (λ fs. nets_in product (negated_factors fs)) are ∙ ap (nets_in product) (sym (turn held)) ∙ nets (negated held) product

pub fixed_on : (side : MarginSide) (held : List CrifRow) → ((rows : List CrifRow) → fixed_amounts (negated rows) ≡ fixed_amounts rows) → fixed_amounts (side_rows side held) ≡ fixed_amounts held
fixed_on Collect held stay = refl
fixed_on Post held stay = stay held

pub notional_on : (side : MarginSide) (held : List CrifRow) → ((rows : List CrifRow) → notional_add_on (negated rows) ≡ notional_add_on rows) → notional_add_on (side_rows side held) ≡ notional_add_on held
notional_on Collect held stay = refl
notional_on Post held stay = stay held

pub multiplied_on : (side : MarginSide) (held : List CrifRow) (m : ByProduct Cents) → ((rows : List CrifRow) (product : ProductClass) → multiplier_of (negated rows) product ≡ multiplier_of rows product) → multiplied_in (side_rows side held) m ≡ multiplied_in held m
multiplied_on Collect held m stay = refl
multiplied_on Post held m stay = λ i. total_by (λ product. up ((stay held product i -ℤ pos 10000) *ℤ (product_at m product).0) (pos 10000)) products

-- what is so of the margin of either side
pub each_side : (P : MarginSide → Breakdown → Type 0) (m : BothBreakdowns) → P Collect m.collect → P Post m.post → (side : MarginSide) → P side (breakdown_on m side)
each_side P m collect post Collect = collect
each_side P m collect post Post = post
