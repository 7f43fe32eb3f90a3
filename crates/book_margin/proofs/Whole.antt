-- The margin of the rows of a book is that of the factors that they net to, with their add-ons.
use Rattle.std.proofs.Common.{◌≡◌, List, refl, ap, ◌∙◌, ℤ}
use Rattle.kept_buckets.specs.SimmKinds.declared.kinds.ProductClass.{ProductClass}
use Rattle.kept_buckets.specs.SimmKinds.declared.kinds.ProductClass.TheVariants as product
use Rattle.kept_buckets.specs.SimmKinds.declared.key.FactorKey.{FactorKey}
use Rattle.kept_buckets.specs.SimmKinds.declared.row.CrifRow.{CrifRow}
use Rattle.kept_buckets.specs.MhUnits.declared.quantities.Cents.{Cents}
use Rattle.kept_buckets.specs.SimmRules.declared.tables.ByClass.{ByClass}
use Rattle.kept_buckets.specs.SimmRules.declared.tables.ByProduct.{ByProduct}
use Rattle.kept_buckets.specs.SimmRules.declared.values.Breakdown.{Breakdown}
use Rattle.kept_buckets.specs.SimmRules.Parts.{cents}
use Rattle.kept_buckets.specs.SimmRules.Params.{Params}
use Rattle.kept_buckets.specs.SimmRules.Net.{sensitivities, in_product, netted}
use Rattle.kept_buckets.specs.SimmRules.AddOns.{fixed_amounts, notional_add_on}
use Rattle.kept_buckets.specs.SimmRules.Simm.{simm}
use Rattle.kept_buckets.specs.FactorBook.declared.holding.Holding.{Holding}
use Rattle.class_margin.specs.names_delta.Values.{nets_in}
use Rattle.class_combine.specs.declared.additional.AddOns.{AddOns}
use Rattle.class_combine.specs.Multipliers.{multiplied_in}
use Rattle.class_combine.specs.Whole.{breakdown_of, margins_of}
use Rattle.book_margin.specs.Classes.{classes_of, products_of}

-- the margin of these classes, with the add-ons of the rows
abbrev whole_of : Params → List CrifRow → ByProduct (ByClass Cents) → Breakdown
whole_of p rows m =
    breakdown_of m (margins_of p m) (record { fixed = cents (fixed_amounts rows); notional = cents (notional_add_on rows); multiplier = cents (multiplied_in rows (margins_of p m)) })

abbrev products_from : ByClass Cents → ByClass Cents → ByClass Cents → ByClass Cents → ByProduct (ByClass Cents)
products_from a b c d = record { rates_fx = a; credit = b; equity = c; commodity = d }

-- those of the rows
abbrev classes_by : Params → List CrifRow → ProductClass → ByClass Cents
classes_by p rows product = classes_of p (netted (in_product product (sensitivities rows)))

simm_from : (p : Params) (rows : List CrifRow) → whole_of p rows (products_from (classes_by p rows product.RatesFX) (classes_by p rows product.Credit) (classes_by p rows product.Equity) (classes_by p rows product.Commodity)) ≡ simm p rows
unfolding simm
simm_from p rows = refl

same_add_ons : (a : AddOns) (f n m : ℤ) → a.fixed.0 ≡ f → a.notional.0 ≡ n → a.multiplier.0 ≡ m → a ≡ record { fixed = cents f; notional = cents n; multiplier = cents m }
same_add_ons a f n m p q r = λ i. record { fixed = cents (p i); notional = cents (q i); multiplier = cents (r i) }

pub whole_is : (p : Params) (rows : List CrifRow) (factors : List (FactorKey × Holding)) (a : AddOns)
    → ((product : ProductClass) → nets_in product factors ≡ netted (in_product product (sensitivities rows)))
    → a.fixed.0 ≡ fixed_amounts rows → a.notional.0 ≡ notional_add_on rows → a.multiplier.0 ≡ multiplied_in rows (margins_of p (products_of p factors))
    → breakdown_of (products_of p factors) (margins_of p (products_of p factors)) a ≡ simm p rows
whole_is p rows factors a nets fixed notional multiplier =
    let its = λ (product : ProductClass). ap (classes_of p) (nets product) in
    let m = products_of p factors in
    ap (breakdown_of m (margins_of p m)) (same_add_ons a (fixed_amounts rows) (notional_add_on rows) (multiplied_in rows (margins_of p m)) fixed notional multiplier)
    ∙ (λ i. whole_of p rows (products_from (its product.RatesFX i) (its product.Credit i) (its product.Equity i) (its product.Commodity i))) ∙ simm_from p rows
