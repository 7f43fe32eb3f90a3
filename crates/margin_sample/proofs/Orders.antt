-- The margin of sensitivities does not hang on their order.
use Rattle.std.proofs.Common.{◌≡◌, List, [], ◌∷◌, map, refl, sym, ap, ◌∙◌, pos, ◌+ℤ◌, ◌-ℤ◌, ◌*ℤ◌, arith}
use Rattle.std.specs.List.{filter, flat_map, AllByRecursion}
use Rattle.std.specs.List.Sorted.{IsPermutation}
use Rattle.std.proofs.lemmas.Int.{ints}
use Rattle.simm_kinds.specs.MhUnits.Rounding.{up}
use Rattle.simm_kinds.specs.declared.kinds.ProductClass.{ProductClass}
use Rattle.simm_kinds.specs.declared.kinds.ProductClass.TheVariants as product
use Rattle.simm_kinds.specs.declared.kinds.RiskClass.{RiskClass}
use Rattle.simm_kinds.specs.declared.kinds.RiskClass.TheVariants as class
use Rattle.simm_kinds.specs.declared.row.CrifRow.{CrifRow}
use Rattle.simm_kinds.specs.declared.row.CrifRow.TheVariants as row
use Rattle.simm_kinds.specs.Order.{same_product}
use Rattle.simm_rules.specs.Parts.{cents}
use Rattle.simm_rules.specs.Params.{Params}
use Rattle.simm_rules.specs.Sums.{total_by}
use Rattle.simm_rules.specs.Net.{sensitivities, in_product, netted}
use Rattle.simm_rules.specs.AddOns.{fixed_amounts, notional_factor, notional_add_on, multiplier, multiplier_of}
use Rattle.simm_rules.specs.Simm.{products, class_margin_of, class_margin, joined, product_margin, multiplier_add_on, part_of, simm}
use Rattle.factor_book.specs.Factors.{net_of}
use Rattle.factor_book.proofs.Netting.{nets, parts}
use Rattle.factor_book.proofs.Rows.{permuted}

-- ---- the margin by its parts

-- two lists of rows that net to the same in each product class, and have the same add-ons
record Alike (xs ys : List CrifRow) : Type 0 where
  nets : (product : ProductClass) → netted (in_product product (sensitivities xs)) ≡ netted (in_product product (sensitivities ys))
  fixed : fixed_amounts xs ≡ fixed_amounts ys
  notional : notional_add_on xs ≡ notional_add_on ys
  multipliers : (product : ProductClass) → multiplier_of xs product ≡ multiplier_of ys product

module _ (p : Params) (xs ys : List CrifRow) (h : Alike xs ys) where
  of_class : (product : ProductClass) (class : RiskClass) → class_margin p xs product class ≡ class_margin p ys product class
  of_class product class = ap (λ ss. class_margin_of p ss class) (h.nets product)

  of_product : (product : ProductClass) → product_margin p xs product ≡ product_margin p ys product
  of_product product = λ i. joined p (λ class. of_class product class i)

  part : (product : ProductClass) → part_of p xs product ≡ part_of p ys product
  part product = λ i. record {
    margin = cents (of_product product i);
    classes = record {
      ir = cents (of_class product class.IR i);
      credit_q = cents (of_class product class.CreditQ i);
      credit_nonq = cents (of_class product class.CreditNonQ i);
      equity = cents (of_class product class.Equity i);
      commodity = cents (of_class product class.Commodity i);
      fx = cents (of_class product class.FX i);
    };
  }

  multiplied_alike : multiplier_add_on p xs ≡ multiplier_add_on p ys
  multiplied_alike = λ i. total_by (λ product. up ((h.multipliers product i -ℤ pos 10000) *ℤ of_product product i) (pos 10000)) products

  same_margin : simm p xs ≡ simm p ys
  unfolding simm
  same_margin = λ i. record {
    products = record { rates_fx = part product.RatesFX i; credit = part product.Credit i; equity = part product.Equity i; commodity = part product.Commodity i };
    fixed = cents (h.fixed i);
    notional = cents (h.notional i);
    multiplier = cents (multiplied_alike i);
    total = cents (total_by (λ product. of_product product i) products +ℤ h.fixed i +ℤ h.notional i +ℤ multiplied_alike i);
  }

-- ---- rows that are sensitivities

abbrev pub IsSensitive : CrifRow → Type 0
IsSensitive (row.Sensitivity key amount) = Unit {0}
IsSensitive (row.Notional qualifier amount) = ⊥
IsSensitive (row.FixedAmount amount) = ⊥
IsSensitive (row.NotionalFactor qualifier factor) = ⊥
IsSensitive (row.Multiplier product factor) = ⊥

none_fixed : (rows : List CrifRow) → AllByRecursion IsSensitive rows → fixed_amounts rows ≡ pos 0
none_fixed [] h = refl
none_fixed ((row.Sensitivity key amount) ∷ rows) h = omega (arith, ints, none_fixed rows h.1)
none_fixed ((row.Notional qualifier amount) ∷ rows) h = absurd h.0
none_fixed ((row.FixedAmount amount) ∷ rows) h = absurd h.0
none_fixed ((row.NotionalFactor qualifier factor) ∷ rows) h = absurd h.0
none_fixed ((row.Multiplier product factor) ∷ rows) h = absurd h.0

no_factors : (rows : List CrifRow) → AllByRecursion IsSensitive rows → flat_map notional_factor rows ≡ []
no_factors [] h = refl
no_factors ((row.Sensitivity key amount) ∷ rows) h = no_factors rows h.1
no_factors ((row.Notional qualifier amount) ∷ rows) h = absurd h.0
no_factors ((row.FixedAmount amount) ∷ rows) h = absurd h.0
no_factors ((row.NotionalFactor qualifier factor) ∷ rows) h = absurd h.0
no_factors ((row.Multiplier product factor) ∷ rows) h = absurd h.0

no_multipliers : (rows : List CrifRow) → AllByRecursion IsSensitive rows → flat_map multiplier rows ≡ []
no_multipliers [] h = refl
no_multipliers ((row.Sensitivity key amount) ∷ rows) h = no_multipliers rows h.1
no_multipliers ((row.Notional qualifier amount) ∷ rows) h = absurd h.0
no_multipliers ((row.FixedAmount amount) ∷ rows) h = absurd h.0
no_multipliers ((row.NotionalFactor qualifier factor) ∷ rows) h = absurd h.0
no_multipliers ((row.Multiplier product factor) ∷ rows) h = absurd h.0

none_notional : (rows : List CrifRow) → AllByRecursion IsSensitive rows → notional_add_on rows ≡ pos 0
none_notional rows h = rw (no_factors rows h) refl

one_time : (rows : List CrifRow) → AllByRecursion IsSensitive rows → (product : ProductClass) → multiplier_of rows product ≡ pos 10000
one_time rows h product = rw (no_multipliers rows h) refl

-- ---- in another order

same_nets : (xs ys : List CrifRow) → IsPermutation xs ys → (product : ProductClass) → netted (in_product product (sensitivities xs)) ≡ netted (in_product product (sensitivities ys))
same_nets xs ys h product =
    sym (nets (in_product product (sensitivities xs)))
    ∙ ap (map net_of) (sym (parts (sensitivities xs) (λ key. same_product key.product product)))
    ∙ ap (λ fs. map net_of (filter (λ f. same_product f.0.product product) fs)) (permuted xs ys h)
    ∙ ap (map net_of) (parts (sensitivities ys) (λ key. same_product key.product product))
    ∙ nets (in_product product (sensitivities ys))

pub margin_keeps : (p : Params) (xs ys : List CrifRow) → AllByRecursion IsSensitive xs → AllByRecursion IsSensitive ys → IsPermutation xs ys → simm p xs ≡ simm p ys
margin_keeps p xs ys all_x all_y h = same_margin p xs ys (record {
  nets = same_nets xs ys h;
  fixed = none_fixed xs all_x ∙ sym (none_fixed ys all_y);
  notional = none_notional xs all_x ∙ sym (none_notional ys all_y);
  multipliers = λ product. one_time xs all_x product ∙ sym (one_time ys all_y product);
})
