-- The multiplier of a product class, row by row.
use Rattle.std.proofs.Common.{◌≡◌, ◌^◌, ◌*◌, ◌≤◌, List, ◌∷◌, Bool, true, false, refl, sym, subst, ◌∙◌, ℤ, pos, negsuc, ◌+ℤ◌, ◌-ℤ◌, ◌*ℤ◌, ◌≤ℤ◌, unsigned_abs, FitsSigned, arith, lit≤}
use Rattle.std.specs.List.{flat_map, list_all}
use Rattle.std.specs.Option.{unwrap_or}
use Rattle.std.specs.Int.{w128}
use Rattle.std.proofs.lemmas.Int.{ints}
use Rattle.simm_params.specs.MhUnits.Rounding.{up}
use Rattle.simm_params.proofs.MhUnits.Roundings.{up_is}
use Rattle.simm_params.proofs.MhUnits.Integers.{product_size}
use Rattle.simm_params.specs.SimmKinds.declared.kinds.ProductClass.{ProductClass}
use Rattle.simm_params.specs.SimmKinds.declared.row.CrifRow.{CrifRow}
use Rattle.simm_params.specs.SimmKinds.declared.row.CrifRow.TheVariants as row
use Rattle.simm_params.specs.SimmKinds.Batch.{is_in_range}
use Rattle.simm_params.specs.SimmKinds.Order.{same_product}
use Rattle.simm_params.specs.SimmRules.AddOns.{multiplier, multiplier_of}
use Rattle.simm_params.specs.SimmRules.Simm.{products}
use Rattle.simm_params.specs.SimmRules.Sums.{total_by}
use Rattle.simm_params.specs.MhUnits.declared.quantities.Cents.{Cents}
use Rattle.simm_params.specs.SimmRules.declared.tables.ByProduct.{ByProduct}
use Rattle.simm_params.specs.SimmRules.Tables.{product_at}
use Rattle.class_combine.specs.Classes.{IsProductMargin}
use Rattle.class_combine.specs.Multipliers.{multiplied_in, multiplier_at, IsMultiplier, IsMultiplied}
use Rattle.class_combine.specs.Whole.{IsAddOn}
use Rattle.class_combine.proofs.Products.{passed, plus, added}

pub first_of : (product : ProductClass) (r : CrifRow) (rows : List CrifRow) → multiplier_of (r ∷ rows) product ≡ unwrap_or (multiplier_at product r) (multiplier_of rows product)
first_of product (row.Sensitivity key amount) rows = refl
first_of product (row.Notional qualifier amount) rows = refl
first_of product (row.FixedAmount amount) rows = refl
first_of product (row.NotionalFactor qualifier factor) rows = refl
first_of product (row.Multiplier of factor) rows = at (same_product of product) refl
  where
    at : (t : Bool) → same_product of product ≡ t → multiplier_of (row.Multiplier of factor ∷ rows) product ≡ unwrap_or (multiplier_at product (row.Multiplier of factor)) (multiplier_of rows product)
    at true e = rw e refl
    at false e = rw e refl

-- no row before those that are left gives the product class a multiplier
pub record Searched (product : ProductClass) (rows left : List CrifRow) : Type 0 where
  pub value : multiplier_of left product ≡ multiplier_of rows product
  pub ranged : list_all is_in_range left ≡ true

-- rows with the same multipliers, in their order
pub same_multipliers : (xs ys : List CrifRow) (m : ByProduct Cents) → flat_map multiplier xs ≡ flat_map multiplier ys → multiplied_in xs m ≡ multiplied_in ys m
same_multipliers xs ys m e = λ i. total_by (λ product. up ((same product i -ℤ pos 10000) *ℤ (product_at m product).0) (pos 10000)) products
  where
    same : (product : ProductClass) → multiplier_of xs product ≡ multiplier_of ys product
    same product = rw e refl

-- ---- what a multiplier adds

not_negative : (a b : ℤ) → pos 0 ≤ℤ a → pos 0 ≤ℤ b → pos 0 ≤ℤ (a *ℤ b)
not_negative (pos a) (pos b) h g = omega (arith, ints)
not_negative (pos a) (negsuc b) h g = absurd g.le
not_negative (negsuc a) b h g = absurd h.le

over_size : (f : ℤ) → IsMultiplier f → unsigned_abs (f -ℤ pos 10000) ≤ 90000
over_size f h = omega (arith, ints, h.low, h.high)

margin_size : (m : ℤ) → IsProductMargin m → unsigned_abs m ≤ 12 * 10 ^ 16
margin_size m h = omega (arith, ints, h.low, h.size)

pub over_margin : (f m : ℤ) → IsMultiplier f → IsProductMargin m → unsigned_abs ((f -ℤ pos 10000) *ℤ m) ≤ 90000 * (12 * 10 ^ 16)
over_margin f m h g = product_size (f -ℤ pos 10000) m 90000 (12 * 10 ^ 16) (over_size f h) (margin_size m g)

up_range : (a : ℤ) → pos 0 ≤ℤ a → unsigned_abs a ≤ 90000 * (12 * 10 ^ 16) → IsMultiplied (up a (pos 10000))
up_range a h g =
    let rule = up_is a (pos 10000) (omega (arith, ints)) in
    record { low = omega (arith, ints, rule.enough); size = rule.least (pos (108 * 10 ^ 16)) (omega (arith, ints, g)) }

pub multiplied_range : (f m : ℤ) → IsMultiplier f → IsProductMargin m → IsMultiplied (up ((f -ℤ pos 10000) *ℤ m) (pos 10000))
multiplied_range f m h g =
    up_range ((f -ℤ pos 10000) *ℤ m) (not_negative (f -ℤ pos 10000) m (omega (arith, ints, h.low)) g.low) (over_margin f m h g)

-- ---- all four

part_size : (a : ℤ) → IsMultiplied a → unsigned_abs a ≤ 108 * 10 ^ 16
part_size a h = omega (arith, ints, h.low, h.size)

pub record FourOf (a b c d : ℤ) : Type 0 where
  pub last : FitsSigned w128 (plus (plus (plus a b) c) d)
  pub value : passed (plus (plus (plus a b) c) d) ≡ a +ℤ (b +ℤ (c +ℤ (d +ℤ pos 0)))
  pub range : IsAddOn (passed (plus (plus (plus a b) c) d))

in_order : (a b c d : ℤ) → a +ℤ b +ℤ c +ℤ d ≡ a +ℤ (b +ℤ (c +ℤ (d +ℤ pos 0)))
in_order a b c d = omega (arith, ints)

low_of : (a b c d : ℤ) → pos 0 ≤ℤ a → pos 0 ≤ℤ b → pos 0 ≤ℤ c → pos 0 ≤ℤ d → pos 0 ≤ℤ (a +ℤ b +ℤ c +ℤ d)
low_of a b c d h g k l = omega (arith, ints)

most_of : (z : ℤ) → unsigned_abs z ≤ 432 * 10 ^ 16 → z ≤ℤ pos (3 * 10 ^ 20)
most_of z h = omega (arith, ints, h)

pub four_of : (a b c d : ℤ) → IsMultiplied a → IsMultiplied b → IsMultiplied c → IsMultiplied d → FourOf a b c d
four_of a b c d ma mb mc md =
    let two = added a a b (108 * 10 ^ 16) (108 * 10 ^ 16) refl (part_size a ma) (part_size b mb) (lit≤ tt) in
    let three = added (plus a b) (a +ℤ b) c (216 * 10 ^ 16) (108 * 10 ^ 16) two.value two.size (part_size c mc) (lit≤ tt) in
    let four = added (plus (plus a b) c) (a +ℤ b +ℤ c) d (324 * 10 ^ 16) (108 * 10 ^ 16) three.value three.size (part_size d md) (lit≤ tt) in
    let whole = a +ℤ b +ℤ c +ℤ d in
    let range : IsAddOn whole = record { low = low_of a b c d ma.low mb.low mc.low md.low; size = most_of whole four.size } in
    record { last = four.fits; value = four.answer ∙ in_order a b c d; range = subst IsAddOn (sym four.answer) range }
