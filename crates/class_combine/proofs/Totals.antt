-- The sum of the product classes' margins and the add-ons, as the code builds it.
use Rattle.std.proofs.Common.{◌≡◌, ◌+◌, ◌*◌, ◌^◌, ◌≤◌, ℤ, pos, ◌+ℤ◌, ◌≤ℤ◌, ◌<ℤ◌, unsigned_abs, FitsSigned, ◌∙◌, subst, sym, refl, arith, lit≤}
use Rattle.std.specs.Int.{w128}
use Rattle.std.proofs.lemmas.Int.{ints}
use Rattle.simm_params.specs.SimmKinds.declared.kinds.ProductClass.TheVariants as product
use Rattle.simm_params.specs.MhUnits.declared.quantities.Cents.{Cents}
use Rattle.simm_params.specs.SimmRules.declared.tables.ByClass.{ByClass}
use Rattle.simm_params.specs.SimmRules.declared.tables.ByProduct.{ByProduct}
use Rattle.simm_params.specs.SimmRules.declared.values.Breakdown.{Breakdown}
use Rattle.class_combine.specs.declared.additional.AddOns.{AddOns}
use Rattle.class_combine.specs.Classes.{IsProductMargin}
use Rattle.class_combine.specs.Multipliers.{AreProductMargins}
use Rattle.class_combine.specs.Whole.{IsAddOn, IsTotal, HasProductMargins, breakdown_of}
use Rattle.class_combine.proofs.Products.{passed, plus, added}

pub record TotalOf (a b c d f n m : ℤ) : Type 0 where
  pub two : FitsSigned w128 (plus a b)
  pub three : FitsSigned w128 (plus (plus a b) c)
  pub four : FitsSigned w128 (plus (plus (plus a b) c) d)
  pub five : FitsSigned w128 (plus (plus (plus (plus a b) c) d) f)
  pub six : FitsSigned w128 (plus (plus (plus (plus (plus a b) c) d) f) n)
  pub all : FitsSigned w128 (plus (plus (plus (plus (plus (plus a b) c) d) f) n) m)
  pub value : passed (plus (plus (plus (plus (plus (plus a b) c) d) f) n) m) ≡ a +ℤ (b +ℤ (c +ℤ (d +ℤ pos 0))) +ℤ f +ℤ n +ℤ m
  pub total : IsTotal (passed (plus (plus (plus (plus (plus (plus a b) c) d) f) n) m))

in_order : (a b c d f n m : ℤ) → a +ℤ b +ℤ c +ℤ d +ℤ f +ℤ n +ℤ m ≡ a +ℤ (b +ℤ (c +ℤ (d +ℤ pos 0))) +ℤ f +ℤ n +ℤ m
in_order a b c d f n m = omega (arith, ints)

margin_size : (a : ℤ) → IsProductMargin a → unsigned_abs a ≤ 12 * 10 ^ 16
margin_size a h = omega (arith, ints, h.low, h.size)

add_on_size : (a : ℤ) → IsAddOn a → unsigned_abs a ≤ 3 * 10 ^ 20
add_on_size a h = omega (arith, ints, h.low, h.size)

sum_low : (a b : ℤ) → pos 0 ≤ℤ a → pos 0 ≤ℤ b → pos 0 ≤ℤ (a +ℤ b)
sum_low a b h g = omega (arith, ints)

pub total_of : (a b c d f n m : ℤ) → IsProductMargin a → IsProductMargin b → IsProductMargin c → IsProductMargin d → IsAddOn f → IsAddOn n → IsAddOn m → TotalOf a b c d f n m
total_of a b c d f n m ma mb mc md mf mn mm =
    let two = added a a b (12 * 10 ^ 16) (12 * 10 ^ 16) refl (margin_size a ma) (margin_size b mb) (lit≤ tt) in
    let three = added (plus a b) (a +ℤ b) c (24 * 10 ^ 16) (12 * 10 ^ 16) two.value two.size (margin_size c mc) (lit≤ tt) in
    let four = added (plus (plus a b) c) (a +ℤ b +ℤ c) d (36 * 10 ^ 16) (12 * 10 ^ 16) three.value three.size (margin_size d md) (lit≤ tt) in
    let five = added (plus (plus (plus a b) c) d) (a +ℤ b +ℤ c +ℤ d) f (48 * 10 ^ 16) (3 * 10 ^ 20) four.value four.size (add_on_size f mf) (lit≤ tt) in
    let six = added (plus (plus (plus (plus a b) c) d) f) (a +ℤ b +ℤ c +ℤ d +ℤ f) n (48 * 10 ^ 16 + 3 * 10 ^ 20) (3 * 10 ^ 20) five.value five.size (add_on_size n mn) (lit≤ tt) in
    let all = added (plus (plus (plus (plus (plus a b) c) d) f) n) (a +ℤ b +ℤ c +ℤ d +ℤ f +ℤ n) m (48 * 10 ^ 16 + 6 * 10 ^ 20) (3 * 10 ^ 20) six.value six.size (add_on_size m mm) (lit≤ tt) in
    let whole = a +ℤ b +ℤ c +ℤ d +ℤ f +ℤ n +ℤ m in
    let low : pos 0 ≤ℤ whole =
    sum_low (a +ℤ b +ℤ c +ℤ d +ℤ f +ℤ n) m (sum_low (a +ℤ b +ℤ c +ℤ d +ℤ f) n (sum_low (a +ℤ b +ℤ c +ℤ d) f (sum_low (a +ℤ b +ℤ c) d (sum_low (a +ℤ b) c (sum_low a b ma.low mb.low) mc.low) md.low) mf.low) mn.low) mm.low in
    let total : IsTotal whole = record { low = low; below = below_of whole all.size } in
    record {
      two = two.fits;
      three = three.fits;
      four = four.fits;
      five = five.fits;
      six = six.fits;
      all = all.fits;
      value = all.answer ∙ in_order a b c d f n m;
      total = subst IsTotal (sym all.answer) total;
    }
  where
    below_of : (z : ℤ) → unsigned_abs z ≤ 48 * 10 ^ 16 + 9 * 10 ^ 20 → z <ℤ pos (10 ^ 21)
    below_of z h = omega (arith, ints, h)

-- ---- the margins of the product classes in it

pub has_margins : (c : ByProduct (ByClass Cents)) (m : ByProduct Cents) (a : AddOns) (b : Breakdown) → b ≡ breakdown_of c m a → AreProductMargins m → HasProductMargins b
has_margins c m a b is h = subst HasProductMargins (sym is) by
  where
    by : HasProductMargins (breakdown_of c m a)
    by product.RatesFX = h product.RatesFX
    by product.Credit = h product.Credit
    by product.Equity = h product.Equity
    by product.Commodity = h product.Commodity
