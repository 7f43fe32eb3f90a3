-- Products and sums of products of class margins, as the code builds them, and how large they are.
use Rattle.std.proofs.Common.{◌≡◌, ℕ, ◌+◌, ◌*◌, ◌^◌, ◌≤◌, ℤ, pos, negsuc, ◌+ℤ◌, ◌*ℤ◌, ◌≤ℤ◌, unsigned_abs, FitsSigned, to_z, of_z, ap, ◌∙◌, subst, sym, refl, arith}
use Rattle.std.specs.Int.{w128}
use Rattle.std.proofs.lemmas.Int.{ints, fits_signed_from_abs}
use Rattle.std.proofs.Math.IntN.{zero-*ℤ, *ℤ_comm}
use Rattle.simm_params.specs.MhUnits.Rounding.{up, root}
use Rattle.simm_params.proofs.MhUnits.Roundings.{up_is, root_is, IsRoot_unique}
use Rattle.simm_params.proofs.MhUnits.Integers.{same128, product_size, unsigned_abs-add}
use Rattle.class_combine.specs.Classes.{IsClassMargin}

-- a number as it is passed on
abbrev pub passed : ℤ → ℤ
passed z = to_z w128 (of_z w128 z)

-- ---- one product

margin_size : (a : ℤ) → IsClassMargin a → unsigned_abs a ≤ 2 * 10 ^ 16
margin_size a h = omega (arith, ints, h.low, h.size)

pub record PairOf (c a b : ℤ) : Type 0 where
  pub first : FitsSigned w128 (passed c *ℤ passed a)
  pub second : FitsSigned w128 (passed (passed c *ℤ passed a) *ℤ passed b)
  pub value : passed (passed (passed c *ℤ passed a) *ℤ passed b) ≡ c *ℤ a *ℤ b
  pub size : unsigned_abs (passed (passed (passed c *ℤ passed a) *ℤ passed b)) ≤ 10000 * (2 * 10 ^ 16 * (2 * 10 ^ 16))

pub pair_of : (c a b : ℤ) → unsigned_abs c ≤ 10000 → IsClassMargin a → IsClassMargin b → PairOf c a b
pair_of c a b h ma mb =
    let sa = margin_size a ma in
    let sb = margin_size b mb in
    let first_size : unsigned_abs (c *ℤ a) ≤ 10000 * (2 * 10 ^ 16) = product_size c a 10000 (2 * 10 ^ 16) h sa in
    let second_size : unsigned_abs (c *ℤ a *ℤ b) ≤ 10000 * (2 * 10 ^ 16) * (2 * 10 ^ 16) = product_size (c *ℤ a) b (10000 * (2 * 10 ^ 16)) (2 * 10 ^ 16) first_size sb in
    let c_is = same128 c (fits_signed_from_abs w128 c (omega (arith, h))) in
    let a_is = same128 a (fits_signed_from_abs w128 a (omega (arith, sa))) in
    let b_is = same128 b (fits_signed_from_abs w128 b (omega (arith, sb))) in
    let fits_first = fits_signed_from_abs w128 (c *ℤ a) (omega (arith, first_size)) in
    let fits_second = fits_signed_from_abs w128 (c *ℤ a *ℤ b) (omega (arith, second_size)) in
    let first_is : passed c *ℤ passed a ≡ c *ℤ a = ap (λ z. z *ℤ passed a) c_is ∙ ap (λ z. c *ℤ z) a_is in
    let second_is : passed (passed c *ℤ passed a) *ℤ passed b ≡ c *ℤ a *ℤ b = ap (λ z. passed z *ℤ passed b) first_is ∙ ap (λ z. z *ℤ passed b) (same128 (c *ℤ a) fits_first) ∙ ap (λ z. c *ℤ a *ℤ z) b_is in
    let value_is : passed (passed (passed c *ℤ passed a) *ℤ passed b) ≡ c *ℤ a *ℤ b = ap passed second_is ∙ same128 (c *ℤ a *ℤ b) fits_second in
    record {
      first = subst (FitsSigned w128) (sym first_is) fits_first;
      second = subst (FitsSigned w128) (sym second_is) fits_second;
      value = value_is;
      size = subst (λ z. unsigned_abs z ≤ 10000 * (2 * 10 ^ 16 * (2 * 10 ^ 16))) (sym value_is) (omega (arith, second_size));
    }

pub same_product : (c d a b x y : ℤ) → c ≡ d → a ≡ b → x ≡ y → c *ℤ a *ℤ x ≡ d *ℤ b *ℤ y
same_product c d a b x y e f g = ap (λ z. z *ℤ a *ℤ x) e ∙ ap (λ z. d *ℤ z *ℤ x) f ∙ ap (λ z. d *ℤ b *ℤ z) g

-- a product with a margin of 0
pub without_margin : (c a b : ℤ) → a ≡ pos 0 → c *ℤ a *ℤ b ≡ pos 0
without_margin c a b none = ap (λ z. c *ℤ z *ℤ b) none ∙ ap (λ z. z *ℤ b) (*ℤ_comm c (pos 0) ∙ zero-*ℤ c) ∙ zero-*ℤ b

-- ---- sums of six

pub six_nothings : (a b c d e f : ℤ) → a ≡ pos 0 → b ≡ pos 0 → c ≡ pos 0 → d ≡ pos 0 → e ≡ pos 0 → f ≡ pos 0 → pos 0 ≡ a +ℤ (b +ℤ (c +ℤ (d +ℤ (e +ℤ (f +ℤ pos 0)))))
six_nothings a b c d e f p q r s t u = omega (arith, ints)

abbrev pub plus : ℤ → ℤ → ℤ
plus a b = passed a +ℤ passed b

-- a sum whose first number is built as x
pub record Added (x a b : ℤ) (most : ℕ) : Type 0 where
  pub fits : FitsSigned w128 (plus x b)
  pub value : plus x b ≡ a +ℤ b
  pub answer : passed (plus x b) ≡ a +ℤ b
  pub size : unsigned_abs (a +ℤ b) ≤ most

pub added : (x a b : ℤ) (i j : ℕ) → x ≡ a → unsigned_abs a ≤ i → unsigned_abs b ≤ j → i + j ≤ 17 * 10 ^ 37 → Added x a b (i + j)
added x a b i j e h g most =
    let size : unsigned_abs (a +ℤ b) ≤ i + j = omega (arith, unsigned_abs-add a b) in
    let fits = fits_signed_from_abs w128 (a +ℤ b) (omega arith) in
    let is : plus x b ≡ a +ℤ b = ap (λ z. passed z +ℤ passed b) e ∙ ap (λ z. z +ℤ passed b) (same128 a (fits_signed_from_abs w128 a (omega arith))) ∙ ap (λ z. a +ℤ z) (same128 b (fits_signed_from_abs w128 b (omega arith))) in
    record { fits = subst (FitsSigned w128) (sym is) fits; value = is; answer = ap passed is ∙ same128 (a +ℤ b) fits; size = size }

-- six numbers of at most a size
pub record SixOf (most : ℕ) (a b c d e f : ℤ) : Type 0 where
  pub first : FitsSigned w128 (plus a b)
  pub second : FitsSigned w128 (plus (plus a b) c)
  pub third : FitsSigned w128 (plus (plus (plus a b) c) d)
  pub fourth : FitsSigned w128 (plus (plus (plus (plus a b) c) d) e)
  pub fifth : FitsSigned w128 (plus (plus (plus (plus (plus a b) c) d) e) f)
  pub value : passed (plus (plus (plus (plus (plus a b) c) d) e) f) ≡ a +ℤ (b +ℤ (c +ℤ (d +ℤ (e +ℤ (f +ℤ pos 0)))))
  pub size : unsigned_abs (passed (plus (plus (plus (plus (plus a b) c) d) e) f)) ≤ 6 * most

in_order : (a b c d e f : ℤ) → a +ℤ b +ℤ c +ℤ d +ℤ e +ℤ f ≡ a +ℤ (b +ℤ (c +ℤ (d +ℤ (e +ℤ (f +ℤ pos 0)))))
in_order a b c d e f = omega (arith, ints)

pub six_of : (most : ℕ) (a b c d e f : ℤ) → 6 * most ≤ 17 * 10 ^ 37 → unsigned_abs a ≤ most → unsigned_abs b ≤ most → unsigned_abs c ≤ most → unsigned_abs d ≤ most → unsigned_abs e ≤ most → unsigned_abs f ≤ most → SixOf most a b c d e f
six_of most a b c d e f fits ha hb hc hd he hf =
    let two = added a a b most most refl ha hb (omega arith) in
    let three = added (plus a b) (a +ℤ b) c (2 * most) most two.value (omega (arith, two.size)) hc (omega arith) in
    let four = added (plus (plus a b) c) (a +ℤ b +ℤ c) d (3 * most) most three.value (omega (arith, three.size)) hd (omega arith) in
    let five = added (plus (plus (plus a b) c) d) (a +ℤ b +ℤ c +ℤ d) e (4 * most) most four.value (omega (arith, four.size)) he (omega arith) in
    let six = added (plus (plus (plus (plus a b) c) d) e) (a +ℤ b +ℤ c +ℤ d +ℤ e) f (5 * most) most five.value (omega (arith, five.size)) hf (omega arith) in
    let size : unsigned_abs (a +ℤ b +ℤ c +ℤ d +ℤ e +ℤ f) ≤ 6 * most = omega (arith, six.size) in
    record {
      first = two.fits;
      second = three.fits;
      third = four.fits;
      fourth = five.fits;
      fifth = six.fits;
      value = six.answer ∙ in_order a b c d e f;
      size = subst (λ z. unsigned_abs z ≤ 6 * most) (sym six.answer) size;
    }

pub same_six : (a b c d e f u v w x y z : ℤ) → a ≡ u → b ≡ v → c ≡ w → d ≡ x → e ≡ y → f ≡ z → a +ℤ (b +ℤ (c +ℤ (d +ℤ (e +ℤ (f +ℤ pos 0))))) ≡ u +ℤ (v +ℤ (w +ℤ (x +ℤ (y +ℤ (z +ℤ pos 0)))))
same_six a b c d e f u v w x y z p q r s t o = λ i. p i +ℤ (q i +ℤ (r i +ℤ (s i +ℤ (t i +ℤ (o i +ℤ pos 0)))))

-- ---- the root

pub root_low : (z : ℤ) → z ≤ℤ pos 0 → pos 0 ≡ root z
root_low z h =
    IsRoot_unique z (pos 0) (root z) record { not_negative = omega (arith, ints); enough = omega (arith, ints); least = λ y low reached. low } (root_is z)

pub root_abs : (z : ℤ) → pos 0 ≤ℤ z → root (pos (unsigned_abs z)) ≡ root z
root_abs (pos n) h = refl
root_abs (negsuc n) h = absurd h.le

pub root_within : (q : ℤ) → unsigned_abs q ≤ 10000 * (12 * 10 ^ 16 * (12 * 10 ^ 16)) → root (up q (pos 10000)) ≤ℤ pos (12 * 10 ^ 16)
root_within q h =
    let quotient : up q (pos 10000) ≤ℤ pos (12 * 10 ^ 16 * (12 * 10 ^ 16)) = (up_is q (pos 10000) (omega (arith, ints))).least (pos (12 * 10 ^ 16 * (12 * 10 ^ 16))) (omega (arith, ints, h)) in
    (root_is (up q (pos 10000))).least (pos (12 * 10 ^ 16)) (omega (arith, ints)) (omega (arith, ints, quotient))
