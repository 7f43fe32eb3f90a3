-- The least and the greatest multiple of a unit, by the least and the greatest quotient.
use Rattle.std.proofs.Common.{◌≡◌, ℕ, ◌*◌, ◌^◌, ◌≤◌, ℤ, pos, negsuc, ◌+ℤ◌, ◌-ℤ◌, ◌*ℤ◌, ◌≤ℤ◌, ◌<ℤ◌, unsigned_abs, refl, sym, subst, arith}
use Rattle.std.proofs.lemmas.Int.{ints, by_lt_z}
use Rattle.std.proofs.Math.IntN.{zero-*ℤ}
use Rattle.csa_terms.specs.MhUnits.Rounding.{up, down}
use Rattle.csa_terms.proofs.MhUnits.Integers.{mul-le_ℤ, sub-mul_ℤ}
use Rattle.csa_terms.proofs.MhUnits.Roundings.{up_is, down_is}
use Rattle.csa_calls.specs.CallRule.{multiple_up, multiple_down, IsLeastMultiple, IsGreatestMultiple}

pub one-mul : (k : ℕ) → pos 1 *ℤ pos k ≡ pos k
one-mul k = omega (arith, ints)

-- ---- upwards

pub multiple_up_is : (a u : ℤ) → pos 1 ≤ℤ u → IsLeastMultiple a u (multiple_up a u)
multiple_up_is a (pos k) some =
    let rule = up_is a (pos k) (omega (arith, ints)) in
    record { multiple = (up a (pos k), refl); enough = rule.enough; least = λ n reached. mul-le_ℤ (up a (pos k)) n k (rule.least n reached) }
multiple_up_is a (negsuc k) some = absurd some.le

-- less than a unit above the amount
pub multiple_up-lt : (a u : ℤ) → pos 1 ≤ℤ u → multiple_up a u <ℤ (a +ℤ u)
multiple_up-lt a (pos k) some =
    let rule = up_is a (pos k) (omega (arith, ints)) in
    by_lt_z {P = multiple_up a (pos k) <ℤ (a +ℤ pos k)} (multiple_up a (pos k)) (a +ℤ pos k) (λ below. below)
    (λ above.
    let less : (up a (pos k) -ℤ pos 1) *ℤ pos k ≡ up a (pos k) *ℤ pos k -ℤ pos 1 *ℤ pos k = sub-mul_ℤ (up a (pos k)) (pos 1) (pos k) in
    let enough : a ≤ℤ ((up a (pos k) -ℤ pos 1) *ℤ pos k) = omega (arith, ints, less, one-mul k) in
    let least : up a (pos k) ≤ℤ (up a (pos k) -ℤ pos 1) = rule.least (up a (pos k) -ℤ pos 1) enough in absurd (omega (arith, ints)))
multiple_up-lt a (negsuc k) some = absurd some.le

-- ---- downwards

pub multiple_down_is : (a u : ℤ) → pos 1 ≤ℤ u → IsGreatestMultiple a u (multiple_down a u)
multiple_down_is a (pos k) some =
    let rule = down_is a (pos k) (omega (arith, ints)) in
    record { multiple = (down a (pos k), refl); within = rule.within; greatest = λ n under. mul-le_ℤ n (down a (pos k)) k (rule.greatest n under) }
multiple_down_is a (negsuc k) some = absurd some.le

pub multiple_down-from_zero : (a u : ℤ) → pos 1 ≤ℤ u → pos 0 ≤ℤ a → pos 0 ≤ℤ multiple_down a u
multiple_down-from_zero a u some low =
    let rule = multiple_down_is a u some in
    let none : pos 0 *ℤ u ≡ pos 0 = zero-*ℤ u in
    let most = rule.greatest (pos 0) (subst (λ z. z ≤ℤ a) (sym none) low) in subst (λ z. z ≤ℤ multiple_down a u) none most

-- a multiple of 0 is of an amount below the unit
pub below_unit : (a u : ℤ) → pos 1 ≤ℤ u → multiple_down a u ≡ pos 0 → a <ℤ u
below_unit a (pos k) some e =
    by_lt_z {P = a <ℤ pos k} a (pos k) (λ below. below)
    (λ above.
    let rule = multiple_down_is a (pos k) some in
    let one = one-mul k in
    let most : (pos 1 *ℤ pos k) ≤ℤ multiple_down a (pos k) = rule.greatest (pos 1) (subst (λ z. z ≤ℤ a) (sym one) above) in
    absurd (omega (arith, ints, one, e, most)))
below_unit a (negsuc k) some e = absurd some.le

-- and an amount below the unit has the multiple 0
pub below_none : (a u : ℤ) → pos 1 ≤ℤ u → pos 0 ≤ℤ a → a <ℤ u → multiple_down a u ≡ pos 0
below_none a (pos k) some low below =
    let rule = multiple_down_is a (pos k) some in
    let from = multiple_down-from_zero a (pos k) some low in
    let whole = one-mul k in
    let none = zero-*ℤ (pos k) in
    by_lt_z {P = multiple_down a (pos k) ≡ pos 0} (pos 0) (down a (pos k))
    (λ more.
    let one : pos 1 ≤ℤ down a (pos k) = omega (arith, ints) in
    let grown : (pos 1 *ℤ pos k) ≤ℤ (down a (pos k) *ℤ pos k) = mul-le_ℤ (pos 1) (down a (pos k)) k one in
    absurd (omega (arith, ints, grown, whole, rule.within)))
    (λ most. let small : (down a (pos k) *ℤ pos k) ≤ℤ (pos 0 *ℤ pos k) = mul-le_ℤ (down a (pos k)) (pos 0) k most in omega (arith, ints, small, none, from))
below_none a (negsuc k) some low below = absurd some.le

-- ---- the same of a result that equals the rule's

pub least_multiple_from : (a u x : ℤ) → pos 1 ≤ℤ u → x ≡ multiple_up a u → IsLeastMultiple a u x
least_multiple_from a u x some e = subst (IsLeastMultiple a u) (sym e) (multiple_up_is a u some)

pub multiple_up_below : (a u x : ℤ) → pos 1 ≤ℤ u → x ≡ multiple_up a u → x <ℤ (a +ℤ u)
multiple_up_below a u x some e = subst (λ z. z <ℤ (a +ℤ u)) (sym e) (multiple_up-lt a u some)

pub multiple_up_size : (a u x : ℤ) → pos 0 <ℤ a → a ≤ℤ pos (10 ^ 18) → pos 1 ≤ℤ u → u ≤ℤ pos (10 ^ 12) → x ≡ multiple_up a u → unsigned_abs x ≤ 2 * 10 ^ 18
multiple_up_size a u x above most some small e =
    let rule = least_multiple_from a u x some e in
    let next = multiple_up_below a u x some e in omega (arith, ints, rule.enough)

pub greatest_multiple_from : (a u x : ℤ) → pos 1 ≤ℤ u → x ≡ multiple_down a u → IsGreatestMultiple a u x
greatest_multiple_from a u x some e = subst (IsGreatestMultiple a u) (sym e) (multiple_down_is a u some)
