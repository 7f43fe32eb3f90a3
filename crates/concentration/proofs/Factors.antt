-- The concentration factor is the least number of its rule, and stays below 347; a ratio of two lies between 0 and 1.
use Rattle.std.proofs.Common.{◌≡◌, ℕ, ◌*◌, ◌^◌, ◌<◌, ◌≤◌, ℤ, pos, negsuc, ◌+ℤ◌, ◌-ℤ◌, ◌*ℤ◌, ◌≤ℤ◌, ◌<ℤ◌, unsigned_abs, sym, ap, ◌∙◌, subst, arith}
use Rattle.std.proofs.lemmas.Nat.{mul-le}
use Rattle.std.proofs.lemmas.Int.{ints, clamps}
use Rattle.std.proofs.Math.IntN.{zero-*ℤ, *ℤ_comm}
use Rattle.std.specs.Int.{int_min, int_max}
use Rattle.simm_rules.specs.MhUnits.Rounding.{up, down, root, IsUp, IsRoot}
use Rattle.simm_rules.proofs.MhUnits.Integers.{add-mul_ℤ, below_next, mul-le_ℤ}
use Rattle.simm_rules.proofs.MhUnits.Roundings.{up_is, down_is, root_is, IsDown_unique}
use Rattle.simm_rules.specs.Concentration.{IsConcentration, one, cr, ratio}

-- ---- the ratio of the lesser over the greater

pub ratio_bounds : (l g : ℤ) → pos 0 ≤ℤ l → pos 0 <ℤ g → l ≤ℤ g → (pos 0 ≤ℤ down (l *ℤ one) g) × (down (l *ℤ one) g ≤ℤ one)
ratio_bounds l (pos k) low some le =
    let d = down_is (l *ℤ one) (pos k) some in
    (d.greatest (pos 0) (omega (arith, ints, zero-*ℤ (pos k))), below_next (down (l *ℤ one) (pos k)) one (l *ℤ one) k d.within (omega (arith, ints)))
ratio_bounds l (negsuc k) low some le = absurd some.lt

itself_over : (a : ℤ) → one ≤ℤ a → one ≡ down (int_min a a *ℤ one) (int_max a a)
itself_over a low =
    let lesser : int_min a a ≡ a = omega (arith, ints, clamps) in
    let greater : int_max a a ≡ a = omega (arith, ints, clamps) in
    let turned : one *ℤ a ≡ a *ℤ one = *ℤ_comm one a in
    let d = down_is (a *ℤ one) a (omega (arith, ints)) in
    let reached : one ≤ℤ down (a *ℤ one) a = d.greatest one (omega (arith, ints)) in
    let bounds = ratio_bounds a a (omega (arith, ints)) (omega (arith, ints)) (omega (arith, ints)) in
    let whole : one ≡ down (a *ℤ one) a = omega (arith, ints, reached, bounds.1) in
    whole ∙ ap (λ z. down (z *ℤ one) a) (sym lesser) ∙ ap (λ z. down (int_min a a *ℤ one) z) (sym greater)

-- of two equal factors
pub ratio_of_equals : (a b : ℤ) → one ≤ℤ a → a ≡ b → one ≡ ratio a b
ratio_of_equals a b low e = subst (λ z. one ≡ ratio a z) e (itself_over a low)

-- what a guess leaves of a number tells that it is the quotient
pub quotient_is : (n d g : ℤ) → pos 0 <ℤ d → pos 0 ≤ℤ (n -ℤ (g *ℤ d)) → (n -ℤ (g *ℤ d)) <ℤ d → g ≡ down n d
quotient_is n (pos k) g some low high =
    let next : n <ℤ ((g +ℤ pos 1) *ℤ pos k) = omega (arith, ints, add-mul_ℤ g (pos 1) (pos k)) in
    IsDown_unique n (pos k) g (down n (pos k)) (record { within = omega (arith, ints); greatest = λ y under. below_next y g n k under next }) (down_is n (pos k) some)
quotient_is n (negsuc k) g some low high = absurd some.lt

pub product_fits : (g d : ℤ) → pos 0 ≤ℤ g → g ≤ℤ one → pos 0 <ℤ d → d <ℤ pos 347000000 → (pos 0 ≤ℤ (g *ℤ d)) × ((g *ℤ d) ≤ℤ pos (347 * 10 ^ 12))
product_fits (pos g) (pos d) low most some below = let le : g * d ≤ 1000000 * 347000000 = mul-le g d 1000000 347000000 (omega (arith, ints)) (omega (arith, ints)) in (omega (arith, ints), omega (arith, ints))
product_fits (negsuc g) d low most some below = absurd low.le
product_fits (pos g) (negsuc d) low most some below = absurd some.lt

-- ---- the factor

pub square_bound : (n t : ℕ) → 0 < t → n ≤ 120000 * t → up (pos n *ℤ pos (10 ^ 12)) (pos t) ≤ℤ pos (120000 * 10 ^ 12)
square_bound n t some h =
    let u = up_is (pos n *ℤ pos (10 ^ 12)) (pos t) (omega (arith, ints)) in
    u.least (pos (120000 * 10 ^ 12)) (omega (arith, ints))

pub root_bound : (s : ℤ) → s ≤ℤ pos (120000 * 10 ^ 12) → root s ≤ℤ pos 346999999
root_bound s h = (root_is s).least (pos 346999999) (omega (arith, ints)) (omega (arith, ints))

square_le : (r c : ℤ) → pos 0 ≤ℤ r → r ≤ℤ c → (r *ℤ r) ≤ℤ (c *ℤ c)
square_le (pos k) (pos m) low h =
    let le : k ≤ m = omega (arith, ints) in let square : k * k ≤ m * m = mul-le k k m m le le in omega (arith, ints)
square_le (negsuc k) c low h = absurd low.le
square_le (pos k) (negsuc m) low h = absurd h.le

-- the greater of 1 and the least root of the least square is the least factor
factor_is : (x s r : ℤ) (t : ℕ) → IsUp (pos (unsigned_abs x) *ℤ pos (10 ^ 12)) (pos t) s → IsRoot s r → IsConcentration x (pos t) (int_max one r)
factor_is x s r t u h = record {
  not_below_one = omega (arith, ints, clamps);
  enough =
      let square : s ≤ℤ (int_max one r *ℤ int_max one r) = let grown = square_le r (int_max one r) h.not_negative (omega (arith, ints, clamps)) in omega (arith, ints, h.enough) in
      let scaled = mul-le_ℤ s (int_max one r *ℤ int_max one r) t square in omega (arith, ints, u.enough);
  least = λ d from_one reached.
      let root_least : r ≤ℤ d = h.least d (omega (arith, ints)) (u.least (d *ℤ d) reached) in omega (arith, ints, clamps);
}

pub cr_is : (x : ℤ) (t : ℕ) → 0 < t → IsConcentration x (pos t) (cr x (pos t))
cr_is x t some =
    let s = up (pos (unsigned_abs x) *ℤ pos (10 ^ 12)) (pos t) in
    factor_is x s (root s) t (up_is (pos (unsigned_abs x) *ℤ pos (10 ^ 12)) (pos t) (omega (arith, ints))) (root_is s)

-- up to the threshold it is 1
pub factor_of_few : (x T : ℤ) → pos 1 ≤ℤ T → unsigned_abs x ≤ unsigned_abs T → one ≡ cr x T
factor_of_few x (pos t) some few =
    let s = up (pos (unsigned_abs x) *ℤ pos (10 ^ 12)) (pos t) in
    let u = up_is (pos (unsigned_abs x) *ℤ pos (10 ^ 12)) (pos t) (omega (arith, ints)) in
    let square : s ≤ℤ pos (10 ^ 12) = u.least (pos (10 ^ 12)) (omega (arith, ints)) in
    let small : root s ≤ℤ one = (root_is s).least one (omega (arith, ints)) (omega (arith, ints)) in
    omega (arith, ints, clamps)
factor_of_few x (negsuc t) some few = absurd some.le

-- ---- the same of a result that equals the rule's

pub quotient_high : (l g q : ℤ) → pos 0 ≤ℤ l → pos 0 <ℤ g → l ≤ℤ g → q ≡ down (l *ℤ one) g → q ≤ℤ one
quotient_high l g q low some le e = let bounds = ratio_bounds l g low some le in subst (λ z. z ≤ℤ one) (sym e) bounds.1

pub root_small : (n : ℕ) (T : ℤ) (r : ℕ) → pos 1 ≤ℤ T → n ≤ 120000 * unsigned_abs T → pos r ≡ root (up (pos n *ℤ pos (10 ^ 12)) T) → r ≤ 346999999
root_small n (pos t) r some h e =
    let bound = root_bound (up (pos n *ℤ pos (10 ^ 12)) (pos t)) (square_bound n t (omega (arith, ints)) h) in
    let small : pos r ≤ℤ pos 346999999 = subst (λ z. z ≤ℤ pos 346999999) (sym e) bound in omega (arith, ints)
root_small n (negsuc t) r some h e = absurd some.le

pub factor_from : (x T c : ℤ) → pos 1 ≤ℤ T → c ≡ cr x T → IsConcentration x T c
factor_from x (pos t) c some e = subst (λ z. IsConcentration x (pos t) z) (sym e) (cr_is x t (omega (arith, ints)))
factor_from x (negsuc t) c some e = absurd some.le
