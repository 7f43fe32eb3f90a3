-- Concentration factors and weighted values beside thick thresholds.
use Rattle.std.proofs.Common.{◌≡◌, ◌^◌, ℕ, ◌+◌, ◌*◌, ◌<◌, ◌≤◌, List, map, sym, ap, subst, ℤ, pos, negsuc, ◌*ℤ◌, ◌≤ℤ◌, ◌<ℤ◌, unsigned_abs, All, arith, mul-le-mul_left}
use Rattle.std.specs.List.{AllByRecursion}
use Rattle.std.proofs.Math.Nat.{le_of_mul-le-mul_right}
use Rattle.std.proofs.lemmas.Int.{ints, clamps, unsigned_abs-mul}
use Rattle.std.proofs.lemmas.List.Elements.{All-from_recursion}
use Rattle.simm_params.specs.MhUnits.Rounding.{up}
use Rattle.weighted_bucket.proofs.Concentration.Factors.{square_bound, root_bound}
use Rattle.simm_params.specs.SimmRules.Concentration.{one, cr}
use Rattle.simm_params.specs.SimmRules.Bucket.{weighted_value}
use Rattle.simm_params.specs.Facts.{IsWeighed}
use Rattle.weighted_bucket.specs.declared.weighed.Weighed.{Weighed}
use Rattle.measured_bucket.specs.Values.{AreTerms}
use Rattle.measured_bucket.specs.Values.{IsSmall}
use Rattle.measured_bucket.proofs.Lists.{each_map}
use Rattle.measured_bucket.proofs.Sizes.{away_size_close}

-- a net is at most 120,000 thresholds, where its weighted size is at most 10^17
thick_net : (n w t : ℕ) → n * w ≤ 10 ^ 17 → 10 ^ 12 ≤ w * t → 1 ≤ w → n ≤ 120000 * t
thick_net n w t h thick some = le_of_mul-le-mul_right (omega (arith, mul-le-mul_left 120000 thick)) some

pub net_thick : (n w t : ℤ) → IsWeighed w t → pos 1 ≤ℤ w → IsSmall w n → unsigned_abs n ≤ 120000 * unsigned_abs t
net_thick n (pos w) (pos t) f some h =
    thick_net (unsigned_abs n) w t h (omega (arith, ints, f.thick (omega (arith, ints)))) (omega (arith, ints))
net_thick n (negsuc w) t f some h = absurd some.le
net_thick n (pos w) (negsuc t) f some h = absurd f.threshold_low.le

cr_size_at : (x : ℤ) (t : ℕ) → 0 < t → unsigned_abs x ≤ 120000 * t → unsigned_abs (cr x (pos t)) ≤ 346999999
cr_size_at x t some h =
    omega (arith, ints, clamps, root_bound (up (pos (unsigned_abs x) *ℤ pos (10 ^ 12)) (pos t)) (square_bound (unsigned_abs x) t some h))

pub cr_size : (x t : ℤ) → pos 1 ≤ℤ t → unsigned_abs x ≤ 120000 * unsigned_abs t → unsigned_abs (cr x t) ≤ 346999999
cr_size x (pos t) some h = cr_size_at x t (omega (arith, ints)) h
cr_size x (negsuc t) some h = absurd some.le

-- the concentration factor of a group by itself
pub alone_size : (w t x : ℤ) → AreTerms w t → IsSmall w x → unsigned_abs (cr x t) ≤ 346999999
alone_size w t x terms small = cr_size x t terms.weighed.threshold_low (net_thick x w t terms.weighed terms.some small)

pub cr_low : (x t : ℤ) → one ≤ℤ cr x t
cr_low x t = omega (arith, ints, clamps)

pub cr_below : (c : ℤ) → unsigned_abs c ≤ 346999999 → c <ℤ pos 347000000
cr_below c h = omega (arith, ints)

-- a weighted value is at most its weighted size times the greatest concentration factor, and a cent
pub weighted_close : (w n c : ℤ) → unsigned_abs c ≤ 346999999 → unsigned_abs (weighted_value w n c) * 10 ^ 10 ≤ unsigned_abs n * unsigned_abs w * 346999999 + 10 ^ 10
weighted_close w n c h =
    let product : unsigned_abs (w *ℤ n *ℤ c) ≡ unsigned_abs (w *ℤ n) * unsigned_abs c = unsigned_abs-mul (w *ℤ n) c in
    let pair : unsigned_abs (w *ℤ n) * unsigned_abs c ≡ (unsigned_abs w * unsigned_abs n) * unsigned_abs c = ap (λ m. m * unsigned_abs c) (unsigned_abs-mul w n) in
    omega (arith, away_size_close (w *ℤ n *ℤ c) (10 ^ 10) (omega arith), mul-le-mul_left (unsigned_abs w * unsigned_abs n) h)

-- what is so of each that was made is so of all factors
pub all_made : {X : Type 0} (P : Weighed → Type 0) (W : X → Weighed) (xs : List X) (factors : List Weighed) → factors ≡ map W xs → AllByRecursion (λ x. P (W x)) xs → All P factors
all_made P W xs factors made each = All-from_recursion P factors (subst (AllByRecursion P) (sym made) (each_map P W xs each))
