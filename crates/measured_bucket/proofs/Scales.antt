-- How much tenors count, and sizes of nets that count by their tenors.
use Rattle.std.proofs.Common.{◌≡◌, ◌^◌, ℕ, ◌+◌, ◌*◌, ◌≤◌, List, [], ◌∷◌, ap, ℤ, ◌*ℤ◌, unsigned_abs, arith, mul-le-mul_left}
use Rattle.std.specs.Prelude.{sum_by}
use Rattle.std.proofs.lemmas.Int.{ints}
use Rattle.std.proofs.lemmas.List.Sums.{sum_by-cons}
use Rattle.simm_params.proofs.MhUnits.Integers.{product_size}
use Rattle.simm_params.specs.SimmKinds.declared.kinds.Tenor.{Tenor}
use Rattle.simm_params.specs.SimmKinds.declared.kinds.Tenor.TheVariants as tenor
use Rattle.simm_params.specs.SimmRules.Curvature.{scale_of}
use Rattle.measured_bucket.specs.declared.tenor_scale.TenorScale.{TenorScale}
use Rattle.measured_bucket.specs.declared.tenor_scale.TenorScale.TheVariants as scale
use Rattle.measured_bucket.specs.Scale.{scale_by, most}

-- ---- how much a tenor counts

pub scale_of-size : (t : Tenor) → unsigned_abs (scale_of t) ≤ 10950
scale_of-size tenor.W2 = omega (arith, ints)
scale_of-size tenor.M1 = omega (arith, ints)
scale_of-size tenor.M3 = omega (arith, ints)
scale_of-size tenor.M6 = omega (arith, ints)
scale_of-size tenor.Y1 = omega (arith, ints)
scale_of-size tenor.Y2 = omega (arith, ints)
scale_of-size tenor.Y3 = omega (arith, ints)
scale_of-size tenor.Y5 = omega (arith, ints)
scale_of-size tenor.Y10 = omega (arith, ints)
scale_of-size tenor.Y15 = omega (arith, ints)
scale_of-size tenor.Y20 = omega (arith, ints)
scale_of-size tenor.Y30 = omega (arith, ints)

pub most_below : (s : TenorScale) → most s ≤ 10950
most_below scale.Even = omega arith
most_below scale.Curved = omega arith

scale_by-size : (s : TenorScale) (t : Tenor) → unsigned_abs (scale_by s t) ≤ most s
scale_by-size scale.Even t = omega (arith, ints)
scale_by-size scale.Curved t = scale_of-size t

-- ---- sizes

pub times_size : (f net : ℤ) (m : ℕ) → unsigned_abs f ≤ m → unsigned_abs (f *ℤ net) ≤ unsigned_abs net * m
times_size f net m h = omega (arith, product_size f net m (unsigned_abs net) h (omega arith))

-- nets, each times what its tenor counts
pub scaled_sizes : {X : Type 0} (s : TenorScale) (tenor : X → Tenor) (net : X → ℤ) (xs : List X) → sum_by (λ x. unsigned_abs (scale_by s (tenor x) *ℤ net x)) xs ≤ sum_by (λ x. unsigned_abs (net x)) xs * most s
scaled_sizes s tenor net [] = omega arith
scaled_sizes s tenor net (x ∷ xs) =
    let whole : sum_by (λ y. unsigned_abs (net y)) (x ∷ xs) * most s ≡ (unsigned_abs (net x) + sum_by (λ y. unsigned_abs (net y)) xs) * most s = ap (λ n. n * most s) (sum_by-cons (λ y. unsigned_abs (net y)) x xs) in
    omega (
      arith,
      scaled_sizes s tenor net xs,
      times_size (scale_by s (tenor x)) (net x) (most s) (scale_by-size s (tenor x)),
      sum_by-cons (λ y. unsigned_abs (scale_by s (tenor y) *ℤ net y)) x xs,
    )

-- what comes to no more than nets that are small enough, each counted in full
pub within_most : (s : TenorScale) (n m : ℕ) → n ≤ m * most s → m ≤ 2 * 10 ^ 20 → n ≤ 219 * 10 ^ 22
within_most s n m h small = omega (arith, h, mul-le-mul_left m (most_below s), small)
