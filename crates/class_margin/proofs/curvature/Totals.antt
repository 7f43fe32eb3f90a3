-- Sums over the values of buckets, and a part of the margin by them.
use Rattle.std.proofs.Common.{◌≡◌, ◌^◌, ℕ, ◌+◌, ◌*◌, ◌<◌, ◌≤◌, List, [], ◌∷◌, map, take, length, get_or, sym, ap, ◌∙◌, subst, ℤ, pos, ◌+ℤ◌, ◌≤ℤ◌, ◌<ℤ◌, unsigned_abs, FitsSigned, All, arith}
use Rattle.std.specs.Prelude.{sum_by}
use Rattle.std.specs.Int.{w128, int_max}
use Rattle.std.specs.List.{AllByRecursion}
use Rattle.std.proofs.Math.IntN.{+ℤ_idr}
use Rattle.std.proofs.lemmas.Int.{ints, clamps, fits_signed_from_abs}
use Rattle.std.proofs.lemmas.List.{take_more}
use Rattle.std.proofs.lemmas.List.Elements.{recursion_from_All}
use Rattle.std.proofs.lemmas.List.Sums.{sum_by-cons, sum_by-take-le, get_or-le-sum_by}
use Rattle.class_rates.specs.SimmRules.declared.values.BucketMargin.{BucketMargin}
use Rattle.class_rates.specs.SimmRules.Sums.{total_by}
use Rattle.class_rates.specs.SimmRules.Across.{Part}
use Rattle.class_rates.specs.SimmRules.Curvature.{curvature_part}
use Rattle.class_rates.proofs.FactorBook.Sums.{total_by-append, total_by-map}
use Rattle.class_rates.proofs.MeasuredBucket.Sizes.{total_size}
use Rattle.class_margin.specs.curvature.Numbered.{bound_of}
use Rattle.class_margin.specs.curvature.Part.{sum_over, gross_over, margin_over, part_by, part_over}

-- ---- one value more

-- what a read gives past the end
abbrev pub no_margin : BucketMargin
no_margin = record { q = pos 0; k = pos 0; s = pos 0; sum = pos 0; gross = pos 0; cr = record { 0 = pos 0 } }

module _ (f : BucketMargin → ℤ) where
  pub record TotalStep (values : List BucketMargin) (n : ℕ) (sum more : ℤ) : Type 0 where
    pub own : FitsSigned w128 more
    pub both : FitsSigned w128 (sum +ℤ more)
    pub value : sum +ℤ more ≡ total_by f (take (n + 1) values)

  pub first_size : (values : List BucketMargin) (n : ℕ) → unsigned_abs (total_by f (take n values)) ≤ sum_by (λ b. unsigned_abs (f b)) values
  first_size values n = omega (arith, total_size f (take n values), sum_by-take-le (λ b. unsigned_abs (f b)) values n)

  pub total_step : (values : List BucketMargin) (n : ℕ) (sum : ℤ) → sum_by (λ b. unsigned_abs (f b)) values < 84 * 10 ^ 14 → n < length values → sum ≡ total_by f (take n values) → TotalStep values n sum (f (get_or values n no_margin))
  total_step values n sum range inside so_far =
      let own = get_or values n no_margin in
      let value : sum +ℤ f own ≡ total_by f (take (n + 1) values) =
      ap (λ z. z +ℤ f own) so_far ∙ ap (λ z. total_by f (take n values) +ℤ z) (sym (+ℤ_idr (f own)))
      ∙ sym (total_by-append f (take n values) (own ∷ [])) ∙ ap (total_by f) (sym (take_more values n no_margin inside)) in
      let size : unsigned_abs (sum +ℤ f own) ≤ sum_by (λ b. unsigned_abs (f b)) values = subst (λ z. unsigned_abs z ≤ sum_by (λ b. unsigned_abs (f b)) values) (sym value) (first_size values (n + 1)) in
      record {
        own = fits_signed_from_abs w128 (f own) (omega (arith, get_or-le-sum_by (λ b. unsigned_abs (f b)) values n no_margin inside, range));
        both = fits_signed_from_abs w128 (sum +ℤ f own) (omega (arith, size, range));
        value = value;
      }

-- ---- a part of the margin

pub part_is : {A : Type 0} (base : ℤ) (parts : List (Part A)) (root : ℤ) → part_over base (map (λ b. b.value) parts) root ≡ curvature_part base parts root
part_is {A} base parts root =
    ap (λ z. part_by base z (gross_over (map (λ (b : Part A). b.value) parts)) root) (total_by-map (λ (b : BucketMargin). b.sum) (λ (b : Part A). b.value) parts)
    ∙ ap (λ z. part_by base (total_by (λ (b : Part A). (b.value).sum) parts) z root) (total_by-map (λ (b : BucketMargin). b.gross) (λ (b : Part A). b.value) parts)

-- each sum is at most its gross size, and so are all together
pub sums_within : (values : List BucketMargin) → AllByRecursion (λ b. pos (unsigned_abs b.sum) ≤ℤ b.gross) values → pos (unsigned_abs (sum_over values)) ≤ℤ gross_over values
sums_within [] h = omega (arith, ints)
sums_within (b ∷ values) h = omega (arith, ints, h.0, sums_within values h.1)

pub sizes_within : (values : List BucketMargin) → AllByRecursion (λ b. pos (unsigned_abs b.sum) ≤ℤ b.gross) values → sum_by (λ b. unsigned_abs b.sum) values ≤ sum_by (λ b. unsigned_abs b.gross) values
sizes_within [] h = omega arith
sizes_within (b ∷ values) h =
    omega (arith, ints, h.0, sizes_within values h.1, sum_by-cons (λ (v : BucketMargin). unsigned_abs v.sum) b values, sum_by-cons (λ (v : BucketMargin). unsigned_abs v.gross) b values)

module _ (values : List BucketMargin) (each : All (λ b. pos (unsigned_abs b.sum) ≤ℤ b.gross) values) (range : sum_by (λ b. unsigned_abs b.gross) values < 84 * 10 ^ 14) where
  by_each : AllByRecursion (λ b. pos (unsigned_abs b.sum) ≤ℤ b.gross) values
  by_each = recursion_from_All (λ (b : BucketMargin). pos (unsigned_abs b.sum) ≤ℤ b.gross) values each

  pub sums_small : sum_by (λ b. unsigned_abs b.sum) values < 84 * 10 ^ 14
  sums_small = omega (arith, sizes_within values by_each, range)

  pub summed : pos (unsigned_abs (sum_over values)) ≤ℤ gross_over values
  summed = sums_within values by_each

  pub gross_size : unsigned_abs (gross_over values) ≤ sum_by (λ b. unsigned_abs b.gross) values
  gross_size = total_size (λ (b : BucketMargin). b.gross) values

  pub gross_below : gross_over values <ℤ pos (84 * 10 ^ 14)
  gross_below = omega (arith, ints, gross_size, range)

  pub sum_fits : FitsSigned w128 (sum_over values)
  sum_fits = fits_signed_from_abs w128 (sum_over values) (omega (arith, ints, summed, gross_below))

-- the sum of the risks and the scaled root
pub record PartSum (sum scaled root : ℤ) (n : ℕ) : Type 0 where
  pub fits : FitsSigned w128 (sum +ℤ scaled)
  pub size : int_max (sum +ℤ scaled) (pos 0) ≤ℤ pos (n + 10 * unsigned_abs root)

pub part_sum : (sum gross scaled root : ℤ) (n : ℕ) → pos (unsigned_abs sum) ≤ℤ gross → unsigned_abs gross ≤ n → n < 84 * 10 ^ 14 → pos 0 ≤ℤ scaled → scaled ≤ℤ pos (10 * unsigned_abs root) → pos 0 ≤ℤ root → root <ℤ pos (84 * 10 ^ 14) → PartSum sum scaled root n
part_sum sum gross scaled root n within size range low high root_low root_high = record {
  fits = fits_signed_from_abs w128 (sum +ℤ scaled) (omega (arith, ints, within, size, range, low, high, root_low, root_high));
  size = omega (arith, ints, clamps, within, size, low, high);
}

-- a part is at most its buckets' gross sizes and ten times their margins
pub bound_from : (values read again : List BucketMargin) (root part : ℤ) → read ≡ values → again ≡ values → pos 0 ≤ℤ root → root ≤ℤ pos (sum_by (λ b. unsigned_abs b.k) read) → part ≤ℤ pos (sum_by (λ b. unsigned_abs b.gross) again + 10 * unsigned_abs root) → part ≤ℤ pos (bound_of values)
bound_from values read again root part is is_again low high bound =
    omega (
      arith,
      ints,
      low,
      high,
      bound,
      ap (sum_by (λ (b : BucketMargin). unsigned_abs b.k)) is,
      ap (sum_by (λ (b : BucketMargin). unsigned_abs b.gross)) is_again,
    )

-- two parts together
pub record Together (first second : ℤ) (bound : ℕ) : Type 0 where
  pub fits : FitsSigned w128 (first +ℤ second)
  pub low : pos 0 ≤ℤ (first +ℤ second)
  pub size : (first +ℤ second) ≤ℤ pos (25 * bound)

pub together : (first second : ℤ) (a b gross margins : ℕ) → pos 0 ≤ℤ first → pos 0 ≤ℤ second → first ≤ℤ pos a → second ≤ℤ pos b → a + b ≤ gross + 10 * margins → gross < 84 * 10 ^ 14 → margins < 84 * 10 ^ 14 → Together first second (gross + 10 * margins)
together first second a b gross margins first_low second_low first_high second_high all gross_small margins_small = record {
  fits = fits_signed_from_abs w128 (first +ℤ second) (omega (arith, ints, first_low, second_low, first_high, second_high, all, gross_small, margins_small));
  low = omega (arith, ints, first_low, second_low);
  size = omega (arith, ints, first_high, second_high, all);
}

pub margins_low : (values : List BucketMargin) → AllByRecursion (λ b. pos 0 ≤ℤ b.k) values → pos 0 ≤ℤ margin_over values
margins_low [] h = omega (arith, ints)
margins_low (b ∷ values) h = omega (arith, ints, h.0, margins_low values h.1)

pub margins_are : {A : Type 0} (parts : List (Part A)) → margin_over (map (λ b. b.value) parts) ≡ total_by (λ b. (b.value).k) parts
margins_are {A} parts = total_by-map (λ (b : BucketMargin). b.k) (λ (b : Part A). b.value) parts
