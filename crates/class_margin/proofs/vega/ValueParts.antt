-- What is known of the value of factors whose correlations are at most 1 in size.
use Rattle.std.proofs.Common.{◌≡◌, ◌*◌, ◌≤◌, ℕ, List, sym, subst, refl, ℤ, pos, ◌≤ℤ◌, unsigned_abs}
use Rattle.std.specs.Prelude.{sum_by}
use Rattle.class_rates.specs.MhUnits.Rounding.{up, clamp}
use Rattle.class_rates.proofs.MhUnits.Roundings.{root_is, clamp_size}
use Rattle.class_rates.specs.SimmRules.Sums.{total_by}
use Rattle.class_rates.specs.SimmRules.Concentration.{one}
use Rattle.class_rates.specs.SimmRules.Bucket.{Weighted, root_of, pair_sum, weighted_sum}
use Rattle.class_rates.proofs.PairSums.RootBounds.{root_of_within}
use Rattle.class_margin.proofs.rates_delta.Sums.{not_negative, total_size, total_by-pos, pairs_size}

module _ {A : Type 0} (corr : Weighted A → Weighted A → ℤ) (small : (k l : Weighted A) → unsigned_abs (corr k l) ≤ 1000000) (fs : List (Weighted A)) where
  abbrev sizes : ℕ
  sizes = sum_by (λ f. unsigned_abs f.w) fs

  abbrev q : ℤ
  q = pair_sum corr fs

  q_size : unsigned_abs q ≤ 1000000 * (sizes * sizes)
  q_size = pairs_size corr (λ f. f.w) small fs

  pub gross_is : total_by (λ f. pos (unsigned_abs f.w)) fs ≡ pos (sum_by (λ f. unsigned_abs f.w) fs)
  gross_is = total_by-pos (λ (f : Weighted A). pos (unsigned_abs f.w)) (λ f. unsigned_abs f.w) fs (λ f. refl)

  pub k_low : pos 0 ≤ℤ root_of (pair_sum corr fs)
  k_low = (root_is (up q one)).not_negative

  pub k_most : root_of (pair_sum corr fs) ≤ℤ pos (sum_by (λ f. unsigned_abs f.w) fs)
  k_most = root_of_within q sizes q_size

  pub s_held : unsigned_abs (clamp (weighted_sum fs) (root_of (pair_sum corr fs))) ≤ unsigned_abs (root_of (pair_sum corr fs))
  s_held = let k = root_of q in subst (λ z. unsigned_abs (clamp (weighted_sum fs) z) ≤ unsigned_abs k) (sym (not_negative k k_low)) (clamp_size (weighted_sum fs) (unsigned_abs k))

  pub sum_most : unsigned_abs (weighted_sum fs) ≤ sum_by (λ f. unsigned_abs f.w) fs
  sum_most = total_size (λ f. f.w) fs
