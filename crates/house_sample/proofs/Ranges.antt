-- The parameters of the sample are within their ranges.
use Rattle.std.proofs.Common.{◌≡◌, ℕ, zero, suc, ◌<◌, ◌^◌, [], ◌∷◌, Bool, true, refl, sym, ◌∙◌, arith, ℤ, pos, ◌*ℤ◌, ◌≤ℤ◌, int_le}
use Rattle.std.specs.List.{AllByRecursion}
use Rattle.std.proofs.lemmas.Bool.{and_parts}
use Rattle.std.proofs.lemmas.Int.{ints}
use Rattle.std.proofs.lemmas.List.Elements.{All-from_recursion, All-nil}
use Rattle.simm_params.specs.TomlValues.declared.range.Range.{Range}
use Rattle.simm_params.specs.TomlValues.Ranges.{is_within}
use Rattle.simm_params.specs.SimmKinds.declared.bucket.Bucket.{Bucket}
use Rattle.simm_params.specs.SimmRules.Params.{BucketTerms, CurrencyGroup}
use Rattle.simm_params.specs.declared.thresholds.ThresholdKind.{ThresholdKind}
use Rattle.simm_params.specs.declared.thresholds.ThresholdKind.TheVariants.{Delta, Vega}
use Rattle.simm_params.specs.Ranges.{weights, correlations, thresholds, sigmas, vega_weights, hvrs, ir_hvrs, lambda_bases, IsWithin, IsThick}
use Rattle.simm_params.specs.Matrix.{entry}
use Rattle.simm_params.specs.Thickness.{IsThickRow, credit_terms, priced_terms}
use Rattle.simm_params.specs.ClassRanges.{AreTerms, IsCreditBucket, IsPricedBucket}
use Rattle.simm_params.specs.ThresholdKinds.{threshold_in, weight_beside}
use Rattle.simm_params.specs.Facts.{AreIrThresholds, IsIrParams, IsFxThreshold, IsFxParams, IsCreditParams, IsPricedParams, IsParams}
use Rattle.house_sample.specs.Parameters.{rates, exchange, pair_thresholds, terms, credit_bucket, priced_bucket, qualifying, non_qualifying, equity, commodity, sample_params}
use Rattle.house_sample.proofs.EvenMatrices.{even-matrix, even-mirrored, All-alike, alike-rates}

le_of : (a b : ℤ) → int_le a b ≡ true → a ≤ℤ b
le_of a b h = grind (arith, ints)

is_in : (range : Range) (n : ℤ) → is_within range n ≡ true → IsWithin range n
is_in range n h =
    let both = and_parts (int_le range.least n) (int_le n range.most) h in
    record { low = le_of range.least n both.0; high = le_of n range.most both.1 }

thick : (weight threshold : ℤ) → int_le (pos (10 ^ 12)) (weight *ℤ threshold) ≡ true → IsThick weight threshold
thick weight threshold h = le_of (pos (10 ^ 12)) (weight *ℤ threshold) h

one : IsWithin correlations (pos 10000)
one = is_in correlations (pos 10000) refl

-- ---- interest rates

rate_thresholds : AreIrThresholds rates rates.other
rate_thresholds = record {
  delta = record {
    range = is_in thresholds (pos 91000000) refl;
    thick_regular = All-alike (λ w. IsThick w (pos 91000000)) (pos 500000) 12 (thick (pos 500000) (pos 91000000) refl);
    thick_low = All-alike (λ w. IsThick w (pos 91000000)) (pos 150000) 12 (thick (pos 150000) (pos 91000000) refl);
    thick_high = All-alike (λ w. IsThick w (pos 91000000)) (pos 1000000) 12 (thick (pos 1000000) (pos 91000000) refl);
    thick_inflation = thick (pos 500000) (pos 91000000) refl;
  };
  vega = record { range = is_in thresholds (pos 1000000000) refl; thick = thick (pos 10000) (pos 1000000000) refl };
}

rates_are : IsIrParams rates
rates_are = record {
  curves = record {
    regular = alike-rates weights (pos 500000) 12 (is_in weights (pos 500000) refl);
    low = alike-rates weights (pos 150000) 12 (is_in weights (pos 150000) refl);
    high = alike-rates weights (pos 1000000) 12 (is_in weights (pos 1000000) refl);
  };
  inflation_weight = is_in weights (pos 500000) refl;
  basis_weight = is_in weights (pos 200000) refl;
  rho = even-matrix correlations (pos 5000) 12 one (is_in correlations (pos 5000) refl);
  rho_mirrored = even-mirrored (pos 5000) 12;
  phi = is_in correlations (pos 9800) refl;
  inflation_rho = is_in correlations (pos 4000) refl;
  basis_rho = is_in correlations (pos 100) refl;
  gamma = is_in correlations (pos 5000) refl;
  vrw = is_in vega_weights (pos 2000) refl;
  hvr = is_in ir_hvrs (pos 5000) refl;
  other = rate_thresholds;
  groups = All-nil (λ (g : CurrencyGroup). AreIrThresholds rates g.thresholds);
}

-- ---- foreign exchange

fx_threshold : IsFxThreshold exchange (pos 10000000000)
fx_threshold = record {
  range = is_in thresholds (pos 10000000000) refl;
  thick_regular = thick (pos 74000) (pos 10000000000) refl;
  thick_high = thick (pos 100000) (pos 10000000000) refl;
}

pair-at : (i j : ℕ) → i < 3 → j < 3 → entry pair_thresholds i j ≡ pos 1000000000
pair-at zero zero h k = refl
pair-at zero (suc zero) h k = refl
pair-at zero (suc (suc zero)) h k = refl
pair-at (suc zero) zero h k = refl
pair-at (suc zero) (suc zero) h k = refl
pair-at (suc zero) (suc (suc zero)) h k = refl
pair-at (suc (suc zero)) zero h k = refl
pair-at (suc (suc zero)) (suc zero) h k = refl
pair-at (suc (suc zero)) (suc (suc zero)) h k = refl
pair-at (suc (suc (suc i))) j h k = absurd (omega (arith, h))
pair-at i (suc (suc (suc j))) h k = absurd (omega (arith, k))

exchange_is : IsFxParams exchange
exchange_is =
    let vega = is_in thresholds (pos 1000000000) refl in
    let full = thick (pos 10000) (pos 1000000000) refl in
    let row : AllByRecursion (IsWithin thresholds) (pos 1000000000 ∷ pos 1000000000 ∷ pos 1000000000 ∷ []) = (vega, (vega, (vega, tt))) in
    let full_row = All-from_recursion (IsThick (pos 10000)) (pos 1000000000 ∷ pos 1000000000 ∷ pos 1000000000 ∷ []) (full, (full, (full, tt))) in
    record {
      regular_weight = is_in weights (pos 74000) refl;
      high_weight = is_in weights (pos 100000) refl;
      regular_rho = is_in correlations (pos 5000) refl;
      mixed_rho = is_in correlations (pos 5000) refl;
      high_rho = is_in correlations (pos 5000) refl;
      first_threshold = fx_threshold;
      second_threshold = fx_threshold;
      third_threshold = fx_threshold;
      vega_threshold = (row, (row, (row, tt)));
      vega_symmetric = λ i j h k. pair-at i j h k ∙ sym (pair-at j i k h);
      vega_thick = All-from_recursion IsThickRow pair_thresholds (full_row, (full_row, (full_row, tt)));
      regular_sigma = is_in sigmas (pos 162000) refl;
      mixed_sigma = is_in sigmas (pos 162000) refl;
      high_sigma = is_in sigmas (pos 162000) refl;
      vrw = is_in vega_weights (pos 4000) refl;
      hvr = is_in hvrs (pos 6000) refl;
      vol_rho = is_in correlations (pos 5000) refl;
    }

-- ---- the classes that have buckets

terms_are : (weight rho : ℤ) (id : Bucket) (curvature : Bool) → is_within weights weight ≡ true → is_within correlations rho ≡ true → AreTerms (terms weight rho id curvature)
terms_are weight rho id curvature w r = record {
  weight = is_in weights weight w;
  thresholds = record { delta = is_in thresholds (pos 100000000) refl; vega = is_in thresholds (pos 1000000000) refl };
  rho = is_in correlations rho r;
  vrw = is_in vega_weights (pos 5000) refl;
}

credit_is : (weight rho same : ℤ) (id : Bucket) → is_within weights weight ≡ true → is_within correlations rho ≡ true → is_within correlations same ≡ true → IsCreditBucket (credit_bucket weight rho same id)
credit_is weight rho same id w r s = record { terms = terms_are weight rho id true w r; same = is_in correlations same s }

priced_is : (weight sigma : ℤ) (id : Bucket) (curvature : Bool) → is_within weights weight ≡ true → is_within sigmas sigma ≡ true → IsPricedBucket (priced_bucket weight sigma id curvature)
priced_is weight sigma id curvature w s = record { terms = terms_are weight (pos 5000) id curvature w refl; sigma = is_in sigmas sigma s }

abbrev IsThickAt : ThresholdKind → BucketTerms → Type 0
IsThickAt kind b = IsThick (weight_beside kind b.weight) (threshold_in kind b.thresholds)

full_vega : IsThick (pos 10000) (pos 1000000000)
full_vega = thick (pos 10000) (pos 1000000000) refl

gamma : IsWithin correlations (pos 3000)
gamma = is_in correlations (pos 3000) refl

qualifying_is : IsCreditParams qualifying
qualifying_is =
    let full = thick (pos 100000) (pos 100000000) refl in
    let each = λ (id : Bucket). credit_is (pos 100000) (pos 4000) (pos 5000) id refl refl refl in
    record {
      ranged = record {
        some = omega arith;
        few = omega arith;
        in_order = (omega arith, (omega arith, tt));
        buckets = All-from_recursion IsCreditBucket qualifying.buckets (each _, (each _, (each _, tt)));
        gamma = even-matrix correlations (pos 3000) 2 one gamma;
      };
      gamma_mirrored = even-mirrored (pos 3000) 2;
      delta_thick = All-from_recursion (IsThickAt Delta) (credit_terms qualifying) (full, (full, (full, tt)));
      vega_thick = All-from_recursion (IsThickAt Vega) (credit_terms qualifying) (full_vega, (full_vega, (full_vega, tt)));
    }

non_qualifying_is : IsCreditParams non_qualifying
non_qualifying_is =
    let full = thick (pos 1000000) (pos 100000000) refl in
    let each = λ (id : Bucket). credit_is (pos 1000000) (pos 3000) (pos 6000) id refl refl refl in
    record {
      ranged = record {
        some = omega arith;
        few = omega arith;
        in_order = (omega arith, tt);
        buckets = All-from_recursion IsCreditBucket non_qualifying.buckets (each _, (each _, tt));
        gamma = even-matrix correlations (pos 3000) 1 one gamma;
      };
      gamma_mirrored = even-mirrored (pos 3000) 1;
      delta_thick = All-from_recursion (IsThickAt Delta) (credit_terms non_qualifying) (full, (full, tt));
      vega_thick = All-from_recursion (IsThickAt Vega) (credit_terms non_qualifying) (full_vega, (full_vega, tt));
    }

equity_is : IsPricedParams equity
equity_is =
    let full = thick (pos 300000) (pos 100000000) refl in
    let each = λ (id : Bucket) (curvature : Bool). priced_is (pos 300000) (pos 500000) id curvature refl refl in
    record {
      ranged = record {
        some = omega arith;
        few = omega arith;
        in_order = (omega arith, (omega arith, tt));
        buckets = All-from_recursion IsPricedBucket equity.buckets (each _ _, (each _ _, (each _ _, tt)));
        hvr = is_in hvrs (pos 6000) refl;
        gamma = even-matrix correlations (pos 3000) 2 one gamma;
      };
      gamma_mirrored = even-mirrored (pos 3000) 2;
      delta_thick = All-from_recursion (IsThickAt Delta) (priced_terms equity) (full, (full, (full, tt)));
      vega_thick = All-from_recursion (IsThickAt Vega) (priced_terms equity) (full_vega, (full_vega, (full_vega, tt)));
    }

commodity_is : IsPricedParams commodity
commodity_is =
    let full = thick (pos 200000) (pos 100000000) refl in
    let each = λ (id : Bucket) (curvature : Bool). priced_is (pos 200000) (pos 400000) id curvature refl refl in
    record {
      ranged = record {
        some = omega arith;
        few = omega arith;
        in_order = (omega arith, tt);
        buckets = All-from_recursion IsPricedBucket commodity.buckets (each _ _, (each _ _, tt));
        hvr = is_in hvrs (pos 6000) refl;
        gamma = even-matrix correlations (pos 3000) 2 one gamma;
      };
      gamma_mirrored = even-mirrored (pos 3000) 2;
      delta_thick = All-from_recursion (IsThickAt Delta) (priced_terms commodity) (full, (full, tt));
      vega_thick = All-from_recursion (IsThickAt Vega) (priced_terms commodity) (full_vega, (full_vega, tt));
    }

-- ---- all of them

pub sample_is : IsParams sample_params
sample_is = record {
  lambda_base = is_in lambda_bases (pos 5634897) refl;
  psi = even-matrix correlations (pos 5000) 6 one (is_in correlations (pos 5000) refl);
  psi_mirrored = even-mirrored (pos 5000) 6;
  ir = rates_are;
  fx = exchange_is;
  credit_q = qualifying_is;
  credit_nq = non_qualifying_is;
  equity = equity_is;
  commodity = commodity_is;
  base_weight = is_in weights (pos 100000) refl;
  base_rho = is_in correlations (pos 3000) refl;
}
