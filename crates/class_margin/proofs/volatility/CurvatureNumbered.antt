-- The curvature parts of a class of which the file lists buckets: the volatilities of all together.
use Rattle.std.proofs.Common.{◌≡◌, ℕ, List, length, sym, subst, ℤ, pos, ◌≤ℤ◌, arith}
use Rattle.std.specs.Prelude.{sum_by}
use Rattle.std.specs.List.{filter, AllByRecursion}
use Rattle.std.specs.List.Sorted.{IsStrictlySortedBy}
use Rattle.std.proofs.lemmas.Int.{ints}
use Rattle.class_rates.specs.SimmKinds.declared.bucket.Bucket.{Bucket}
use Rattle.class_rates.specs.SimmKinds.Factors.{bucket_id_of}
use Rattle.class_rates.specs.SimmKinds.Order.{bucket_id_cmp}
use Rattle.class_rates.specs.SimmRules.declared.values.BucketMargin.{BucketMargin}
use Rattle.class_rates.specs.SimmRules.Sums.{total_by}
use Rattle.class_rates.specs.SimmRules.Risks.{Amount}
use Rattle.class_rates.proofs.MeasuredBucket.Lists.{each_always, each_weaker}
use Rattle.class_margin.specs.curvature.Values.{IsSizedBy, IsSized}
use Rattle.class_margin.proofs.Valued.{Whole, listed_ids}
use Rattle.class_margin.proofs.delta.Bounds.{HasClass}
use Rattle.class_margin.proofs.delta.Listed.{is_at}
use Rattle.class_margin.proofs.delta.Owned.{size, sizes_low, IsOwned, share_is, shares_within}
use Rattle.class_margin.proofs.rates_delta.Sums.{total_by-pos}
use Rattle.class_margin.proofs.volatility.CurvatureJoinable.{AreJoinable}

-- what is known of the value of a bucket
abbrev pub IsSizedIn : {X A : Type 0} → (X → ℤ) → X → List (Amount A) → BucketMargin → Type 0
IsSizedIn weight x amounts m = IsSized (λ _. weight x) amounts m

module _ {X A : Type 0} (id : X → Bucket) (weight : X → ℤ) (amounts : Bucket → List (Amount A)) (xs : List X) (its : HasClass id weight amounts xs) (V : X → List (Amount A) → BucketMargin) where
  abbrev Own : Whole → Type 0
  Own = IsOwned id weight amounts xs its V (IsSizedIn weight)

  abbrev sizes : X → ℤ
  sizes = size id weight amounts xs its

  abbrev counts : X → ℕ
  counts x = length (amounts (id x))

  abbrev size_of : Whole → ℤ
  size_of part = total_by sizes (filter (is_at id (bucket_id_of part.0)) xs)

  abbrev count_of : Whole → ℕ
  count_of part = sum_by counts (filter (is_at id (bucket_id_of part.0)) xs)

  counted : (part : Whole) → total_by (λ x. pos (counts x)) (filter (is_at id (bucket_id_of part.0)) xs) ≡ pos (count_of part)
  counted part = total_by-pos (λ x. pos (counts x)) counts (filter (is_at id (bucket_id_of part.0)) xs) (λ x i. pos (counts x))

  count_is : (part : Whole) (h : Own part) → count_of part ≡ counts h.of
  count_is part h = omega (arith, ints, counted part, share_is id weight amounts xs its V (IsSizedIn weight) (λ x. pos (counts x)) part h)

  one_sized : (part : Whole) → Own part → IsSizedBy (size_of part) (count_of part) part.1
  one_sized part h =
      subst (λ z. IsSizedBy z (count_of part) part.1) (sym (share_is id weight amounts xs its V (IsSizedIn weight) sizes part h))
      (subst (λ n. IsSizedBy (sizes h.of) n part.1) (sym (count_is part h)) h.known)

  pub joinable : total_by (λ x. pos (length (amounts (id x)))) xs ≤ℤ pos 20000 → (parts : List Whole) → AllByRecursion Own parts → IsStrictlySortedBy bucket_id_cmp (listed_ids parts) → AreJoinable parts
  joinable few parts h s =
      let counts_low : AllByRecursion (λ x. pos 0 ≤ℤ pos (counts x)) xs = each_always (λ x. pos 0 ≤ℤ pos (counts x)) (λ x. omega (arith, ints)) xs in
      record {
        size = size_of;
        count = count_of;
        each = each_weaker Own (λ part. IsSizedBy (size_of part) (count_of part) part.1) one_sized parts h;
        small = omega (arith, ints, shares_within id weight amounts xs its V (IsSizedIn weight) sizes (sizes_low id weight amounts xs its) parts h s, its.total);
        few = omega (
          arith,
          ints,
          shares_within id weight amounts xs its V (IsSizedIn weight) (λ x. pos (counts x)) counts_low parts h s,
          total_by-pos (λ part. total_by (λ x. pos (counts x)) (filter (is_at id (bucket_id_of part.0)) xs)) count_of parts counted,
          few,
        );
      }
