-- The sizes of the vega margins of the buckets of a class, together.
use Rattle.std.proofs.Common.{◌≡◌, ◌^◌, ◌*◌, ◌<◌, ◌≤◌, List, [], ◌∷◌, length, refl, ℤ, pos, ◌+ℤ◌, ◌*ℤ◌, ◌≤ℤ◌, unsigned_abs, arith}
use Rattle.std.specs.Prelude.{sum_by}
use Rattle.std.specs.List.{filter, AllByRecursion}
use Rattle.std.specs.List.Sorted.{IsStrictlySortedBy}
use Rattle.std.proofs.lemmas.Int.{ints}
use Rattle.std.proofs.lemmas.List.Sums.{sum_by-cons}
use Rattle.class_rates.specs.SimmKinds.declared.bucket.Bucket.{Bucket}
use Rattle.class_rates.specs.SimmKinds.Factors.{bucket_id_of}
use Rattle.class_rates.specs.SimmKinds.Order.{bucket_id_cmp}
use Rattle.class_rates.specs.SimmRules.declared.values.BucketMargin.{BucketMargin}
use Rattle.class_rates.specs.SimmRules.Sums.{total_by}
use Rattle.class_rates.specs.SimmRules.Risks.{Amount}
use Rattle.class_margin.specs.names_delta.Combine.{AreSized}
use Rattle.class_rates.proofs.MeasuredBucket.Lists.{each_weaker}
use Rattle.class_margin.proofs.delta.Bounds.{HasClass}
use Rattle.class_margin.specs.vega.Values.{IsSized}
use Rattle.class_margin.proofs.delta.Listed.{is_at}
use Rattle.class_margin.proofs.value.Sorts.{listed_ascend}
use Rattle.class_margin.proofs.Valued.{Whole, listed_ids}
use Rattle.class_margin.proofs.delta.Owned.{size, sizes_low, IsOwned, share_is, shares_within}

-- what is known of the value of a bucket
abbrev pub IsSizedIn : {X A : Type 0} → (X → ℤ) → X → List (Amount A) → BucketMargin → Type 0
IsSizedIn weight x amounts m = IsSized (λ _. weight x) amounts m

total_scaled : {X : Type 0} (f : X → ℤ) (xs : List X) → total_by (λ x. f x *ℤ pos 832799998 +ℤ pos (2000 * (695 * 10 ^ 10))) xs ≡ total_by f xs *ℤ pos 832799998 +ℤ pos (length xs * (2000 * (695 * 10 ^ 10)))
total_scaled f [] = refl
total_scaled f (x ∷ xs) = omega (arith, ints, total_scaled f xs)

module _ {X A : Type 0} (id : X → Bucket) (weight : X → ℤ) (amounts : Bucket → List (Amount A)) (xs : List X) (its : HasClass id weight amounts xs) (V : X → List (Amount A) → BucketMargin) where
  abbrev Own : Whole → Type 0
  Own = IsOwned id weight amounts xs its V (IsSizedIn weight)

  abbrev sizes : X → ℤ
  sizes = size id weight amounts xs its

  abbrev most : X → ℤ
  most x = sizes x *ℤ pos 832799998 +ℤ pos (2000 * (695 * 10 ^ 10))

  abbrev most_of : Whole → ℤ
  most_of part = total_by most (filter (is_at id (bucket_id_of part.0)) xs)

  one_small : (part : Whole) → Own part → (pos (unsigned_abs (part.1).k) *ℤ pos (10 ^ 10)) ≤ℤ most_of part
  one_small part h =
      let own : IsSized (λ _. weight h.of) (amounts (id h.of)) part.1 = h.known in
      omega (arith, ints, own.gross, own.margin, own.not_negative, its.few_each (id h.of), share_is id weight amounts xs its V (IsSizedIn weight) most part h)

  all_small : (parts : List Whole) → AllByRecursion Own parts → (pos (sum_by (λ part. unsigned_abs (part.1).k) parts) *ℤ pos (10 ^ 10)) ≤ℤ total_by most_of parts
  all_small [] h = omega (arith, ints)
  all_small (part ∷ parts) h = omega (arith, ints, one_small part h.0, all_small parts h.1, sum_by-cons (λ (q : Whole). unsigned_abs (q.1).k) part parts)

  pub parts_small : (parts : List Whole) → AllByRecursion Own parts → IsStrictlySortedBy bucket_id_cmp (listed_ids parts) → sum_by (λ part. unsigned_abs (part.1).k) parts < 84 * 10 ^ 14
  parts_small parts h s =
      let lows : AllByRecursion (λ x. pos 0 ≤ℤ most x) xs = each_weaker (λ x. pos 0 ≤ℤ sizes x) (λ x. pos 0 ≤ℤ most x) (λ x low. omega (arith, ints, low)) xs (sizes_low id weight amounts xs its) in
      omega (arith, ints, all_small parts h, shares_within id weight amounts xs its V (IsSizedIn weight) most lows parts h s, total_scaled sizes xs, its.total, its.few)

  pub parts_sized : (parts : List Whole) → AllByRecursion Own parts → IsStrictlySortedBy bucket_id_cmp (listed_ids parts) → AreSized parts
  parts_sized parts h s = record {
    ascends = listed_ascend parts s;
    not_negative = each_weaker Own (λ part. pos 0 ≤ℤ (part.1).k) (λ part o. let own : IsSized (λ _. weight o.of) (amounts (id o.of)) part.1 = o.known in own.not_negative) parts h;
    held = each_weaker Own (λ part. unsigned_abs (part.1).s ≤ unsigned_abs (part.1).k) (λ part o. let own : IsSized (λ _. weight o.of) (amounts (id o.of)) part.1 = o.known in own.held) parts h;
    in_range = omega (arith, parts_small parts h s);
  }
