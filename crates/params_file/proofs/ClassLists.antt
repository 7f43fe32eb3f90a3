-- The buckets of a class seen as those of credit, or of equity and commodities, with each number in its range.
use Rattle.std.proofs.Common.{◌≡◌, ℕ, Bool, cond, ℤ, ◌+◌, List, [], ◌∷◌, map, refl}
use Rattle.std.specs.List.{fold, count_by}
use Rattle.std.proofs.lemmas.List.{length-map}
use Rattle.std.proofs.lemmas.List.Elements.{All-map}
use Rattle.std.proofs.lemmas.Simd.{map-map}
use Rattle.params_file.specs.declared.bucket_form.OwnRate.TheVariants.{Same, Sigma}
use Rattle.simm_params.specs.Ranges.{correlations, hvrs, IsWithin}
use Rattle.simm_params.specs.Matrix.{IsMatrix}
use Rattle.simm_params.specs.Buckets.{ClassBucket, AreInOrder, is_numbered, numbered_count}
use Rattle.simm_params.specs.Classes.{credit_bucket, priced_bucket}
use Rattle.simm_params.specs.ClassRanges.{IsCreditBucket, IsPricedBucket, IsRangedCredit, IsRangedPriced}
use Rattle.params_file.specs.ClassRanges.{AreClassBuckets}

module _ {A B : Type 0} (p : B → Bool) (f : A → B) where
  count_from-map : (n : ℕ) (xs : List A) → fold (λ a x. a + cond (p x) 1 0) n (map f xs) ≡ fold (λ a x. a + cond (p (f x)) 1 0) n xs
  count_from-map n [] = refl
  count_from-map n (x ∷ xs) = count_from-map (n + cond (p (f x)) 1 0) xs

  pub count_by-map : (xs : List A) → count_by p (map f xs) ≡ count_by (λ x. p (f x)) xs
  count_by-map xs = count_from-map 0 xs

-- ---- each number in its range

pub credit_ranged : (buckets : List ClassBucket) (gamma : List (List ℤ)) → AreClassBuckets Same buckets → AreInOrder (map (λ b. b.terms.id) buckets) → IsMatrix (numbered_count buckets) correlations gamma
    → IsRangedCredit (record { buckets = map credit_bucket buckets; gamma = gamma })
credit_ranged buckets gamma are order matrix = record {
  some = rw length-map are.some;
  few = rw length-map are.few;
  in_order = rw map-map order;
  buckets = All-map IsCreditBucket credit_bucket buckets (λ k d lt. let is = are.each k d lt in record { terms = is.terms; same = is.own });
  gamma = rw (count_by-map (λ b. is_numbered b.terms.id) credit_bucket buckets) matrix;
}

pub priced_ranged : (buckets : List ClassBucket) (hvr : ℤ) (gamma : List (List ℤ)) → AreClassBuckets Sigma buckets → AreInOrder (map (λ b. b.terms.id) buckets) → IsWithin hvrs hvr → IsMatrix (numbered_count buckets) correlations gamma
    → IsRangedPriced (record { buckets = map priced_bucket buckets; hvr = hvr; gamma = gamma })
priced_ranged buckets hvr gamma are order ratio matrix = record {
  some = rw length-map are.some;
  few = rw length-map are.few;
  in_order = rw map-map order;
  buckets = All-map IsPricedBucket priced_bucket buckets (λ k d lt. let is = are.each k d lt in record { terms = is.terms; sigma = is.own });
  hvr = ratio;
  gamma = rw (count_by-map (λ b. is_numbered b.terms.id) priced_bucket buckets) matrix;
}
