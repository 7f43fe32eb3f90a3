-- Buckets whose thresholds pass are thick.
use Rattle.std.proofs.Common.{◌≡◌, ℕ, List, [], ◌∷◌, map, Ok, codes, decimal, ap, refl}
use Rattle.simm_params.specs.SimmRules.Params.{BucketTerms, CreditBucket, PricedBucket}
use Rattle.simm_params.specs.TomlValues.Paths.{joined}
use Rattle.simm_params.specs.declared.thresholds.ThresholdKind.{ThresholdKind}
use Rattle.simm_params.specs.declared.bucket.ClassBucket.{ClassBucket as Held}
use Rattle.simm_params.specs.Buckets.{ClassBucket}
use Rattle.simm_params.specs.Classes.{credit_bucket, priced_bucket}
use Rattle.simm_params.specs.BucketView.{terms_view, bucket_view}
use Rattle.simm_params.specs.Ranges.{IsThick}
use Rattle.simm_params.specs.ThresholdKinds.{threshold_key, threshold_in, weight_beside}
use Rattle.simm_params.specs.Thickness.{AreThickBuckets}
use Rattle.params_file.specs.Thickness.{each_passes, thick_bucket}
use Rattle.params_file.proofs.Passes.{each_passes-all, thick_at-is}

thick_bucket-is : (class : List ℕ) (kind : ThresholdKind) (number : ℕ) (b : BucketTerms) → thick_bucket class kind number b ≡ Ok tt → IsThick (weight_beside kind b.weight) (threshold_in kind b.thresholds)
unfolding thick_bucket
thick_bucket-is class kind number b h = thick_at-is (joined (class ∷ codes "bucket" ∷ decimal number ∷ threshold_key kind ∷ [])) (weight_beside kind b.weight) (threshold_in kind b.thresholds) h

pub are_thick_buckets : (class : List ℕ) (kind : ThresholdKind) (buckets : List BucketTerms) → each_passes (thick_bucket class kind) 1 buckets ≡ Ok tt → AreThickBuckets kind buckets
are_thick_buckets class kind buckets h = each_passes-all (thick_bucket class kind) _ (thick_bucket-is class kind) 1 buckets h

-- the terms of buckets are those of the buckets that are seen
pub terms-view : (bs : List Held) → map (λ (b : Held). terms_view b.terms) bs ≡ map (λ (b : ClassBucket). b.terms) (map bucket_view bs)
terms-view [] = refl
terms-view (b ∷ bs) = ap (λ l. terms_view b.terms ∷ l) (terms-view bs)

-- the terms of a class are those of its buckets
pub credit_terms-is : (bs : List ClassBucket) → map (λ (b : ClassBucket). b.terms) bs ≡ map (λ (b : CreditBucket). b.terms) (map credit_bucket bs)
credit_terms-is [] = refl
credit_terms-is (b ∷ bs) = ap (λ l. b.terms ∷ l) (credit_terms-is bs)

pub priced_terms-is : (bs : List ClassBucket) → map (λ (b : ClassBucket). b.terms) bs ≡ map (λ (b : PricedBucket). b.terms) (map priced_bucket bs)
priced_terms-is [] = refl
priced_terms-is (b ∷ bs) = ap (λ l. b.terms ∷ l) (priced_terms-is bs)
