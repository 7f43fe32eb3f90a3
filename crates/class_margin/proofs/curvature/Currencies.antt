-- Classes of one part: the buckets of currencies, and the one bucket of foreign exchange.
use Rattle.std.proofs.Common.{◌≡◌, ℕ, ◌≤◌, List, [], map, refl, sym, ap, ◌∙◌, subst, ℤ, pos, unsigned_abs, All}
use Rattle.std.specs.Prelude.{sum_by}
use Rattle.std.specs.List.{AllByRecursion}
use Rattle.std.specs.List.Sorted.{IsStrictlySortedBy}
use Rattle.std.proofs.lemmas.Cmp.{nat_list_cmp_total}
use Rattle.std.proofs.lemmas.List.Elements.{All-from_recursion}
use Rattle.std.proofs.lemmas.Simd.{map-map}
use Rattle.class_rates.specs.SimmKinds.Order.{name_cmp, same_name}
use Rattle.class_rates.specs.SimmRules.declared.values.BucketMargin.{BucketMargin}
use Rattle.class_rates.specs.SimmRules.Bucket.{root_of}
use Rattle.class_rates.specs.SimmRules.Across.{Part, outer}
use Rattle.class_rates.specs.PairSums.PairTotal.{outer_total}
use Rattle.class_rates.specs.PairSums.WithItself.{with_itself}
use Rattle.class_rates.proofs.PairSums.Itself.{with_itself-symmetric, with_itself-at_most_one}
use Rattle.class_margin.proofs.rates_delta.Lists.{same_place_by}
use Rattle.class_rates.proofs.MeasuredBucket.Lists.{each_map}
use Rattle.class_rates.proofs.MeasuredBucket.Sizes.{sum_by-map}
use Rattle.class_margin.specs.Parts.{as_parts}
use Rattle.class_margin.proofs.curvature.Outer.{outer_by}

-- ---- parts as the rule has them

module _ {A : Type 0} where
  abbrev pub values_of : List (A × BucketMargin) → List BucketMargin
  values_of parts = map (λ part. part.1) parts

  pub values_are : (parts : List (A × BucketMargin)) → map (λ part. part.1) parts ≡ map (λ b. b.value) (as_parts parts)
  values_are parts = sym (map-map (λ (b : Part A). b.value) (λ (part : A × BucketMargin). record { at = part.0; value = part.1 }) parts)

  pub names_are : (parts : List (A × BucketMargin)) → map (λ part. part.0) parts ≡ map (λ b. b.at) (as_parts parts)
  names_are parts = sym (map-map (λ (b : Part A). b.at) (λ (part : A × BucketMargin). record { at = part.0; value = part.1 }) parts)

-- ---- the root over currencies

abbrev name_in : Part (List ℕ) → List ℕ
name_in b = b.at

abbrev none : Part (List ℕ)
none = record { at = []; value = record { q = pos 0; k = pos 0; s = pos 0; sum = pos 0; gross = pos 0; cr = record { 0 = pos 0 } } }

-- the root by places is the rule's by currencies
pub currencies_root : (gamma g : ℤ) (parts : List (List ℕ × BucketMargin)) (values : List BucketMargin) → IsStrictlySortedBy name_cmp (map (λ part. part.0) parts) → values ≡ map (λ part. part.1) parts → g ≡ gamma → root_of (outer_total (with_itself (λ _ _. g)) values) ≡ outer same_name (λ b c. gamma) (as_parts parts)
currencies_root gamma g parts values ascends made is =
    let ks = as_parts parts in
    outer_by same_name (λ b c. gamma) ks none
    (λ i j l m. same_place_by name_cmp nat_list_cmp_total name_in ks i j none (subst (IsStrictlySortedBy name_cmp) (names_are parts) ascends) l m)
    (λ _ _. g) values (made ∙ values_are parts) (λ i j l m. is)

pub even-symmetric : (g : ℤ) (i j : ℕ) → with_itself (λ _ _. g) i j ≡ with_itself (λ _ _. g) j i
even-symmetric g i j = with_itself-symmetric (λ _ _. g) i j refl

pub even-small : (g : ℤ) → unsigned_abs g ≤ 1000000 → (i j : ℕ) → unsigned_abs (with_itself (λ _ _. g) i j) ≤ 1000000
even-small g h i j = with_itself-at_most_one (λ _ _. g) i j h

-- ---- what is so of each value, and their sizes

module _ {A : Type 0} where
  pub by_values : (P : BucketMargin → Type 0) (parts : List (A × BucketMargin)) (values : List BucketMargin) → values ≡ map (λ part. part.1) parts → AllByRecursion (λ part. P part.1) parts → AllByRecursion P values
  by_values P parts values made h = subst (AllByRecursion P) (sym made) (each_map P (λ (part : A × BucketMargin). part.1) parts h)

  pub all_values : (P : BucketMargin → Type 0) (parts : List (A × BucketMargin)) (values : List BucketMargin) → values ≡ map (λ part. part.1) parts → AllByRecursion (λ part. P part.1) parts → All P values
  all_values P parts values made h = All-from_recursion P values (by_values P parts values made h)

  pub values_size : (f : BucketMargin → ℕ) (parts : List (A × BucketMargin)) (values : List BucketMargin) → values ≡ map (λ part. part.1) parts → sum_by f values ≡ sum_by (λ part. f part.1) parts
  values_size f parts values made = ap (sum_by f) made ∙ sum_by-map f (λ (part : A × BucketMargin). part.1) parts
