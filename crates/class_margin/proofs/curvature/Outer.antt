-- The margin over buckets by their places is the rule's.
use Rattle.std.proofs.Common.{◌≡◌, ℕ, ◌<◌, List, map, length, get_or, Bool, true, false, ◌==◌, if◌then◌else◌, refl, sym, ap, ◌∙◌, ℤ, pos, ◌+ℤ◌, ◌*ℤ◌}
use Rattle.class_rates.specs.SimmRules.declared.values.BucketMargin.{BucketMargin}
use Rattle.class_rates.specs.SimmRules.Sums.{total_by, total_by_pairs}
use Rattle.class_rates.specs.SimmRules.Concentration.{one}
use Rattle.class_rates.specs.SimmRules.Bucket.{root_of}
use Rattle.class_rates.specs.SimmRules.Across.{Part, outer}
use Rattle.class_rates.specs.PairSums.PairTotal.{outer_total}
use Rattle.class_rates.specs.PairSums.WithItself.{with_itself}
use Rattle.class_rates.proofs.PairSums.OverLists.{outer_total-buckets}
use Rattle.class_rates.proofs.PairSums.Sums.{total_by-ext}

chosen : (t : Bool) (c a b : ℤ) → (if t then pos 0 else (if t then one else c) *ℤ a *ℤ b) ≡ (if t then pos 0 else c *ℤ a *ℤ b)
chosen true c a b = refl
chosen false c a b = refl

-- `same` tells the buckets apart, and G is the correlation of two different ones
module _ {A : Type 0} (same : A → A → Bool) (G : Part A → Part A → ℤ) (ks : List (Part A)) (none : Part A) (tells : (i j : ℕ) → i < length ks → j < length ks → same (get_or ks i none).at (get_or ks j none).at ≡ (i == j)) where
  abbrev itself_or : Part A → Part A → ℤ
  itself_or k l = if same k.at l.at then one else G k l

  abbrev pair : (Part A → Part A → ℤ) → Part A → Part A → ℤ
  pair corr k l = if same k.at l.at then pos 0 else corr k l *ℤ (k.value).s *ℤ (l.value).s

  pairs_same : total_by_pairs (pair itself_or) ks ≡ total_by_pairs (pair G) ks
  pairs_same =
      total_by-ext (λ k. total_by (pair itself_or k) ks) (λ k. total_by (pair G k) ks) ks
      (λ k. total_by-ext (pair itself_or k) (pair G k) ks (λ l. chosen (same k.at l.at) (G k l) (k.value).s (l.value).s))

  corr_is : (corr : ℕ → ℕ → ℤ) → ((i j : ℕ) → i < length ks → j < length ks → corr i j ≡ G (get_or ks i none) (get_or ks j none)) → (i j : ℕ) → i < length ks → j < length ks → with_itself corr i j ≡ itself_or (get_or ks i none) (get_or ks j none)
  corr_is corr is i j l m =
      ap (λ t. if t then one else corr i j) (sym (tells i j l m)) ∙ ap (λ z. if same (get_or ks i none).at (get_or ks j none).at then one else z) (is i j l m)

  pub outer_by : (corr : ℕ → ℕ → ℤ) (values : List BucketMargin) → values ≡ map (λ k. k.value) ks → ((i j : ℕ) → i < length ks → j < length ks → corr i j ≡ G (get_or ks i none) (get_or ks j none)) → root_of (outer_total (with_itself corr) values) ≡ outer same G ks
  outer_by corr values made is =
      ap root_of
      (outer_total-buckets itself_or (λ (k : Part A). k.value) (λ k l. same k.at l.at) ks none (with_itself corr) values made (corr_is corr is) tells
      ∙ ap (λ z. one *ℤ total_by (λ b. (b.value).k *ℤ (b.value).k) ks +ℤ z) pairs_same)
