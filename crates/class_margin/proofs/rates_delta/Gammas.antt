-- The margin over currencies by the places of their buckets is the rule's.
use Rattle.std.proofs.Common.{◌≡◌, ℕ, suc, ◌<◌, ◌≤◌, List, [], ◌∷◌, map, length, get_or, Bool, true, false, ◌==◌, if◌then◌else◌, refl, sym, ap, ◌∙◌, subst, ℤ, pos, ◌+ℤ◌, ◌*ℤ◌, ◌≤ℤ◌, unsigned_abs, All, arith}
use Rattle.std.specs.List.{AllByRecursion}
use Rattle.std.specs.List.Sorted.{IsStrictlySortedBy}
use Rattle.std.proofs.lemmas.Cmp.{nat_list_cmp_total}
use Rattle.std.proofs.lemmas.List.{get_or-map, length-map}
use Rattle.std.proofs.lemmas.List.Elements.{All-from_recursion}
use Rattle.std.proofs.lemmas.Simd.{map-map}
use Rattle.class_rates.specs.SimmKinds.Order.{name_cmp, same_name}
use Rattle.class_rates.specs.SimmRules.declared.values.BucketMargin.{BucketMargin}
use Rattle.class_rates.specs.SimmRules.Params.{Params}
use Rattle.class_rates.specs.SimmRules.Lookups.{six}
use Rattle.class_rates.specs.SimmRules.Sums.{total_by, total_by_pairs}
use Rattle.class_rates.specs.SimmRules.Concentration.{one, ratio}
use Rattle.class_rates.specs.SimmRules.Bucket.{root_of, combined}
use Rattle.class_rates.specs.SimmRules.Across.{Part}
use Rattle.class_rates.specs.SimmRules.Rates.{across_currencies}
use Rattle.class_rates.specs.PairSums.PairTotal.{outer_total}
use Rattle.class_rates.proofs.PairSums.Sums.{total_by-ext}
use Rattle.class_rates.proofs.PairSums.OverLists.{outer_total-buckets}
use Rattle.class_rates.specs.WeightedBucket.declared.scaling.Scaling.TheVariants as scaling
use Rattle.class_rates.specs.WeightedBucket.declared.weighed.Weighed.{Weighed}
use Rattle.class_rates.specs.WeightedBucket.Correlated.{no_factor, cr_at}
use Rattle.class_rates.proofs.WeightedBucket.Correlations.{correlation-symmetric, correlation-small}
use Rattle.class_margin.specs.rates_delta.Range.{IsPart}
use Rattle.class_margin.specs.Parts.{as_parts}
use Rattle.class_margin.specs.rates_delta.Parts.{margin_over, AreParts}
use Rattle.class_margin.specs.rates_delta.Gamma.{as_factor, gamma_at}
use Rattle.class_rates.proofs.MeasuredBucket.Lists.{each_map}
use Rattle.class_margin.proofs.rates_delta.Lists.{same_place_by}

-- ---- what holds of each bucket

pub each_from_all : {X : Type 0} (P : X → Type 0) (xs : List X) → All P xs → AllByRecursion P xs
each_from_all P [] all = tt
each_from_all P (x ∷ xs) all = (all 0 x (omega arith), each_from_all P xs (λ i d l. all (suc i) d (omega arith)))

each_weaker : {X : Type 0} (P Q : X → Type 0) → ((x : X) → P x → Q x) → (xs : List X) → AllByRecursion P xs → AllByRecursion Q xs
each_weaker P Q f [] h = tt
each_weaker P Q f (x ∷ xs) h = (f x h.0, each_weaker P Q f xs h.1)

abbrev pub values_of : List (List ℕ × BucketMargin) → List BucketMargin
values_of buckets = map (λ b. b.1) buckets

-- what holds of a part holds of each value
pub each_value : (Q : BucketMargin → Type 0) → ((b : BucketMargin) → IsPart b → Q b) → (buckets : List (List ℕ × BucketMargin)) (values : List BucketMargin) → AreParts buckets → values ≡ values_of buckets → All Q values
each_value Q f buckets values parts is =
    All-from_recursion Q values
    (subst (AllByRecursion Q) (sym is)
    (each_map Q (λ (b : List ℕ × BucketMargin). b.1) buckets (each_weaker (λ (b : List ℕ × BucketMargin). IsPart b.1) (λ b. Q b.1) (λ b its. f b.1 its) buckets (each_from_all (λ (b : List ℕ × BucketMargin). IsPart b.1) buckets parts.each))))

-- ---- the correlations

module _ (gamma : ℤ) (values : List BucketMargin) (from_one : All (λ b. one ≤ℤ b.cr.0) values) where
  as_many : length (map as_factor values) ≡ length values
  as_many = length-map values as_factor

  factors_from_one : All (λ factor. one ≤ℤ factor.cr.0) (map as_factor values)
  factors_from_one =
      All-from_recursion (λ (factor : Weighed). one ≤ℤ factor.cr.0) (map as_factor values) (each_map (λ (factor : Weighed). one ≤ℤ factor.cr.0) as_factor values (each_from_all (λ (b : BucketMargin). one ≤ℤ b.cr.0) values from_one))

  pub gamma-symmetric : (i j : ℕ) → i < length values → j < length values → gamma_at gamma values i j ≡ gamma_at gamma values j i
  gamma-symmetric i j p q =
      correlation-symmetric scaling.Concentrated (map as_factor values) (λ i j. gamma) (length values) (sym as_many) (λ i j p q. refl) i j (omega (arith, as_many)) (omega (arith, as_many))

  pub gamma-small : unsigned_abs gamma ≤ 1000000 → (i j : ℕ) → i < length values → j < length values → unsigned_abs (gamma_at gamma values i j) ≤ 1000000
  gamma-small small i j p q =
      correlation-small scaling.Concentrated (map as_factor values) (λ i j. gamma) (length values) (sym as_many) factors_from_one (λ i j p q. small) i j (omega (arith, as_many)) (omega (arith, as_many))

-- ---- the parts

abbrev value_in : Part (List ℕ) → BucketMargin
value_in b = b.value

abbrev name_in : Part (List ℕ) → List ℕ
name_in b = b.at

values_are : (buckets : List (List ℕ × BucketMargin)) → values_of buckets ≡ map value_in (as_parts buckets)
values_are buckets = sym (map-map value_in (λ (b : List ℕ × BucketMargin). record { at = b.0; value = b.1 }) buckets)

names_are : (buckets : List (List ℕ × BucketMargin)) → map (λ b. b.0) buckets ≡ map name_in (as_parts buckets)
names_are buckets = sym (map-map name_in (λ (b : List ℕ × BucketMargin). record { at = b.0; value = b.1 }) buckets)

-- ---- the margin

chosen : (t : Bool) (c a b : ℤ) → (if t then pos 0 else (if t then one else c) *ℤ a *ℤ b) ≡ (if t then pos 0 else c *ℤ a *ℤ b)
chosen true c a b = refl
chosen false c a b = refl

module _ (p : Params) (buckets : List (List ℕ × BucketMargin)) (its : AreParts buckets) where
  abbrev ks : List (Part (List ℕ))
  ks = as_parts buckets

  abbrev none : Part (List ℕ)
  none = record { at = []; value = record { q = pos 0; k = pos 0; s = pos 0; sum = pos 0; gross = pos 0; cr = record { 0 = pos 0 } } }

  abbrev same : Part (List ℕ) → Part (List ℕ) → Bool
  same b c = same_name b.at c.at

  -- 1 of a currency with itself
  abbrev gamma_of : Part (List ℕ) → Part (List ℕ) → ℤ
  gamma_of b c = if same b c then one else across_currencies p b c

  tells : (i j : ℕ) → i < length ks → j < length ks → same (get_or ks i none) (get_or ks j none) ≡ (i == j)
  tells i j l m =
      same_place_by name_cmp nat_list_cmp_total name_in ks i j none (subst (IsStrictlySortedBy name_cmp) (names_are buckets) its.ascend) l m

  module _ (gamma : ℤ) (values : List BucketMargin) (is_gamma : gamma ≡ six p.ir.gamma) (are_values : values ≡ values_of buckets) where
    values_in : values ≡ map value_in ks
    values_in = are_values ∙ values_are buckets

    cr_is : (i : ℕ) → i < length ks → cr_at (map as_factor values) i ≡ ((get_or ks i none).value).cr.0
    cr_is i l =
        let inside : i < length values = omega (arith, ap length values_in, length-map ks value_in) in
        ap (λ (f : Weighed). f.cr.0) (get_or-map as_factor values i none.value no_factor inside)
        ∙ ap (λ vs. (get_or vs i none.value).cr.0) values_in ∙ ap (λ (v : BucketMargin). v.cr.0) (get_or-map value_in ks i none none.value l)

    correlation_is : (i j : ℕ) → i < length ks → j < length ks → gamma_at gamma values i j ≡ gamma_of (get_or ks i none) (get_or ks j none)
    correlation_is i j l m =
        ap (λ t. if t then one else combined gamma (ratio (cr_at (map as_factor values) i) (cr_at (map as_factor values) j))) (sym (tells i j l m))
        ∙ ap (λ z. if same (get_or ks i none) (get_or ks j none) then one else z)
        (ap (λ z. combined z (ratio (cr_at (map as_factor values) i) (cr_at (map as_factor values) j))) is_gamma
        ∙ ap (λ a. combined (six p.ir.gamma) (ratio a (cr_at (map as_factor values) j))) (cr_is i l)
        ∙ ap (λ b. combined (six p.ir.gamma) (ratio ((get_or ks i none).value).cr.0 b)) (cr_is j m))

    pairs_are : total_by_pairs (λ b c. if same b c then pos 0 else gamma_of b c *ℤ (b.value).s *ℤ (c.value).s) ks ≡ total_by_pairs (λ b c. if same b c then pos 0 else across_currencies p b c *ℤ (b.value).s *ℤ (c.value).s) ks
    pairs_are =
        total_by-ext (λ b. total_by (λ c. if same b c then pos 0 else gamma_of b c *ℤ (b.value).s *ℤ (c.value).s) ks) (λ b. total_by (λ c. if same b c then pos 0 else across_currencies p b c *ℤ (b.value).s *ℤ (c.value).s) ks) ks
        (λ b. total_by-ext (λ c. if same b c then pos 0 else gamma_of b c *ℤ (b.value).s *ℤ (c.value).s) (λ c. if same b c then pos 0 else across_currencies p b c *ℤ (b.value).s *ℤ (c.value).s) ks
        (λ c. chosen (same b c) (across_currencies p b c) (b.value).s (c.value).s))

    pub margin_is : root_of (outer_total (gamma_at gamma values) values) ≡ margin_over p buckets
    margin_is =
        ap root_of
        (outer_total-buckets gamma_of value_in same ks none (gamma_at gamma values) values values_in correlation_is tells
        ∙ ap (λ z. one *ℤ total_by (λ b. (b.value).k *ℤ (b.value).k) ks +ℤ z) pairs_are)
