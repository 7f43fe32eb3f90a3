-- The names of a bucket as they are weighed: what is known of their factors, and their correlations.
use Rattle.std.proofs.Common.{◌≡◌, ◌^◌, ℕ, ◌*◌, ◌≤◌, List, [], map, Bool, true, false, if◌then◌else◌, All, refl, sym, ap, ◌∙◌, ℤ, pos, ◌≤ℤ◌, unsigned_abs, arith, mul-le-mul_left}
use Rattle.std.specs.List.{AllByRecursion}
use Rattle.std.specs.List.Sorted.{IsStrictlySortedBy}
use Rattle.std.proofs.lemmas.Cmp.{nat_list_cmp_total}
use Rattle.std.proofs.lemmas.Int.{ints}
use Rattle.std.proofs.lemmas.List.Elements.{All-from_recursion}
use Rattle.std.proofs.lemmas.Simd.{map-map}
use Rattle.measured_bucket.specs.MhUnits.declared.quantities.Rate4.{Rate4}
use Rattle.measured_bucket.specs.SimmKinds.Order.{name_cmp, same_name}
use Rattle.measured_bucket.specs.SimmRules.Params.{PricedBucket}
use Rattle.measured_bucket.specs.SimmRules.Lookups.{six}
use Rattle.measured_bucket.specs.SimmRules.Risks.{Amount}
use Rattle.measured_bucket.specs.SimmRules.Bucket.{Weighted}
use Rattle.measured_bucket.specs.SimmRules.Priced.{name_rho}
use Rattle.measured_bucket.specs.SimmParams.Ranges.{hvrs, IsWithin}
use Rattle.measured_bucket.specs.SimmParams.Weighed.{IsWeighedPriced}
use Rattle.measured_bucket.specs.WeightedBucket.declared.weighed.Weighed.{Weighed}
use Rattle.measured_bucket.specs.WeightedBucket.Group.{CanConcentrate}
use Rattle.measured_bucket.specs.Measured.{AreCorrelated}
use Rattle.measured_bucket.specs.Runs.{AreTotals}
use Rattle.measured_bucket.specs.Values.{weighed_as, AreTerms, IsInRange, IsSmall}
use Rattle.measured_bucket.specs.Vega.{vega_alone}
use Rattle.measured_bucket.specs.declared.tenor_scale.TenorScale.TheVariants as scale
use Rattle.measured_bucket.proofs.Columns.{IsClose, IsColumn, column_of_close, is_column}
use Rattle.measured_bucket.proofs.Curved.{risk_close}
use Rattle.measured_bucket.proofs.Lists.{each_weaker, each_unmap, maps_agree}
use Rattle.measured_bucket.proofs.Sizes.{size_all, size_is, size_small, each_small}
use Rattle.measured_bucket.proofs.Valued.{correlated}
use Rattle.measured_bucket.proofs.Vegas.{alone_concentrates, alone_close, vega_close}
use Rattle.class_priced.specs.Names.{AreNames}
use Rattle.class_priced.specs.Weights.{delta_name, vega_name, curved_at, curved_name}

-- ---- correlated: any two different names alike

pub names_correlated : (b : PricedBucket) (W : Amount (List ℕ) → Weighted (List ℕ)) → ((a : Amount (List ℕ)) → (W a).of ≡ a.of) → (names : List (Amount (List ℕ))) → IsStrictlySortedBy name_cmp (map (λ a. a.of) names)
    → (rho : ℤ) → rho ≡ six (b.terms).rho → AreCorrelated same_name (name_rho b) (map W names) (λ _ _. rho)
names_correlated b W of_same names ascends rho is =
    correlated name_cmp nat_list_cmp_total same_name (λ x y. refl) (name_rho b) W of_same (record { of = []; amount = pos 0 }) names ascends (λ _ _. rho) (λ i j l m apart. is)

-- ---- delta

module _ (b : PricedBucket) (terms : AreTerms (b.terms).weight ((b.terms).thresholds).delta) (names : List (Amount (List ℕ))) (are : AreNames (b.terms).weight names) where
  abbrev weight : List ℕ → ℤ
  weight x = (b.terms).weight

  low : (x : List ℕ) → pos 0 ≤ℤ weight x
  low x = (terms.weighed).weight_low

  small : AllByRecursion (λ a. IsSmall (b.terms).weight a.amount) names
  small = each_small weight low names are.range

  pub names_concentrate : AllByRecursion (λ a. CanConcentrate a.amount ((b.terms).thresholds).delta) names
  names_concentrate =
      each_weaker (λ (a : Amount (List ℕ)). IsSmall (b.terms).weight a.amount) (λ a. CanConcentrate a.amount ((b.terms).thresholds).delta) (λ a its. alone_concentrates (b.terms).weight ((b.terms).thresholds).delta a.amount terms its) names small

  pub names_weigh : AllByRecursion (λ a. unsigned_abs a.amount * unsigned_abs (b.terms).weight ≤ 10 ^ 28) names
  names_weigh = each_weaker (λ (a : Amount (List ℕ)). IsSmall (b.terms).weight a.amount) (λ a. unsigned_abs a.amount * unsigned_abs (b.terms).weight ≤ 10 ^ 28) (λ a its. omega (arith, its)) names small

  close : AllByRecursion (λ a. IsClose (10 ^ 10) 346999999 1 weight a (weighed_as (delta_name b a))) names
  close =
      each_weaker (λ (a : Amount (List ℕ)). IsSmall (b.terms).weight a.amount) (λ a. IsClose (10 ^ 10) 346999999 1 weight a (weighed_as (delta_name b a))) (λ a its. alone_close weight a ((b.terms).thresholds).delta terms its) names small

  pub delta_column : (factors : List Weighed) → factors ≡ map (λ a. weighed_as (delta_name b a)) names → IsColumn (10 ^ 10) 346999999 1 (λ (x : List ℕ). (b.terms).weight) names (delta_name b) factors
  delta_column factors made =
      column_of_close (10 ^ 10) 346999999 1 weight low (delta_name b) names close (λ gross h. omega (arith, h, size_small weight low names are.range, (are.range).few)) factors made

-- ---- volatilities

module _ (b : PricedBucket) (weighed : IsWeighedPriced b) (sums : List (Amount (List ℕ))) where
  abbrev sigma : List ℕ → ℤ
  sigma x = b.sigma

  sigma_low : (x : List ℕ) → pos 0 ≤ℤ sigma x
  sigma_low x = (weighed.sigma).low

  -- vega
  module _ (are : AreTotals name_cmp scale.Even (λ (x : List ℕ). b.sigma) sums) (hvr : ℤ) (ratio : IsWithin hvrs hvr) where
    range : IsInRange sigma sums
    range = record { few = are.few; small = are.weighed }

    pub sums_small : AllByRecursion (λ a. IsSmall b.sigma a.amount) sums
    sums_small = each_small sigma sigma_low sums range

    vegas_close : AllByRecursion (λ a. IsClose (10 ^ 10) 832799998 695 sigma a (weighed_as (vega_name hvr b a))) sums
    vegas_close =
        each_weaker (λ (a : Amount (List ℕ)). IsSmall b.sigma a.amount) (λ a. IsClose (10 ^ 10) 832799998 695 sigma a (weighed_as (vega_name hvr b a)))
        (λ a its. vega_close sigma a hvr (b.terms).vrw ((b.terms).thresholds).vega ratio (weighed.terms).vrw (weighed.terms).vega its) sums sums_small

    pub vega_column : (factors : List Weighed) → factors ≡ map (λ a. weighed_as (vega_name hvr b a)) sums → IsColumn (10 ^ 10) 832799998 695 (λ (x : List ℕ). b.sigma) sums (vega_name hvr b) factors
    vega_column factors made =
        column_of_close (10 ^ 10) 832799998 695 sigma sigma_low (vega_name hvr b) sums vegas_close (λ gross h. omega (arith, h, size_small sigma sigma_low sums range, are.few)) factors made

  -- curvature
  chosen_size : (curvature : Bool) → unsigned_abs (if curvature then b.sigma else pos 0) ≤ unsigned_abs b.sigma
  chosen_size true = omega arith
  chosen_size false = omega arith

  curved_close : (a : Amount (List ℕ)) → IsClose 219000000 1 1 sigma a (weighed_as (curved_name b a))
  curved_close a = record {
    from_one = omega (arith, ints);
    below = omega (arith, ints);
    close = omega (arith, risk_close (curved_at b) a.amount, mul-le-mul_left (unsigned_abs a.amount) (chosen_size (b.terms).curvature));
  }

  module _ (are : AreTotals name_cmp scale.Curved (λ (x : List ℕ). b.sigma) sums) where
    sizes : size_all sigma sums ≤ 10 ^ 17 * 10950
    sizes = omega (arith, ints, are.weighed, size_is sigma sigma_low sums)

    pub curved_column : (factors : List Weighed) → factors ≡ map (λ a. weighed_as (curved_name b a)) sums → IsColumn 219000000 1 1 (λ (x : List ℕ). b.sigma) sums (curved_name b) factors
    curved_column factors made = is_column 219000000 1 1 sigma sigma_low (curved_name b) curved_close sums (λ gross h. omega (arith, h, sizes, are.few)) factors made

-- ---- as the code has them

pub all_of_views : {N : Type 0} (view : N → Amount (List ℕ)) (P : ℤ → Type 0) (nets : List N) → AllByRecursion (λ a. P a.amount) (map view nets) → All (λ n. P (view n).amount) nets
all_of_views view P nets h = All-from_recursion (λ n. P (view n).amount) nets (each_unmap (λ (a : Amount (List ℕ)). P a.amount) view nets h)

-- factors that were made of the amounts alone
pub made_of_views : {N : Type 0} (view : N → Amount (List ℕ)) (W : ℤ → Weighed) (V : Amount (List ℕ) → Weighted (List ℕ)) → ((a : Amount (List ℕ)) → W a.amount ≡ weighed_as (V a)) → (nets : List N) (factors : List Weighed) → factors ≡ map (λ n. W (view n).amount) nets → factors ≡ map (λ a. weighed_as (V a)) (map view nets)
made_of_views view W V e nets factors made =
    made ∙ maps_agree (λ n. W (view n).amount) (λ n. weighed_as (V (view n))) (λ n. e (view n)) nets ∙ sym (map-map (λ (a : Amount (List ℕ)). weighed_as (V a)) view nets)

-- vega risks by terms that are those of the bucket
pub vegas_of_views : {N : Type 0} (view : N → Amount (List ℕ)) (nets : List N) (factors : List Weighed) (hvr hvr' sigma sigma' weight weight' : Rate4) (threshold threshold' : ℤ) → hvr ≡ hvr' → sigma ≡ sigma' → weight ≡ weight' → threshold ≡ threshold'
    → factors ≡ map (λ n. vega_alone hvr.0 sigma.0 weight.0 threshold (view n).amount) nets → factors ≡ map (λ n. vega_alone hvr'.0 sigma'.0 weight'.0 threshold' (view n).amount) nets
vegas_of_views view nets factors hvr hvr' sigma sigma' weight weight' threshold threshold' h s w t made =
    made ∙ ap (λ (z : Rate4). map (λ n. vega_alone z.0 sigma.0 weight.0 threshold (view n).amount) nets) h
    ∙ ap (λ (z : Rate4). map (λ n. vega_alone hvr'.0 z.0 weight.0 threshold (view n).amount) nets) s
    ∙ ap (λ (z : Rate4). map (λ n. vega_alone hvr'.0 sigma'.0 z.0 threshold (view n).amount) nets) w
    ∙ ap (λ z. map (λ n. vega_alone hvr'.0 sigma'.0 weight'.0 z (view n).amount) nets) t
