-- The parts of a class that has buckets: the numbered ones and the residual one, with their sizes and their correlations.
use Rattle.std.proofs.Common.{◌≡◌, ℕ, ◌+◌, ◌<◌, ◌≤◌, List, [], ◌∷◌, ◌++◌, map, take, length, get_or, true, false, ◌==◌, refl, sym, ap, ◌∙◌, subst, ℤ, pos, unsigned_abs, All, arith}
use Rattle.std.specs.Prelude.{sum_by}
use Rattle.std.specs.List.{AllByRecursion}
use Rattle.std.specs.List.Sorted.{IsStrictlySortedBy}
use Rattle.std.proofs.lemmas.Cmp.{nat_list_cmp_total}
use Rattle.std.proofs.lemmas.List.{take_more, get_or-map, map-append}
use Rattle.std.proofs.lemmas.List.Elements.{filter-append, All-from_recursion}
use Rattle.std.proofs.lemmas.List.Sums.{sum_by-cons}
use Rattle.class_rates.proofs.MhUnits.Integers.{product_size}
use Rattle.class_rates.proofs.MhUnits.Roundings.{correlation_size}
use Rattle.class_rates.specs.SimmKinds.declared.bucket.Bucket.{Bucket}
use Rattle.class_rates.specs.SimmKinds.declared.bucket.Bucket.TheVariants as bucket
use Rattle.class_rates.specs.SimmKinds.Order.{name_cmp, bucket_numbers, bucket_cmp, same_bucket}
use Rattle.class_rates.specs.SimmRules.declared.values.BucketMargin.{BucketMargin}
use Rattle.class_rates.specs.SimmRules.Lookups.{at_row, six}
use Rattle.class_rates.specs.SimmRules.Concentration.{one}
use Rattle.class_rates.specs.SimmRules.Bucket.{root_of, combined}
use Rattle.class_rates.specs.SimmRules.Across.{Part, outer, is_residual, numbered, residual, place_among, gamma_squared}
use Rattle.class_rates.specs.SimmParams.Weighed.{AreCorrelations}
use Rattle.class_rates.specs.PairSums.PairTotal.{outer_total}
use Rattle.class_rates.specs.PairSums.WithItself.{with_itself}
use Rattle.class_rates.proofs.PairSums.Itself.{with_itself-symmetric, with_itself-at_most_one}
use Rattle.class_margin.proofs.rates_delta.Lists.{same_place_by}
use Rattle.class_margin.specs.Parts.{as_parts}
use Rattle.class_margin.specs.names_delta.Combine.{margins_of, places_of, gamma_at}
use Rattle.class_margin.proofs.names_delta.Parts.{each_numbered, numbered_ascend}
use Rattle.class_margin.specs.curvature.Listed.{squared_at}
use Rattle.class_margin.proofs.curvature.Outer.{outer_by}

abbrev Whole : Type 0
Whole = Bucket × BucketMargin

abbrev part_in : Whole → List (Part Bucket)
part_in part = as_parts (part ∷ [])

-- ---- the residual bucket's value

append_none : {X : Type 0} (xs : List X) → xs ++ [] ≡ xs
append_none [] = refl
append_none (x ∷ xs) = ap (λ ys. x ∷ ys) (append_none xs)

residual_more : (ps : List Whole) (i : ℕ) (d : Whole) → i < length ps → residual (as_parts (take (i + 1) ps)) ≡ residual (as_parts (take i ps)) ++ residual (part_in (get_or ps i d))
residual_more ps i d h =
    ap residual
    (ap as_parts (take_more ps i d h) ∙ map-append (λ (part : Whole). record { at = part.0; value = part.1 }) (take i ps) (get_or ps i d ∷ []))
    ∙ filter-append (λ (b : Part Bucket). is_residual b.at) (as_parts (take i ps)) (part_in (get_or ps i d))

own_value : (part : Whole) → is_residual part.0 ≡ true → margins_of (residual (part_in part)) ≡ part.1 ∷ []
own_value (bucket.Number n, m) h = absurd (cc)
own_value (bucket.Residual, m) h = refl

no_value : (part : Whole) → is_residual part.0 ≡ false → margins_of (residual (part_in part)) ≡ []
no_value (bucket.Number n, m) h = refl
no_value (bucket.Residual, m) h = absurd (cc)

values_more : (ps : List Whole) (i : ℕ) (part : Whole) → i < length ps → part ≡ get_or ps i part → margins_of (residual (as_parts (take (i + 1) ps))) ≡ margins_of (residual (as_parts (take i ps))) ++ margins_of (residual (part_in part))
values_more ps i part h at =
    ap margins_of (residual_more ps i part h) ∙ map-append (λ (b : Part Bucket). b.value) (residual (as_parts (take i ps))) (residual (part_in (get_or ps i part)))
    ∙ ap (λ p. margins_of (residual (as_parts (take i ps))) ++ margins_of (residual (part_in p))) (sym at)

-- those that have been read
pub record AreResidual (parts : List Whole) (values : List BucketMargin) : Type 0 where
  pub are : values ≡ margins_of (residual (as_parts parts))

pub residual_next : (ps : List Whole) (i : ℕ) (part : Whole) (values more : List BucketMargin) → i < length ps → part ≡ get_or ps i part → is_residual part.0 ≡ true → AreResidual (take i ps) values → more ≡ values ++ part.1 ∷ [] → AreResidual (take (i + 1) ps) more
residual_next ps i part values more h at e so_far grown = record {
  are = grown ∙ ap (λ vs. vs ++ part.1 ∷ []) so_far.are ∙ ap (λ vs. margins_of (residual (as_parts (take i ps))) ++ vs) (sym (own_value part e)) ∙ sym (values_more ps i part h at);
}

pub residual_skip : (ps : List Whole) (i : ℕ) (part : Whole) (values : List BucketMargin) → i < length ps → part ≡ get_or ps i part → is_residual part.0 ≡ false → AreResidual (take i ps) values → AreResidual (take (i + 1) ps) values
residual_skip ps i part values h at e so_far = record {
  are = so_far.are ∙ sym (append_none (margins_of (residual (as_parts (take i ps))))) ∙ ap (λ vs. margins_of (residual (as_parts (take i ps))) ++ vs) (sym (no_value part e)) ∙ sym (values_more ps i part h at);
}

-- ---- sizes

module _ (f : BucketMargin → ℕ) where
  abbrev in_numbered : List (Part Bucket) → ℕ
  in_numbered parts = sum_by f (margins_of (numbered parts))

  abbrev in_residual : List (Part Bucket) → ℕ
  in_residual parts = sum_by f (margins_of (residual parts))

  split_one : (part : Whole) (rest : List (Part Bucket)) → in_numbered (part_in part ++ rest) + in_residual (part_in part ++ rest) ≤ f part.1 + (in_numbered rest + in_residual rest)
  split_one (bucket.Number n, m) rest = omega (arith, sum_by-cons f m (margins_of (numbered rest)))
  split_one (bucket.Residual, m) rest = omega (arith, sum_by-cons f m (margins_of (residual rest)))

  -- the numbered values and the residual one are no more than all of them
  pub split_sizes : (ps : List Whole) → sum_by f (margins_of (numbered (as_parts ps))) + sum_by f (margins_of (residual (as_parts ps))) ≤ sum_by (λ part. f part.1) ps
  split_sizes [] = omega arith
  split_sizes (part ∷ ps) = omega (arith, split_one part (as_parts ps), split_sizes ps, sum_by-cons (λ (p : Whole). f p.1) part ps)

-- ---- what is so of each value

residual_own : (P : BucketMargin → Type 0) (part : Whole) (rest : List (Part Bucket)) → P part.1 → AllByRecursion P (margins_of (residual rest)) → AllByRecursion P (margins_of (residual (part_in part ++ rest)))
residual_own P (bucket.Number n, m) rest p h = h
residual_own P (bucket.Residual, m) rest p h = (p, h)

each_residual : (P : BucketMargin → Type 0) (ps : List Whole) → AllByRecursion (λ part. P part.1) ps → AllByRecursion P (margins_of (residual (as_parts ps)))
each_residual P [] h = tt
each_residual P (part ∷ ps) h = residual_own P part (as_parts ps) h.0 (each_residual P ps h.1)

pub all_numbered : (P : BucketMargin → Type 0) (ps : List Whole) (values : List BucketMargin) → values ≡ margins_of (numbered (as_parts ps)) → AllByRecursion (λ part. P part.1) ps → All P values
all_numbered P ps values made h = All-from_recursion P values (subst (AllByRecursion P) (sym made) (each_numbered P ps h))

pub all_residual : (P : BucketMargin → Type 0) (ps : List Whole) (values : List BucketMargin) → values ≡ margins_of (residual (as_parts ps)) → AllByRecursion (λ part. P part.1) ps → All P values
all_residual P ps values made h = All-from_recursion P values (subst (AllByRecursion P) (sym made) (each_residual P ps h))

-- ---- the correlations

module _ (gamma : List (List ℤ)) (places : List ℕ) (are : AreCorrelations gamma) where
  pub gamma_small : (i j : ℕ) → unsigned_abs (gamma_at gamma places i j) ≤ 1000000
  gamma_small i j = product_size (pos 100) (at_row gamma (get_or places i 0) (get_or places j 0)) 100 10000 (omega arith) (are.size (get_or places i 0) (get_or places j 0))

  pub squared-symmetric : (i j : ℕ) → with_itself (squared_at gamma places) i j ≡ with_itself (squared_at gamma places) j i
  squared-symmetric i j = with_itself-symmetric (squared_at gamma places) i j (ap (λ z. combined (six z) (six z)) (are.symmetric (get_or places i 0) (get_or places j 0)))

  pub squared-small : (i j : ℕ) → unsigned_abs (with_itself (squared_at gamma places) i j) ≤ 1000000
  squared-small i j = with_itself-at_most_one (squared_at gamma places) i j (correlation_size (gamma_at gamma places i j) (gamma_at gamma places i j) (gamma_small i j) (gamma_small i j))

-- ---- the root over the numbered buckets

abbrev none : Part Bucket
none = record { at = bucket.Residual; value = record { q = pos 0; k = pos 0; s = pos 0; sum = pos 0; gross = pos 0; cr = record { 0 = one } } }

module _ (listed : List Bucket) (gamma : List (List ℤ)) (ps : List Whole) (ascends : IsStrictlySortedBy bucket_cmp (map (λ part. part.0) ps)) where
  abbrev ks : List (Part Bucket)
  ks = numbered (as_parts ps)

  tells : (i j : ℕ) → i < length ks → j < length ks → same_bucket (get_or ks i none).at (get_or ks j none).at ≡ (i == j)
  tells i j l m = same_place_by name_cmp nat_list_cmp_total (λ (k : Part Bucket). bucket_numbers k.at) ks i j none (numbered_ascend ps ascends) l m

  module _ (places : List ℕ) (placed : places ≡ places_of listed (numbered (as_parts ps))) where
    place_is : (i : ℕ) → i < length ks → get_or places i 0 ≡ place_among listed (get_or ks i none).at
    place_is i l = ap (λ ns. get_or ns i 0) placed ∙ get_or-map (λ (part : Part Bucket). place_among listed part.at) ks i none 0 l

    gamma_is : (i j : ℕ) → i < length ks → j < length ks → squared_at gamma places i j ≡ gamma_squared listed gamma (get_or ks i none) (get_or ks j none)
    gamma_is i j l m =
        ap (λ z. combined z z) (ap (λ a. six (at_row gamma a (get_or places j 0))) (place_is i l) ∙ ap (λ b. six (at_row gamma (place_among listed (get_or ks i none).at) b)) (place_is j m))

    -- the root by places is the rule's by buckets
    pub numbered_root : (values : List BucketMargin) → values ≡ margins_of (numbered (as_parts ps)) → root_of (outer_total (with_itself (squared_at gamma places)) values) ≡ outer same_bucket (gamma_squared listed gamma) (numbered (as_parts ps))
    numbered_root values made = outer_by same_bucket (gamma_squared listed gamma) ks none tells (squared_at gamma places) values made gamma_is

pub by_residual : (P : BucketMargin → Type 0) (ps : List Whole) (values : List BucketMargin) → values ≡ margins_of (residual (as_parts ps)) → AllByRecursion (λ part. P part.1) ps → AllByRecursion P values
by_residual P ps values made h = subst (AllByRecursion P) (sym made) (each_residual P ps h)
