-- The parts of a class that has buckets: the numbered ones and the residual one.
use Rattle.std.proofs.Common.{◌≡◌, ◌^◌, ℕ, ◌+◌, ◌*◌, ◌<◌, ◌≤◌, List, [], ◌∷◌, ◌++◌, map, take, length, get_or, Bool, true, false, not, ◌==◌, if◌then◌else◌, Some, None, refl, sym, ap, ◌∙◌, subst, ℤ, pos, ◌+ℤ◌, ◌*ℤ◌, ◌≤ℤ◌, unsigned_abs, FitsSigned, arith}
use Rattle.std.specs.Prelude.{sum_by}
use Rattle.std.specs.declared.cmp.Ordering.TheVariants.{Less}
use Rattle.std.specs.Ordering.{is_eq}
use Rattle.std.specs.List.{AllByRecursion}
use Rattle.std.specs.List.Sorted.{IsStrictlySortedBy}
use Rattle.std.proofs.Math.IntN.{+ℤ_idr, +ℤ_idl}
use Rattle.std.proofs.lemmas.Cmp.{nat_list_cmp_total}
use Rattle.std.specs.Int.{w128}
use Rattle.std.proofs.lemmas.Int.{ints, fits_signed_from_abs}
use Rattle.std.proofs.lemmas.List.{take_more, get_or-map, length-map, map-append}
use Rattle.std.proofs.lemmas.List.Elements.{filter-append}
use Rattle.std.proofs.lemmas.List.Sums.{sum_by-cons, sum_by-take-le}
use Rattle.class_rates.specs.SimmKinds.declared.bucket.Bucket.{Bucket}
use Rattle.class_rates.specs.SimmKinds.declared.bucket.Bucket.TheVariants as bucket
use Rattle.class_rates.specs.SimmKinds.Order.{name_cmp, bucket_numbers, bucket_cmp, same_bucket}
use Rattle.class_rates.proofs.MhUnits.Integers.{product_size, unsigned_abs-add}
use Rattle.class_rates.specs.SimmRules.declared.values.BucketMargin.{BucketMargin}
use Rattle.class_rates.specs.SimmRules.Lookups.{at_row, six}
use Rattle.class_rates.specs.SimmRules.Sums.{total_by, total_by_pairs}
use Rattle.class_rates.specs.SimmRules.Concentration.{one}
use Rattle.class_rates.specs.SimmRules.Bucket.{root_of}
use Rattle.class_rates.specs.SimmRules.Across.{Part, outer, is_residual, numbered, residual, place_among, gamma_among}
use Rattle.class_rates.specs.SimmParams.Weighed.{AreCorrelations}
use Rattle.class_rates.specs.PairSums.PairTotal.{outer_total}
use Rattle.class_rates.specs.PairSums.WithItself.{with_itself}
use Rattle.class_rates.proofs.PairSums.Itself.{with_itself-symmetric, with_itself-at_most_one}
use Rattle.class_rates.proofs.PairSums.OverLists.{outer_total-buckets}
use Rattle.class_rates.proofs.PairSums.Sums.{total_by-ext}
use Rattle.class_margin.specs.Parts.{as_parts}
use Rattle.class_margin.specs.names_delta.Combine.{margins_of, places_of, number_place, residual_k, gamma_at}
use Rattle.class_rates.proofs.MeasuredBucket.Lists.{same_place}

abbrev Whole : Type 0
Whole = Bucket × BucketMargin

abbrev part_in : Whole → List (Part Bucket)
part_in part = as_parts (part ∷ [])

-- ---- one part more

append_none : {X : Type 0} (xs : List X) → xs ++ [] ≡ xs
append_none [] = refl
append_none (x ∷ xs) = ap (λ ys. x ∷ ys) (append_none xs)

parts_more : (ps : List Whole) (i : ℕ) (d : Whole) → i < length ps → as_parts (take (i + 1) ps) ≡ as_parts (take i ps) ++ part_in (get_or ps i d)
parts_more ps i d h =
    ap as_parts (take_more ps i d h) ∙ map-append (λ (part : Whole). record { at = part.0; value = part.1 }) (take i ps) (get_or ps i d ∷ [])

numbered_more : (ps : List Whole) (i : ℕ) (d : Whole) → i < length ps → numbered (as_parts (take (i + 1) ps)) ≡ numbered (as_parts (take i ps)) ++ numbered (part_in (get_or ps i d))
numbered_more ps i d h = ap numbered (parts_more ps i d h) ∙ filter-append (λ (b : Part Bucket). not (is_residual b.at)) (as_parts (take i ps)) (part_in (get_or ps i d))

total_by-append : {X : Type 0} (f : X → ℤ) (xs ys : List X) → total_by f (xs ++ ys) ≡ total_by f xs +ℤ total_by f ys
total_by-append f [] ys = sym (+ℤ_idl (total_by f ys))
total_by-append f (x ∷ xs) ys = omega (arith, ints, total_by-append f xs ys)

pub residual_more : (ps : List Whole) (i : ℕ) (d : Whole) → i < length ps → residual_k (as_parts (take (i + 1) ps)) ≡ residual_k (as_parts (take i ps)) +ℤ residual_k (part_in (get_or ps i d))
residual_more ps i d h =
    ap residual_k (parts_more ps i d h)
    ∙ ap (total_by (λ (b : Part Bucket). (b.value).k)) (filter-append (λ (b : Part Bucket). is_residual b.at) (as_parts (take i ps)) (part_in (get_or ps i d)))
    ∙ total_by-append (λ (b : Part Bucket). (b.value).k) (residual (as_parts (take i ps))) (residual (part_in (get_or ps i d)))

-- the parts that have been numbered
pub record HaveBeenNumbered (listed : List Bucket) (parts : List Whole) (margins : List BucketMargin) (places : List ℕ) : Type 0 where
  pub values : margins ≡ margins_of (numbered (as_parts parts))
  pub placed : places ≡ places_of listed (numbered (as_parts parts))

own_margin : (listed : List Bucket) (part : Whole) (place : ℕ) → number_place listed part.0 ≡ Some place → margins_of (numbered (part_in part)) ≡ part.1 ∷ []
own_margin listed (bucket.Number n, m) place h = refl
own_margin listed (bucket.Residual, m) place h = absurd (cc)

own_place : (listed : List Bucket) (part : Whole) (place : ℕ) → number_place listed part.0 ≡ Some place → places_of listed (numbered (part_in part)) ≡ place ∷ []
own_place listed (bucket.Number n, m) place h = let same : place_among listed (bucket.Number n) ≡ place = cc in ap (λ k. k ∷ []) same
own_place listed (bucket.Residual, m) place h = absurd (cc)

not_numbered : (listed : List Bucket) (part : Whole) → number_place listed part.0 ≡ None → numbered (part_in part) ≡ []
not_numbered listed (bucket.Number n, m) h = absurd (cc)
not_numbered listed (bucket.Residual, m) h = refl

pub number_next : (listed : List Bucket) (ps : List Whole) (i : ℕ) (part : Whole) (place : ℕ) (margins more : List BucketMargin) (places further : List ℕ) → i < length ps → part ≡ get_or ps i part → number_place listed part.0 ≡ Some place → HaveBeenNumbered listed (take i ps) margins places → more ≡ margins ++ part.1 ∷ [] → further ≡ places ++ place ∷ [] → HaveBeenNumbered listed (take (i + 1) ps) more further
number_next listed ps i part place margins more places further h at e so_far grown longer = record {
  values = grown ∙ ap (λ ms. ms ++ part.1 ∷ []) so_far.values ∙ ap (λ ms. margins_of (numbered (as_parts (take i ps))) ++ ms) (sym (ap (λ p. margins_of (numbered (part_in p))) (sym at) ∙ own_margin listed part place e))
      ∙ sym (map-append (λ (b : Part Bucket). b.value) (numbered (as_parts (take i ps))) (numbered (part_in (get_or ps i part)))) ∙ ap margins_of (sym (numbered_more ps i part h));
  placed = longer ∙ ap (λ ks. ks ++ place ∷ []) so_far.placed ∙ ap (λ ks. places_of listed (numbered (as_parts (take i ps))) ++ ks) (sym (ap (λ p. places_of listed (numbered (part_in p))) (sym at) ∙ own_place listed part place e))
      ∙ sym (map-append (λ (b : Part Bucket). place_among listed b.at) (numbered (as_parts (take i ps))) (numbered (part_in (get_or ps i part)))) ∙ ap (places_of listed) (sym (numbered_more ps i part h));
}

pub number_skip : (listed : List Bucket) (ps : List Whole) (i : ℕ) (part : Whole) (margins : List BucketMargin) (places : List ℕ) → i < length ps → part ≡ get_or ps i part → number_place listed part.0 ≡ None → HaveBeenNumbered listed (take i ps) margins places → HaveBeenNumbered listed (take (i + 1) ps) margins places
number_skip listed ps i part margins places h at e so_far =
    let same : numbered (as_parts (take (i + 1) ps)) ≡ numbered (as_parts (take i ps)) =
    numbered_more ps i part h ∙ ap (λ p. numbered (as_parts (take i ps)) ++ numbered (part_in p)) (sym at) ∙ ap (λ xs. numbered (as_parts (take i ps)) ++ xs) (not_numbered listed part e) ∙ append_none (numbered (as_parts (take i ps))) in
    let next : HaveBeenNumbered listed (take (i + 1) ps) margins places = record { values = so_far.values ∙ ap margins_of (sym same); placed = so_far.placed ∙ ap (places_of listed) (sym same) } in
    next

-- ---- sizes

abbrev pub size : Whole → ℕ
size part = unsigned_abs (part.1).k

abbrev pub sizes_numbered : List Whole → ℕ
sizes_numbered ps = sum_by (λ m. unsigned_abs m.k) (margins_of (numbered (as_parts ps)))

split_one : (part : Whole) (rest : List (Part Bucket)) → sum_by (λ m. unsigned_abs m.k) (margins_of (numbered (part_in part ++ rest))) + unsigned_abs (residual_k (part_in part)) ≤ size part + sum_by (λ m. unsigned_abs m.k) (margins_of (numbered rest))
split_one (bucket.Number n, m) rest = omega (arith, sum_by-cons (λ (x : BucketMargin). unsigned_abs x.k) m (margins_of (numbered rest)))
split_one (bucket.Residual, m) rest = omega (arith, ap unsigned_abs (+ℤ_idr m.k))

-- the numbered margins and the residual one are no more than all of them
pub split_sizes : (ps : List Whole) → sizes_numbered ps + unsigned_abs (residual_k (as_parts ps)) ≤ sum_by size ps
split_sizes [] = omega arith
split_sizes (part ∷ ps) =
    let apart : residual_k (part_in part ++ as_parts ps) ≡ residual_k (part_in part) +ℤ residual_k (as_parts ps) = ap (total_by (λ (b : Part Bucket). (b.value).k)) (filter-append (λ (b : Part Bucket). is_residual b.at) (part_in part) (as_parts ps)) ∙ total_by-append (λ (b : Part Bucket). (b.value).k) (residual (part_in part)) (residual (as_parts ps)) in
    let both : unsigned_abs (residual_k (part_in part ++ as_parts ps)) ≤ unsigned_abs (residual_k (part_in part)) + unsigned_abs (residual_k (as_parts ps)) = omega (arith, ap unsigned_abs apart, unsigned_abs-add (residual_k (part_in part)) (residual_k (as_parts ps))) in
    omega (arith, both, split_one part (as_parts ps), split_sizes ps, sum_by-cons size part ps)

residual_one : (part : Whole) → pos 0 ≤ℤ (part.1).k → pos 0 ≤ℤ residual_k (part_in part)
residual_one (bucket.Number n, m) h = omega (arith, ints)
residual_one (bucket.Residual, m) h = omega (arith, ints)

pub residual-low : (ps : List Whole) → AllByRecursion (λ part. pos 0 ≤ℤ (part.1).k) ps → pos 0 ≤ℤ residual_k (as_parts ps)
residual-low [] h = omega (arith, ints)
residual-low (part ∷ ps) h =
    let apart : residual_k (part_in part ++ as_parts ps) ≡ residual_k (part_in part) +ℤ residual_k (as_parts ps) = ap (total_by (λ (b : Part Bucket). (b.value).k)) (filter-append (λ (b : Part Bucket). is_residual b.at) (part_in part) (as_parts ps)) ∙ total_by-append (λ (b : Part Bucket). (b.value).k) (residual (part_in part)) (residual (as_parts ps)) in
    omega (arith, ints, apart, residual_one part h.0, residual-low ps h.1)

each_own : (P : BucketMargin → Type 0) (part : Whole) (rest : List (Part Bucket)) → P part.1 → AllByRecursion P (margins_of (numbered rest)) → AllByRecursion P (margins_of (numbered (part_in part ++ rest)))
each_own P (bucket.Number n, m) rest p h = (p, h)
each_own P (bucket.Residual, m) rest p h = h

-- what is so of each value is so of the numbered ones
pub each_numbered : (P : BucketMargin → Type 0) (ps : List Whole) → AllByRecursion (λ part. P part.1) ps → AllByRecursion P (margins_of (numbered (as_parts ps)))
each_numbered P [] h = tt
each_numbered P (part ∷ ps) h = each_own P part (as_parts ps) h.0 (each_numbered P ps h.1)

-- ---- numbered buckets are in order

abbrev numbers : List (Part Bucket) → List (List ℕ)
numbers parts = map (λ part. bucket_numbers part.at) parts

later_own : (P : List ℕ → Type 0) (part : Whole) (rest : List (Part Bucket)) → P (bucket_numbers part.0) → AllByRecursion P (numbers (numbered rest)) → AllByRecursion P (numbers (numbered (part_in part ++ rest)))
later_own P (bucket.Number n, m) rest p h = (p, h)
later_own P (bucket.Residual, m) rest p h = h

later : (P : List ℕ → Type 0) (ps : List Whole) → AllByRecursion (λ b. P (bucket_numbers b)) (map (λ part. part.0) ps) → AllByRecursion P (numbers (numbered (as_parts ps)))
later P [] h = tt
later P (part ∷ ps) h = later_own P part (as_parts ps) h.0 (later P ps h.1)

ascend_own : (part : Whole) (rest : List (Part Bucket)) → AllByRecursion (λ n. name_cmp (bucket_numbers part.0) n ≡ Less) (numbers (numbered rest)) → IsStrictlySortedBy name_cmp (numbers (numbered rest)) → IsStrictlySortedBy name_cmp (numbers (numbered (part_in part ++ rest)))
unfolding IsStrictlySortedBy
ascend_own (bucket.Number n, m) rest h s = (h, s)
ascend_own (bucket.Residual, m) rest h s = s

numbers_ascend : (ps : List Whole) → IsStrictlySortedBy bucket_cmp (map (λ part. part.0) ps) → IsStrictlySortedBy name_cmp (numbers (numbered (as_parts ps)))
unfolding IsStrictlySortedBy
numbers_ascend [] s = tt
numbers_ascend (part ∷ ps) s = ascend_own part (as_parts ps) (later (λ n. name_cmp (bucket_numbers part.0) n ≡ Less) ps s.0) (numbers_ascend ps s.1)

-- ---- the root over the numbered buckets

abbrev none : Part Bucket
none = record { at = bucket.Residual; value = record { q = pos 0; k = pos 0; s = pos 0; sum = pos 0; gross = pos 0; cr = record { 0 = one } } }

tells : (ks : List (Part Bucket)) → IsStrictlySortedBy name_cmp (numbers ks) → (i j : ℕ) → i < length ks → j < length ks → same_bucket (get_or ks i none).at (get_or ks j none).at ≡ (i == j)
tells ks s i j l m =
    let count : length (numbers ks) ≡ length ks = length-map ks (λ (part : Part Bucket). bucket_numbers part.at) in
    ap (λ n. is_eq (name_cmp n (bucket_numbers (get_or ks j none).at))) (sym (get_or-map (λ (part : Part Bucket). bucket_numbers part.at) ks i none (bucket_numbers none.at) l))
    ∙ ap (λ n. is_eq (name_cmp (get_or (numbers ks) i (bucket_numbers none.at)) n)) (sym (get_or-map (λ (part : Part Bucket). bucket_numbers part.at) ks j none (bucket_numbers none.at) m))
    ∙ same_place name_cmp nat_list_cmp_total (numbers ks) i j (bucket_numbers none.at) s (omega arith) (omega arith)

module _ (listed : List Bucket) (gamma : List (List ℤ)) where
  abbrev itself_or : Part Bucket → Part Bucket → ℤ
  itself_or k l = if same_bucket k.at l.at then one else gamma_among listed gamma k l

  term_same : (k l : Part Bucket) → (if same_bucket k.at l.at then pos 0 else itself_or k l *ℤ (k.value).s *ℤ (l.value).s) ≡ (if same_bucket k.at l.at then pos 0 else gamma_among listed gamma k l *ℤ (k.value).s *ℤ (l.value).s)
  term_same k l = by (same_bucket k.at l.at)
    where
      by : (t : Bool) → (if t then pos 0 else (if t then one else gamma_among listed gamma k l) *ℤ (k.value).s *ℤ (l.value).s) ≡ (if t then pos 0 else gamma_among listed gamma k l *ℤ (k.value).s *ℤ (l.value).s)
      by true = refl
      by false = refl

  pairs_same : (ks : List (Part Bucket)) → total_by_pairs (λ k l. if same_bucket k.at l.at then pos 0 else itself_or k l *ℤ (k.value).s *ℤ (l.value).s) ks ≡ total_by_pairs (λ k l. if same_bucket k.at l.at then pos 0 else gamma_among listed gamma k l *ℤ (k.value).s *ℤ (l.value).s) ks
  pairs_same ks =
      total_by-ext (λ k. total_by (λ l. if same_bucket k.at l.at then pos 0 else itself_or k l *ℤ (k.value).s *ℤ (l.value).s) ks) (λ k. total_by (λ l. if same_bucket k.at l.at then pos 0 else gamma_among listed gamma k l *ℤ (k.value).s *ℤ (l.value).s) ks) ks
      (λ k. total_by-ext (λ l. if same_bucket k.at l.at then pos 0 else itself_or k l *ℤ (k.value).s *ℤ (l.value).s) (λ l. if same_bucket k.at l.at then pos 0 else gamma_among listed gamma k l *ℤ (k.value).s *ℤ (l.value).s) ks (term_same k))

  place_is : (ks : List (Part Bucket)) (places : List ℕ) → places ≡ places_of listed ks → (i : ℕ) → i < length ks → get_or places i 0 ≡ place_among listed (get_or ks i none).at
  place_is ks places e i l = ap (λ ps. get_or ps i 0) e ∙ get_or-map (λ (part : Part Bucket). place_among listed part.at) ks i none 0 l

  corr_is : (ks : List (Part Bucket)) (places : List ℕ) → IsStrictlySortedBy name_cmp (numbers ks) → places ≡ places_of listed ks → (i j : ℕ) → i < length ks → j < length ks → with_itself (gamma_at gamma places) i j ≡ itself_or (get_or ks i none) (get_or ks j none)
  corr_is ks places s e i j l m =
      ap (λ t. if t then one else gamma_at gamma places i j) (sym (tells ks s i j l m))
      ∙ ap (λ z. if same_bucket (get_or ks i none).at (get_or ks j none).at then one else z) (ap (λ a. six (at_row gamma a (get_or places j 0))) (place_is ks places e i l) ∙ ap (λ b. six (at_row gamma (place_among listed (get_or ks i none).at) b)) (place_is ks places e j m))

  -- the root by places is the rule's by buckets
  pub outer_is : (ks : List (Part Bucket)) (margins : List BucketMargin) (places : List ℕ) → IsStrictlySortedBy name_cmp (map (λ part. bucket_numbers part.at) ks) → margins ≡ margins_of ks → places ≡ places_of listed ks → root_of (outer_total (with_itself (gamma_at gamma places)) margins) ≡ outer same_bucket (gamma_among listed gamma) ks
  outer_is ks margins places s values placed =
      ap root_of (outer_total-buckets itself_or (λ (part : Part Bucket). part.value) (λ k l. same_bucket k.at l.at) ks none (with_itself (gamma_at gamma places)) margins values (corr_is ks places s placed) (tells ks s)
      ∙ ap (λ z. one *ℤ total_by (λ b. (b.value).k *ℤ (b.value).k) ks +ℤ z) (pairs_same ks))

pub numbered_ascend : (ps : List Whole) → IsStrictlySortedBy bucket_cmp (map (λ part. part.0) ps) → IsStrictlySortedBy name_cmp (map (λ part. bucket_numbers part.at) (numbered (as_parts ps)))
numbered_ascend = numbers_ascend

-- ---- the table of correlations

pub gamma-symmetric : (gamma : List (List ℤ)) (places : List ℕ) → AreCorrelations gamma → (i j : ℕ) → with_itself (gamma_at gamma places) i j ≡ with_itself (gamma_at gamma places) j i
gamma-symmetric gamma places are i j = with_itself-symmetric (gamma_at gamma places) i j (ap six (are.symmetric (get_or places i 0) (get_or places j 0)))

pub gamma-small : (gamma : List (List ℤ)) (places : List ℕ) → AreCorrelations gamma → (i j : ℕ) → unsigned_abs (with_itself (gamma_at gamma places) i j) ≤ 1000000
gamma-small gamma places are i j =
    with_itself-at_most_one (gamma_at gamma places) i j (product_size (pos 100) (at_row gamma (get_or places i 0) (get_or places j 0)) 100 10000 (omega arith) (are.size (get_or places i 0) (get_or places j 0)))

-- ---- sums as they are computed

-- the residual margin with one part more
pub record ResidualStep (ps : List Whole) (i : ℕ) (total more : ℤ) : Type 0 where
  pub both : FitsSigned w128 (total +ℤ more)
  pub value : total +ℤ more ≡ residual_k (as_parts (take (i + 1) ps))

pub residual_step : (ps : List Whole) (i : ℕ) (part : Whole) (total more : ℤ) → sum_by size ps < 84 * 10 ^ 14 → i < length ps → part ≡ get_or ps i part → total ≡ residual_k (as_parts (take i ps)) → more ≡ residual_k (part_in part) → ResidualStep ps i total more
residual_step ps i part total more range h at so_far own =
    let value : total +ℤ more ≡ residual_k (as_parts (take (i + 1) ps)) = ap (λ z. z +ℤ more) so_far ∙ ap (λ z. residual_k (as_parts (take i ps)) +ℤ z) (own ∙ ap (λ p. residual_k (part_in p)) at) ∙ sym (residual_more ps i part h) in
    let low : unsigned_abs (total +ℤ more) < 84 * 10 ^ 14 = omega (arith, ap unsigned_abs value, split_sizes (take (i + 1) ps), sum_by-take-le size ps (i + 1)) in
    record { both = fits_signed_from_abs w128 (total +ℤ more) (omega (arith, low)); value = value }

-- the root and the residual margin together
pub record WholeSum (outer residual : ℤ) (sizes : ℕ) : Type 0 where
  pub first : FitsSigned w128 outer
  pub second : FitsSigned w128 residual
  pub both : FitsSigned w128 (outer +ℤ residual)
  pub low : pos 0 ≤ℤ (outer +ℤ residual)
  pub high : (outer +ℤ residual) ≤ℤ pos sizes

sum_facts : (outer residual : ℤ) (n m : ℕ) → pos 0 ≤ℤ outer → outer ≤ℤ pos n → pos 0 ≤ℤ residual → n + unsigned_abs residual ≤ m → m < 84 * 10 ^ 14 → WholeSum outer residual m
sum_facts outer residual n m low most own split range = record {
  first = fits_signed_from_abs w128 outer (omega (arith, ints));
  second = fits_signed_from_abs w128 residual (omega (arith, ints));
  both = fits_signed_from_abs w128 (outer +ℤ residual) (omega (arith, ints));
  low = omega (arith, ints);
  high = omega (arith, ints);
}

pub whole_sum : (ps : List Whole) (outer residual : ℤ) (margins : List BucketMargin) → AllByRecursion (λ part. pos 0 ≤ℤ (part.1).k) ps → sum_by size ps < 84 * 10 ^ 14 → margins ≡ margins_of (numbered (as_parts ps)) → pos 0 ≤ℤ outer → outer ≤ℤ pos (sum_by (λ m. unsigned_abs m.k) margins) → residual ≡ residual_k (as_parts ps) → WholeSum outer residual (sum_by size ps)
whole_sum ps outer residual margins positive range made low high is =
    let most : outer ≤ℤ pos (sizes_numbered ps) = subst (λ ms. outer ≤ℤ pos (sum_by (λ (m : BucketMargin). unsigned_abs m.k) ms)) made high in
    let own : pos 0 ≤ℤ residual = subst (λ z. pos 0 ≤ℤ z) (sym is) (residual-low ps positive) in
    let split : sizes_numbered ps + unsigned_abs residual ≤ sum_by size ps = subst (λ z. sizes_numbered ps + unsigned_abs z ≤ sum_by size ps) (sym is) (split_sizes ps) in
    sum_facts outer residual (sizes_numbered ps) (sum_by size ps) low most own split range
