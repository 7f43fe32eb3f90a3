-- A class of which the file lists buckets: each bucket of the book is one of them, and those alone add to a margin, however
-- buckets are valued.
use Rattle.std.proofs.Common.{◌≡◌, ◌^◌, List, [], ◌∷◌, map, Some, Bool, true, false, ◌||◌, refl, sym, ap, ◌∙◌, subst, ℤ, pos, ◌+ℤ◌, ◌≤ℤ◌, arith}
use Rattle.std.specs.Prelude.{option_map, IsSomeAnd}
use Rattle.std.specs.declared.cmp.Ordering.TheVariants.{Less}
use Rattle.std.specs.List.{filter, find, list_any, AllByRecursion}
use Rattle.std.specs.List.Sorted.{IsStrictlySortedBy}
use Rattle.std.proofs.Math.IntN.{+ℤ_idr}
use Rattle.std.proofs.lemmas.Int.{ints}
use Rattle.class_rates.specs.SimmKinds.declared.kinds.BucketId.{BucketId}
use Rattle.class_rates.specs.SimmKinds.declared.bucket.Bucket.{Bucket}
use Rattle.class_rates.specs.SimmKinds.Factors.{bucket_id_of}
use Rattle.class_rates.specs.SimmKinds.Order.{same_bucket, bucket_id_cmp, same_bucket_id}
use Rattle.class_rates.specs.SimmRules.declared.values.BucketMargin.{BucketMargin}
use Rattle.class_rates.specs.SimmRules.Sums.{total_by}
use Rattle.class_rates.specs.SimmRules.Risks.{Amount}
use Rattle.class_rates.specs.SimmRules.Across.{Part}
use Rattle.class_rates.specs.SimmRules.Admits.{lists}
use Rattle.class_rates.specs.SimmRules.Gross.{size_by}
use Rattle.class_margin.specs.Parts.{as_parts}
use Rattle.class_margin.specs.names_delta.Values.{IsInRange}
use Rattle.class_rates.proofs.MeasuredBucket.Listed.{found}
use Rattle.class_rates.proofs.MeasuredBucket.Lists.{each_weaker, map-filter}
use Rattle.class_margin.proofs.delta.Bounds.{size_low, HasClass}
use Rattle.class_margin.proofs.delta.Listed.{not_later, filter_none, never, each_within, total_kept, is_at, find_listed, some_listed, some_mapped}
use Rattle.class_margin.proofs.delta.Totals.{Alike, alike_map, total_split}
use Rattle.class_margin.proofs.Valued.{Whole, listed_ids}

-- a bucket is among these
abbrev pub has : List BucketId → Bucket → Bool
has ks b = list_any (λ k. same_bucket_id k (bucket_id_of b)) ks

module _ {X A : Type 0} (id : X → Bucket) (weight : X → ℤ) (amounts : Bucket → List (Amount A)) (xs : List X) (its : HasClass id weight amounts xs) where
  abbrev pub size : X → ℤ
  size x = size_by (λ _. weight x) (amounts (id x))

  pub sizes_low : AllByRecursion (λ x. pos 0 ≤ℤ size x) xs
  sizes_low = each_weaker (λ x. pos 0 ≤ℤ weight x) (λ x. pos 0 ≤ℤ size x) (λ x low. size_low (λ _. weight x) (λ _. low) (amounts (id x))) xs its.low

  -- a listed bucket is in range
  pub ready : (b : Bucket) → lists (map id xs) b ≡ true → IsSomeAnd (find (λ y. same_bucket b (id y)) xs) (λ x. IsInRange (λ _. weight x) (amounts b))
  ready b h =
      let f = find_listed id b xs its.in_order h in
      let small : size f.of ≤ℤ pos (10 ^ 17) = found (λ x. size x ≤ℤ pos (10 ^ 17)) (λ y. same_bucket b (id y)) xs f.of (each_within size (pos (10 ^ 17)) xs sizes_low its.total) f.found in
      subst (λ o. IsSomeAnd o (λ x. IsInRange (λ _. weight x) (amounts b))) (sym f.found)
      (record { few = its.few_each b; small = subst (λ a. size_by (λ _. weight f.of) (amounts a) ≤ℤ pos (10 ^ 17)) (sym f.is) small })

  -- ---- parts of its buckets, by how a bucket is valued and by what is known of its value

  module _ (V : X → List (Amount A) → BucketMargin) (IsKnown : X → List (Amount A) → BucketMargin → Type 0) where
    pub record IsOwned (part : Whole) : Type 0 where
      pub of : X
      alone : filter (is_at id (bucket_id_of part.0)) xs ≡ of ∷ []
      at : part.0 ≡ id of
      value : part.1 ≡ V of (amounts (id of))
      pub listed : lists (map id xs) part.0 ≡ true
      pub known : IsKnown of (amounts (id of)) part.1

    -- one that has a value is one that is listed
    pub owned : (b : Bucket) (m : BucketMargin) → Some m ≡ option_map (λ x. V x (amounts b)) (find (λ y. same_bucket b (id y)) xs) → IsSomeAnd (find (λ y. same_bucket b (id y)) xs) (λ x. IsKnown x (amounts b) m) → IsOwned (b, m)
    owned b m value known =
        let listed = some_listed id b xs (some_mapped m (λ x. V x (amounts b)) (find (λ y. same_bucket b (id y)) xs) value) in
        let f = find_listed id b xs its.in_order listed in
        let there : Some m ≡ Some (V f.of (amounts b)) = value ∙ ap (option_map (λ x. V x (amounts b))) f.found in
        let same : m ≡ V f.of (amounts (id f.of)) = cc (there, ap (λ a. V f.of (amounts a)) f.is) in
        record {
          of = f.of;
          alone = f.alone;
          at = f.is;
          value = same;
          listed = listed;
          known = subst (λ a. IsKnown f.of (amounts a) m) f.is (subst (λ o. IsSomeAnd o (λ x. IsKnown x (amounts b) m)) f.found known);
        }

    pub each_listed : (parts : List Whole) → AllByRecursion IsOwned parts → AllByRecursion (λ part. lists (map id xs) part.0 ≡ true) parts
    each_listed parts h = each_weaker IsOwned (λ part. lists (map id xs) part.0 ≡ true) (λ part own. own.listed) parts h

    owners : (parts : List Whole) → AllByRecursion IsOwned parts → List X
    owners [] h = []
    owners (part ∷ parts) h = h.0.of ∷ owners parts h.1

    abbrev part_at : X → Part Bucket
    part_at x = record { at = id x; value = V x (amounts (id x)) }

    not_among : (k : BucketId) (ks : List BucketId) (x : X) → AllByRecursion (λ l. bucket_id_cmp k l ≡ Less) ks → is_at id k x ≡ true → has ks (id x) ≡ false
    not_among k [] x h e = refl
    not_among k (l ∷ ks) x h e = ap (λ t. t || has ks (id x)) (not_later k l (bucket_id_of (id x)) h.0 e) ∙ not_among k ks x h.1 e

    -- the owners of the parts are the buckets that have a part
    sums : (parts : List Whole) (h : AllByRecursion IsOwned parts) → IsStrictlySortedBy bucket_id_cmp (listed_ids parts) → Alike (filter (λ x. has (listed_ids parts) (id x)) xs) (owners parts h)
    unfolding IsStrictlySortedBy owners
    sums [] h s = λ f. ap (total_by f) (filter_none (λ x. false) xs (never xs))
    sums (part ∷ parts) h s = λ f.
        total_split f (is_at id (bucket_id_of part.0)) (λ x. has (listed_ids parts) (id x)) (λ x e. not_among (bucket_id_of part.0) (listed_ids parts) x s.0 e) xs
        ∙ ap (λ ys. total_by f ys +ℤ total_by f (filter (λ x. has (listed_ids parts) (id x)) xs)) (h.0.alone)
        ∙ omega (arith, ints, sums parts h.1 s.1 f)

    parts_are : (parts : List Whole) (h : AllByRecursion IsOwned parts) → as_parts parts ≡ map part_at (owners parts h)
    unfolding owners
    parts_are [] h = refl
    parts_are (part ∷ parts) h = let rest = parts_are parts h.1 in λ i. record { at = h.0.at i; value = h.0.value i } ∷ rest i

    -- a margin over the parts, which hangs on sums alone, is that over the buckets that have one
    pub margin_of_parts : (M : List (Part Bucket) → ℤ) → ((ps qs : List (Part Bucket)) → Alike ps qs → M ps ≡ M qs) → (parts : List Whole) → AllByRecursion IsOwned parts → IsStrictlySortedBy bucket_id_cmp (listed_ids parts)
        → M (as_parts parts) ≡ M (filter (λ q. has (listed_ids parts) q.at) (map (λ x. record { at = id x; value = V x (amounts (id x)) }) xs))
    margin_of_parts M alike parts h s =
        let kept = filter (λ x. has (listed_ids parts) (id x)) xs in
        ap M (parts_are parts h)
        ∙ sym (alike (map part_at kept) (map part_at (owners parts h)) (alike_map part_at kept (owners parts h) (sums parts h s)))
        ∙ ap M (map-filter part_at (λ q. has (listed_ids parts) q.at) xs)

    -- ---- what their buckets have

    pub share_is : (f : X → ℤ) (part : Whole) (h : IsOwned part) → total_by f (filter (is_at id (bucket_id_of part.0)) xs) ≡ f h.of
    share_is f part h = ap (total_by f) h.alone ∙ +ℤ_idr (f h.of)

    shares_are : (f : X → ℤ) (parts : List Whole) (h : AllByRecursion IsOwned parts) → total_by (λ part. total_by f (filter (is_at id (bucket_id_of part.0)) xs)) parts ≡ total_by f (owners parts h)
    unfolding owners
    shares_are f [] h = refl
    shares_are f (part ∷ parts) h = omega (arith, ints, share_is f part h.0, shares_are f parts h.1)

    -- it is at most what all listed ones have
    pub shares_within : (f : X → ℤ) → AllByRecursion (λ x. pos 0 ≤ℤ f x) xs → (parts : List Whole) → AllByRecursion IsOwned parts → IsStrictlySortedBy bucket_id_cmp (listed_ids parts) → total_by (λ part. total_by f (filter (is_at id (bucket_id_of part.0)) xs)) parts ≤ℤ total_by f xs
    shares_within f low parts h s = omega (arith, ints, shares_are f parts h, sums parts h s f, total_kept f (λ x. has (listed_ids parts) (id x)) xs low)
