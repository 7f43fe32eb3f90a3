-- The range of a book is that of the factors that it nets to.
use Rattle.std.proofs.Common.{◌≡◌, ◌^◌, ℕ, List, [], ◌∷◌, ◌++◌, map, length, Bool, ◌||◌, Option, Some, None, refl, sym, ap, ◌∙◌, pos}
use Rattle.std.specs.Ordering.{is_eq}
use Rattle.std.specs.declared.cmp.Ordering.TheVariants.{Equal}
use Rattle.std.specs.List.{filter, flat_map, list_any}
use Rattle.std.specs.List.Sorted.{IsPermutation}
use Rattle.std.specs.BTreeMap.{is_at}
use Rattle.std.proofs.lemmas.Cmp.{alike_right}
use Rattle.std.proofs.lemmas.List.Sorted.{length_permutation}
use Rattle.std.proofs.lemmas.Simd.{map-map}
use Rattle.simm_params.specs.MhUnits.Rounding.{up}
use Rattle.simm_params.specs.SimmKinds.declared.kinds.ProductClass.{ProductClass}
use Rattle.simm_params.specs.SimmKinds.declared.kinds.RiskClass.{RiskClass}
use Rattle.simm_params.specs.SimmKinds.declared.kinds.BucketId.{BucketId}
use Rattle.simm_params.specs.SimmKinds.declared.key.FactorKey.{FactorKey}
use Rattle.simm_params.specs.SimmKinds.declared.row.CrifRow.{CrifRow}
use Rattle.simm_params.specs.SimmKinds.Factors.{bucket_of}
use Rattle.simm_params.specs.SimmKinds.Order.{same_bucket_id, bucket_id_cmp, key_cmp}
use Rattle.simm_params.proofs.SimmKinds.Orders.{exact_keys}
use Rattle.simm_params.specs.SimmRules.declared.values.RangeFault.{RangeFault}
use Rattle.simm_params.specs.SimmRules.declared.values.RangeKind.TheVariants as range_kind
use Rattle.simm_params.specs.SimmRules.Params.{Params}
use Rattle.simm_params.specs.SimmRules.Sums.{different, first_some}
use Rattle.simm_params.specs.SimmRules.Net.{Sensitivity, sensitivities, in_product, keys_of}
use Rattle.simm_params.specs.SimmRules.Gross.{delta_size, vega_size}
use Rattle.simm_params.specs.SimmRules.Simm.{products, classes}
use Rattle.simm_params.specs.SimmRules.Range.{Delta_side, Volatility_side, on_side, above, key_count, bucket_keys, each_class, range}
use Rattle.simm_params.specs.Facts.{IsParams}
use Rattle.factor_book.specs.declared.holding.Holding.{Holding}
use Rattle.factor_book.specs.declared.place.BookSide.{BookSide}
use Rattle.factor_book.specs.declared.place.BookSide.TheVariants as side
use Rattle.factor_book.specs.Factors.{factor_of, factors_in, factors_of}
use Rattle.factor_book.specs.declared.address.Address.{Address}
use Rattle.factor_book.specs.declared.place.Place.{Place}
use Rattle.factor_book.specs.Place.{address_of}
use Rattle.factor_book.specs.Places.{is_key_on, is_on, lent_at, places_of}
use Rattle.factor_book.proofs.Netting.{parts}
use Rattle.factor_book.proofs.Rows.{permuted}
use Rattle.factor_book.proofs.Sorting.{any_different, different_ascends, same_items}
use Rattle.factor_book.proofs.Addresses.{exact_ids}
use Rattle.factor_book.proofs.Buckets.{address_in, lent-filter, side_addresses}
use Rattle.book_range.specs.declared.sizes.GrossSizes.{GrossSizes}
use Rattle.book_range.specs.Sizes.{sizes_in}
use Rattle.book_range.specs.Faults.{either_first, count_fault, place_fault, keys_fault, size_fault, side_fault, book_fault}
use Rattle.book_range.proofs.Firsts.{first_some-cons, first_some-append, either_none}
use Rattle.book_range.proofs.Tests.{row_fault, key_fault, of_buckets, of_delta, of_vega, range_is}
use Rattle.book_range.proofs.Buckets.{id_total, sided, side_are}
use Rattle.book_range.proofs.Bounds.{length-factors, factors_there}
use Rattle.book_range.proofs.Weighed.{delta_is, vega_is}
use Rattle.book_range.proofs.Grouped.{gross_is}
use Rattle.book_range.proofs.Crowded.{side_keys, class_keys, keys_by_class}
use Rattle.book_range.proofs.Sizing.{size_at-sizes_in}

-- ---- the first of several answers

first_some-flat_map : {X A : Type 0} (f : X → List (Option A)) (h : X → Option A) → ((x : X) → first_some (f x) ≡ h x) → (xs : List X) → first_some (flat_map f xs) ≡ first_some (map h xs)
first_some-flat_map f h e [] = refl
first_some-flat_map f h e (x ∷ xs) =
    first_some-append (f x) (flat_map f xs) ∙ ap (λ o. either_first o (first_some (flat_map f xs))) (e x) ∙ ap (either_first (h x)) (first_some-flat_map f h e xs) ∙ sym (first_some-cons (h x) (map h xs))

-- ---- the buckets of the keys are those of the sensitivities

any-map : {X Y : Type 0} (p : Y → Bool) (g : X → Y) (xs : List X) → list_any p (map g xs) ≡ list_any (λ x. p (g x)) xs
any-map p g [] = refl
any-map p g (x ∷ xs) = ap (λ t. p (g x) || t) (any-map p g xs)

map-agree : {X A : Type 0} (f g : X → A) → ((x : X) → f x ≡ g x) → (xs : List X) → map f xs ≡ map g xs
map-agree f g h [] = refl
map-agree f g h (x ∷ xs) = λ i. h x i ∷ map-agree f g h xs i

tied_id : (q k l : BucketId) → bucket_id_cmp k l ≡ Equal → is_at (bucket_id_cmp q) k ≡ is_at (bucket_id_cmp q) l
tied_id q k l e = ap is_eq (alike_right id_total k l q e)

different-keys : (g : FactorKey → BucketId) (ks : List FactorKey) → different bucket_id_cmp (map g (different key_cmp ks)) ≡ different bucket_id_cmp (map g ks)
different-keys g ks =
    same_items id_total exact_ids (different bucket_id_cmp (map g (different key_cmp ks))) (different bucket_id_cmp (map g ks)) (different_ascends bucket_id_cmp id_total (map g (different key_cmp ks))) (different_ascends bucket_id_cmp id_total (map g ks))
    (λ q.
    any_different bucket_id_cmp (is_at (bucket_id_cmp q)) (tied_id q) (map g (different key_cmp ks)) ∙ any-map (is_at (bucket_id_cmp q)) g (different key_cmp ks)
    ∙ any_different key_cmp (λ k. is_at (bucket_id_cmp q) (g k)) (λ k l e. ap (λ x. is_at (bucket_id_cmp q) (g x)) (exact_keys k l e)) ks
    ∙ sym (any_different bucket_id_cmp (is_at (bucket_id_cmp q)) (tied_id q) (map g ks) ∙ any-map (is_at (bucket_id_cmp q)) g ks))

module _ (product : ProductClass) (c : RiskClass) (b : BookSide) (ss : List Sensitivity) where
  abbrev own : List Sensitivity
  own = on_side c (sided b) (in_product product ss)

  -- the places of a side
  abbrev them : List Place
  them = filter (is_on product c b) (places_of (factors_in ss))

  key_bucket : FactorKey → BucketId
  key_bucket k = bucket_of k.factor

  buckets_are : different bucket_id_cmp (map (λ (f : FactorKey × Holding). bucket_of f.0.factor) (filter (λ f. is_key_on product c b f.0) (factors_in ss))) ≡ different bucket_id_cmp (map (λ s. bucket_of s.key.factor) own)
  unfolding key_bucket
  buckets_are =
      let T : List Sensitivity = filter (λ s. is_key_on product c b s.key) ss in
      ap (λ fs. different bucket_id_cmp (map (λ (f : FactorKey × Holding). bucket_of f.0.factor) fs)) (parts ss (is_key_on product c b))
      ∙ ap (different bucket_id_cmp) (map-map (λ (f : FactorKey × Holding). bucket_of f.0.factor) (factor_of T) (keys_of T))
      ∙ different-keys key_bucket (map (λ s. s.key) T)
      ∙ ap (different bucket_id_cmp) (map-map key_bucket (λ (s : Sensitivity). s.key) T)
      ∙ ap (λ xs. different bucket_id_cmp (map (λ (s : Sensitivity). bucket_of s.key.factor) xs)) (side_are product c b ss)

  -- the test of a bucket, at the address of its place
  abbrev at_address : Address → Option RangeFault
  at_address a = above range_kind.BucketKeys (key_count (filter (λ s. same_bucket_id (bucket_of s.key.factor) a.bucket) (on_side a.class (sided a.side) (in_product a.product ss)))) (pos 2000)

  keys_are : side_keys (factors_in ss) product c b ≡ first_some (bucket_keys own)
  keys_are =
      ap (λ es. first_some (map place_fault es)) (lent-filter (is_on product c b) (factors_in ss) (places_of (factors_in ss)))
      ∙ ap first_some
      (map-map place_fault (lent_at (factors_in ss)) them
      ∙ map-agree (λ q. place_fault (lent_at (factors_in ss) q)) (λ q. at_address (address_of q)) (λ q. ap (λ n. above range_kind.BucketKeys (pos n) (pos 2000)) (factors_there q ss)) them
      ∙ sym (map-map at_address address_of them)
      ∙ ap (map at_address) (side_addresses product c b (factors_in ss) ∙ ap (map (address_in product c b)) buckets_are)
      ∙ map-map at_address (address_in product c b) (different bucket_id_cmp (map (λ s. bucket_of s.key.factor) own)))

-- ---- the tests of a class

module _ (p : Params) (facts : IsParams p) (ss : List Sensitivity) where
  abbrev fs : List (FactorKey × Holding)
  fs = factors_in ss

  buckets_fault : (product : ProductClass) (c : RiskClass) → first_some (of_buckets (in_product product ss) c) ≡ class_keys fs product c
  buckets_fault product c =
      let delta = bucket_keys (on_side c Delta_side (in_product product ss)) in
      let volatility = bucket_keys (on_side c Volatility_side (in_product product ss)) in
      first_some-append delta (volatility ++ [])
      ∙ ap (either_first (first_some delta)) (first_some-append volatility [] ∙ either_none (first_some volatility))
      ∙ sym (λ i. either_first (keys_are product c side.Delta ss i) (keys_are product c side.Volatility ss i))

  delta_fault : (product : ProductClass) (c : RiskClass) → first_some (of_delta p (in_product product ss) c) ≡ size_fault (sizes_in p fs) product c side.Delta
  delta_fault product c =
      first_some-cons (above range_kind.DeltaGross (up (delta_size p (in_product product ss) c) (pos 10000)) (pos (10 ^ 13))) []
      ∙ either_none (above range_kind.DeltaGross (up (delta_size p (in_product product ss) c) (pos 10000)) (pos (10 ^ 13)))
      ∙ ap (λ z. above range_kind.DeltaGross (up z (pos 10000)) (pos (10 ^ 13)))
      (delta_is p facts c (in_product product ss) ∙ sym (gross_is p facts product c side.Delta ss) ∙ sym (size_at-sizes_in p fs product c side.Delta))

  vega_fault : (product : ProductClass) (c : RiskClass) → first_some (of_vega p (in_product product ss) c) ≡ size_fault (sizes_in p fs) product c side.Volatility
  vega_fault product c =
      first_some-cons (above range_kind.VegaGross (up (vega_size p (in_product product ss) c) (pos 10000)) (pos (10 ^ 13))) []
      ∙ either_none (above range_kind.VegaGross (up (vega_size p (in_product product ss) c) (pos 10000)) (pos (10 ^ 13)))
      ∙ ap (λ z. above range_kind.VegaGross (up z (pos 10000)) (pos (10 ^ 13)))
      (vega_is p facts c (in_product product ss) ∙ sym (gross_is p facts product c side.Volatility ss) ∙ sym (size_at-sizes_in p fs product c side.Volatility))

  -- of all classes
  all_classes : (f : List Sensitivity → RiskClass → List (Option RangeFault)) (g : ProductClass → RiskClass → Option RangeFault) → ((product : ProductClass) (c : RiskClass) → first_some (f (in_product product ss) c) ≡ g product c)
      → first_some (each_class ss f) ≡ first_some (map (λ product. first_some (map (g product) classes)) products)
  all_classes f g h =
      first_some-flat_map (λ product. flat_map (f (in_product product ss)) classes) (λ product. first_some (map (g product) classes))
      (λ product. first_some-flat_map (f (in_product product ss)) (g product) (h product) classes) products

  buckets_are_first : first_some (each_class ss of_buckets) ≡ keys_fault fs
  buckets_are_first = all_classes of_buckets (class_keys fs) buckets_fault ∙ keys_by_class fs

  deltas_first : first_some (each_class ss (of_delta p)) ≡ side_fault (sizes_in p fs) side.Delta
  deltas_first = all_classes (of_delta p) (λ product c. size_fault (sizes_in p fs) product c side.Delta) delta_fault

  vegas_first : first_some (each_class ss (of_vega p)) ≡ side_fault (sizes_in p fs) side.Volatility
  vegas_first = all_classes (of_vega p) (λ product c. size_fault (sizes_in p fs) product c side.Volatility) vega_fault

either_assoc : {A : Type 0} (a b c : Option A) → either_first (either_first a b) c ≡ either_first a (either_first b c)
either_assoc None b c = refl
either_assoc (Some x) b c = refl

in_order : {A : Type 0} (a b : Option A) (xs ys zs : List (Option A)) → first_some (a ∷ b ∷ xs ++ ys ++ zs) ≡ either_first (either_first a b) (either_first (first_some xs) (either_first (first_some ys) (first_some zs)))
in_order a b xs ys zs =
    first_some-cons a (b ∷ (xs ++ ys) ++ zs)
    ∙ ap (either_first a) (first_some-cons b ((xs ++ ys) ++ zs)
    ∙ ap (either_first b) (first_some-append (xs ++ ys) zs ∙ ap (λ o. either_first o (first_some zs)) (first_some-append xs ys) ∙ either_assoc (first_some xs) (first_some ys) (first_some zs)))
    ∙ sym (either_assoc a b (either_first (first_some xs) (either_first (first_some ys) (first_some zs))))

pub range_factors : (p : Params) (facts : IsParams p) (rows : List CrifRow) → range p rows ≡ book_fault (length rows) (factors_of rows) (sizes_in p (factors_of rows))
range_factors p facts rows =
    let S = sensitivities rows in
    range_is p rows
    ∙ in_order (row_fault rows) (key_fault S) (each_class S of_buckets) (each_class S (of_delta p)) (each_class S (of_vega p))
    ∙ ap (λ n. either_first (count_fault (length rows) n) (either_first (first_some (each_class S of_buckets)) (either_first (first_some (each_class S (of_delta p))) (first_some (each_class S (of_vega p)))))) (sym (length-factors S))
    ∙ (λ i. either_first (count_fault (length rows) (length (factors_of rows))) (either_first (buckets_are_first p facts S i) (either_first (deltas_first p facts S i) (vegas_first p facts S i))))

-- the range of rows that have these factors and sizes
pub range_whole : (p : Params) (facts : IsParams p) (factors : List (FactorKey × Holding)) (count : ℕ) (sizes : GrossSizes) (rows : List CrifRow) → factors ≡ factors_of rows → count ≡ length rows → sizes ≡ sizes_in p (factors_of rows)
    → book_fault count factors sizes ≡ range p rows
range_whole p facts factors count sizes rows e f g = (λ i. book_fault (f i) (e i) (g i)) ∙ sym (range_factors p facts rows)

-- it does not depend on their order
pub range_permuted : (p : Params) (facts : IsParams p) (xs ys : List CrifRow) → IsPermutation xs ys → range p xs ≡ range p ys
range_permuted p facts xs ys h =
    let same : factors_of xs ≡ factors_of ys = permuted xs ys h in
    sym (range_whole p facts (factors_of xs) (length xs) (sizes_in p (factors_of xs)) xs refl refl refl)
    ∙ range_whole p facts (factors_of xs) (length xs) (sizes_in p (factors_of xs)) ys same (sym (length_permutation xs ys h)) (ap (sizes_in p) same)
