-- The keys of a bucket: of each place, and of whatever bucket, there are as few as the range says.
use Rattle.std.proofs.Common.{◌≡◌, List, [], ◌∷◌, map, Bool, true, false, ◌&&◌, ◌||◌, refl, sym, ap, ◌∙◌, subst, pos, ◌≤ℤ◌, None, arith}
use Rattle.std.specs.Ordering.{is_eq}
use Rattle.std.specs.Cmp.{IsTotalOrder}
use Rattle.std.specs.List.{filter, list_any, AllByRecursion}
use Rattle.std.specs.declared.cmp.Ordering.TheVariants.{Equal}
use Rattle.std.proofs.lemmas.Bool.{false≢true}
use Rattle.std.proofs.lemmas.Cmp.{nat_list_cmp_total, on_total, alike_right, eq_by_cmp_equiv}
use Rattle.std.proofs.lemmas.Int.{ints}
use Rattle.simm_params.specs.SimmKinds.declared.kinds.ProductClass.{ProductClass}
use Rattle.simm_params.specs.SimmKinds.declared.kinds.RiskClass.{RiskClass}
use Rattle.simm_params.specs.SimmKinds.declared.kinds.Side.{Side}
use Rattle.simm_params.specs.SimmKinds.declared.kinds.Side.TheVariants as kinds_side
use Rattle.simm_params.specs.SimmKinds.declared.kinds.BucketId.{BucketId}
use Rattle.simm_params.specs.SimmKinds.Factors.{class_of, side_of, bucket_of}
use Rattle.simm_params.specs.SimmKinds.Order.{same_product, same_class, same_bucket_id, bucket_id_cmp, bucket_id_numbers}
use Rattle.simm_params.proofs.SimmKinds.Variants.{is_eq-Equal}
use Rattle.simm_params.specs.SimmRules.declared.values.RangeKind.TheVariants as range_kind
use Rattle.simm_params.specs.SimmRules.Sums.{different}
use Rattle.simm_params.specs.SimmRules.Net.{Sensitivity, in_product}
use Rattle.simm_params.specs.SimmRules.Range.{Sided, Delta_side, Volatility_side, is_on, on_side, above, key_count, bucket_keys}
use Rattle.factor_book.specs.declared.place.BookSide.{BookSide}
use Rattle.factor_book.specs.declared.place.BookSide.TheVariants as side
use Rattle.factor_book.specs.declared.place.Place.{Place}
use Rattle.factor_book.specs.Address.{book_side, same_side}
use Rattle.factor_book.specs.Place.{stand_bucket, stand_class, stand_side}
use Rattle.factor_book.specs.Places.{stands_at}
use Rattle.factor_book.proofs.Grouping.{any_is, any-filter}
use Rattle.factor_book.proofs.Sorting.{any_different}
use Rattle.book_range.proofs.Lists.{each_unmap, each_weaker, filter_agrees, filter_twice}
use Rattle.book_range.proofs.Tests.{IsNone, not_above}

-- a bucket that no item is of has no key
pub none_kept : {X : Type 0} (xs : List X) → any_is xs ≡ false → xs ≡ []
none_kept [] h = refl
none_kept (x ∷ xs) h = absurd (false≢true (sym h))

pub id_total : IsTotalOrder bucket_id_cmp
id_total = on_total bucket_id_numbers nat_list_cmp_total

module _ (X : List Sensitivity) (b : BucketId) where
  abbrev at_bucket : Sensitivity → BucketId
  at_bucket s = bucket_of s.key.factor

  abbrev pub few : BucketId → Type 0
  few q = key_count (filter (λ s. same_bucket_id (at_bucket s) q) X) ≤ℤ pos 2000

  same_few : (q : BucketId) → bucket_id_cmp q b ≡ Equal → few q → few b
  same_few q e h =
      subst (λ xs. key_count xs ≤ℤ pos 2000) (filter_agrees (λ s. same_bucket_id (at_bucket s) q) (λ s. same_bucket_id (at_bucket s) b) (λ s. ap is_eq (alike_right id_total q b (at_bucket s) e)) X) h

  among : (qs : List BucketId) → AllByRecursion few qs → list_any (λ q. is_eq (bucket_id_cmp q b)) qs ≡ true → few b
  among [] h e = absurd (false≢true e)
  among (q ∷ qs) h e = by (is_eq (bucket_id_cmp q b)) refl e (among qs h.1)
    where
      by : (t : Bool) → is_eq (bucket_id_cmp q b) ≡ t → (t || list_any (λ r. is_eq (bucket_id_cmp r b)) qs) ≡ true → (list_any (λ r. is_eq (bucket_id_cmp r b)) qs ≡ true → few b) → few b
      by true same e later = same_few q (is_eq-Equal _ same) h.0
      by false apart e later = later e

  abbrev there : List BucketId
  there = different bucket_id_cmp (map at_bucket X)

  any_there : list_any (λ q. is_eq (bucket_id_cmp q b)) there ≡ any_is (filter (λ s. same_bucket_id (at_bucket s) b) X)
  any_there =
      any_different bucket_id_cmp (λ q. is_eq (bucket_id_cmp q b))
      (λ k l alike. (eq_by_cmp_equiv id_total).symm k b ∙ ap is_eq (alike_right id_total k l b alike) ∙ (eq_by_cmp_equiv id_total).symm b l) (map at_bucket X)
      ∙ any-filter (λ q. is_eq (bucket_id_cmp q b)) at_bucket X

  few_there : AllByRecursion IsNone (bucket_keys X) → AllByRecursion few there
  few_there h =
      each_weaker (λ q. above range_kind.BucketKeys (key_count (filter (λ s. same_bucket_id (at_bucket s) q) X)) (pos 2000) ≡ None) few
      (λ q none. not_above range_kind.BucketKeys (key_count (filter (λ s. same_bucket_id (at_bucket s) q) X)) (pos 2000) none) there
      (each_unmap IsNone (λ q. above range_kind.BucketKeys (key_count (filter (λ s. same_bucket_id (at_bucket s) q) X)) (pos 2000)) there h)

  -- the keys of whatever bucket are few
  pub few_keys : AllByRecursion IsNone (bucket_keys X) → few b
  few_keys h = by (any_is (filter (λ s. same_bucket_id (at_bucket s) b) X)) refl
    where
      by : (t : Bool) → any_is (filter (λ s. same_bucket_id (at_bucket s) b) X) ≡ t → few b
      by true e = among there (few_there h) (any_there ∙ e)
      by false e = subst (λ xs. key_count xs ≤ℤ pos 2000) (sym (none_kept (filter (λ s. same_bucket_id (at_bucket s) b) X) e)) (omega (arith, ints))

-- ---- the sides of the book and of the rule

abbrev pub sided : BookSide → Sided
sided side.Delta = Delta_side
sided side.Volatility = Volatility_side

pub on_sided : (b : BookSide) (s : Side) → same_side (book_side s) b ≡ is_on (sided b) s
on_sided side.Delta kinds_side.Delta = refl
on_sided side.Delta kinds_side.Volatility = refl
on_sided side.Delta kinds_side.BaseCorr = refl
on_sided side.Volatility kinds_side.Delta = refl
on_sided side.Volatility kinds_side.Volatility = refl
on_sided side.Volatility kinds_side.BaseCorr = refl

-- the sensitivities of a class on a side
pub side_are : (at : ProductClass) (c : RiskClass) (b : BookSide) (ss : List Sensitivity)
    → filter (λ s. same_product s.key.product at && (same_class (class_of s.key.factor) c && same_side (book_side (side_of s.key.factor)) b)) ss ≡ on_side c (sided b) (in_product at ss)
side_are at c b ss =
    filter_agrees (λ s. same_product s.key.product at && (same_class (class_of s.key.factor) c && same_side (book_side (side_of s.key.factor)) b)) (λ s. same_product s.key.product at && (same_class (class_of s.key.factor) c && is_on (sided b) (side_of s.key.factor)))
    (λ s. ap (λ t. same_product s.key.product at && (same_class (class_of s.key.factor) c && t)) (on_sided b (side_of s.key.factor))) ss
    ∙ sym (filter_twice (λ s. same_class (class_of s.key.factor) c && is_on (sided b) (side_of s.key.factor)) (λ s. same_product s.key.product at) ss)

-- those at a place
pub there_are : (place : Place) (ss : List Sensitivity)
    → filter (λ s. stands_at place s.key) ss ≡ filter (λ s. same_bucket_id (bucket_of s.key.factor) (stand_bucket place.stand)) (on_side (stand_class place.stand) (sided (stand_side place.stand)) (in_product place.product ss))
there_are place ss =
    sym (ap (filter (λ s. same_bucket_id (bucket_of s.key.factor) (stand_bucket place.stand))) (sym (side_are place.product (stand_class place.stand) (stand_side place.stand) ss))
    ∙ filter_twice (λ s. same_bucket_id (bucket_of s.key.factor) (stand_bucket place.stand)) (λ s. same_product s.key.product place.product && (same_class (class_of s.key.factor) (stand_class place.stand) && same_side (book_side (side_of s.key.factor)) (stand_side place.stand))) ss
    ∙ filter_agrees _ (λ s. stands_at place s.key) (λ s. and_again (same_product s.key.product place.product) (same_class (class_of s.key.factor) (stand_class place.stand) && same_side (book_side (side_of s.key.factor)) (stand_side place.stand)) (same_bucket_id (bucket_of s.key.factor) (stand_bucket place.stand))) ss)
  where
    and_again : (a b c : Bool) → ((a && b) && c) ≡ (a && b && c)
    and_again true b c = refl
    and_again false b c = refl
