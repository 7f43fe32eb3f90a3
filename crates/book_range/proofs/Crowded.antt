-- The first crowded bucket of a book, among its buckets in their order, and side by side.
use Rattle.std.proofs.Common.{◌≡◌, ℕ, List, [], ◌∷◌, map, length, Bool, true, false, ◌&&◌, ◌||◌, cond, Option, Some, None, refl, sym, ap, ◌∙◌}
use Rattle.std.specs.Prelude.{is_some}
use Rattle.std.specs.declared.cmp.Ordering.{Ordering}
use Rattle.std.specs.declared.cmp.Ordering.TheVariants.{Less, Equal, Greater}
use Rattle.std.specs.Ordering.{nat_cmp, ordering_then, ordering_reverse, is_eq}
use Rattle.std.specs.Cmp.{IsTotalOrder, nat_cmp_is}
use Rattle.std.specs.List.{filter, find, list_any, AllByRecursion}
use Rattle.std.specs.List.Sorted.{IsStrictlySortedBy}
use Rattle.std.specs.BTreeMap.{is_at}
use Rattle.std.proofs.lemmas.Bool.{false≢true, and_parts, and_from, eqb-true, eq-eqb}
use Rattle.std.proofs.lemmas.Cmp.{nat_cmp_total, on_total}
use Rattle.std.proofs.lemmas.List.Kept.{IsStrictlySortedBy-filter}
use Rattle.std.proofs.lemmas.Map.Keys.{sorted_head, sorted_tail}
use Rattle.std.proofs.lemmas.Map.Lookups.{CmpEqualImpliesEq, exact_unsigned}
use Rattle.std.proofs.lemmas.Map.Views.{any-filter_same}
use Rattle.std.proofs.lemmas.Simd.{map-map}
use Rattle.simm_params.specs.SimmKinds.declared.kinds.ProductClass.{ProductClass}
use Rattle.simm_params.specs.SimmKinds.declared.kinds.ProductClass.TheVariants as product
use Rattle.simm_params.specs.SimmKinds.declared.kinds.RiskClass.{RiskClass}
use Rattle.simm_params.specs.SimmKinds.declared.kinds.RiskClass.TheVariants as class
use Rattle.simm_params.specs.SimmKinds.declared.key.FactorKey.{FactorKey}
use Rattle.simm_params.specs.SimmKinds.Order.{product_place, class_place, bucket_id_cmp, same_product, same_class}
use Rattle.simm_params.proofs.SimmKinds.Orders.{one_product, one_class}
use Rattle.simm_params.specs.SimmRules.declared.values.RangeFault.{RangeFault}
use Rattle.simm_params.specs.SimmRules.Sums.{first_some}
use Rattle.simm_params.specs.SimmRules.Simm.{products, classes}
use Rattle.factor_book.specs.declared.holding.Holding.{Holding}
use Rattle.factor_book.specs.declared.place.BookSide.{BookSide}
use Rattle.factor_book.specs.declared.place.BookSide.TheVariants as side
use Rattle.factor_book.specs.declared.place.Place.{Place}
use Rattle.factor_book.specs.Address.{book_side_place, same_side}
use Rattle.factor_book.specs.Place.{place_cmp, stand_bucket, stand_class, stand_side}
use Rattle.factor_book.specs.Places.{factors_at, is_on, lent_at, places_of, by_side}
use Rattle.factor_book.proofs.Buckets.{any_there, lent-filter, places_ascend}
use Rattle.factor_book.proofs.Standing.{place_total, exact_places, one_place}
use Rattle.book_range.specs.Faults.{either_first, bucket_fault, place_fault, keys_fault}
use Rattle.book_range.specs.Firsts.{fault_at, fault_of, IsFirst}
use Rattle.book_range.proofs.Lists.{each_weaker, each_always, each_map, all_none}
use Rattle.book_range.proofs.Firsts.{head_some, head_none, either_second, either_chosen, none_from_test}
use Rattle.book_range.proofs.Buckets.{none_kept}
use Rattle.book_range.proofs.Tests.{IsNone}

-- ---- lists in order

module _ {X : Type 0} {cmp : X → X → Ordering} (o : IsTotalOrder cmp) where
  none_behind : (x : X) (ys : List X) → AllByRecursion (λ y. cmp x y ≡ Less) ys → list_any (is_at (cmp x)) ys ≡ false
  none_behind x [] h = refl
  none_behind x (y ∷ ys) h = ap (λ r. is_eq r || list_any (is_at (cmp x)) ys) h.0 ∙ none_behind x ys h.1

  -- what comes before the first is not there
  not_before : (x y : X) (ys : List X) → cmp x y ≡ Less → IsStrictlySortedBy cmp (y ∷ ys) → list_any (is_at (cmp x)) (y ∷ ys) ≡ false
  not_before x y ys less s =
      none_behind x (y ∷ ys) (less, each_weaker (λ z. cmp y z ≡ Less) (λ z. cmp x z ≡ Less) (λ z h. o.trans x y z less h) ys (sorted_head cmp y ys s))

  module _ (exact : CmpEqualImpliesEq cmp) {A : Type 0} (f : X → Option A) where
    -- the first answer is that of the least item that has one
    first_least : (xs : List X) (x : X) → IsStrictlySortedBy cmp xs → list_any (is_at (cmp x)) xs ≡ true → ((y : X) → cmp y x ≡ Less → f y ≡ None) → is_some (f x) ≡ true → first_some (map f xs) ≡ f x
    first_least [] x s there before some = absurd (false≢true there)
    first_least (y ∷ ys) x s there before some = by (cmp x y) refl (first_least ys x (sorted_tail cmp y ys s))
      where
        by : (r : Ordering) → cmp x y ≡ r → (list_any (is_at (cmp x)) ys ≡ true → ((z : X) → cmp z x ≡ Less → f z ≡ None) → is_some (f x) ≡ true → first_some (map f ys) ≡ f x)
            → first_some (map f (y ∷ ys)) ≡ f x
        by Less h i = absurd (false≢true (sym (not_before x y ys h s) ∙ there))
        by Equal h i = let same : x ≡ y = exact x y h in head_some f y ys (ap (λ z. is_some (f z)) (sym same) ∙ some) ∙ ap f (sym same)
        by Greater h i =
            head_none f y ys (ap is_some (before y (o.antisymm y x ∙ ap ordering_reverse h)))
            ∙ i (ap (λ r. is_eq r || list_any (is_at (cmp x)) ys) (sym h) ∙ there) before some

-- no answer where those that pass the test have none
none_on : {X A : Type 0} (f : X → Option A) (test : X → Bool) → ((x : X) → test x ≡ true → f x ≡ None) → (xs : List X) → first_some (map f (filter test xs)) ≡ None
none_on f test h [] = refl
none_on f test h (x ∷ xs) = by (test x) refl (none_on f test h xs)
  where
    by : (t : Bool) → test x ≡ t → first_some (map f (filter test xs)) ≡ None → first_some (map f (cond t (x ∷ filter test xs) (filter test xs))) ≡ None
    by true e i = head_none f x (filter test xs) (ap is_some (h x e)) ∙ i
    by false e i = i

-- ---- places, part by part

then_less : (o r : Ordering) → o ≡ Less → ordering_then o r ≡ Less
then_less o r e = ap (λ x. ordering_then x r) e

then_tied : (o r : Ordering) → o ≡ Equal → ordering_then o r ≡ r
then_tied o r e = ap (λ x. ordering_then x r) e

tied : (m n : ℕ) → m ≡ n → nat_cmp m n ≡ Equal
tied m n e = sym (nat_cmp_is m n Equal e)

module _ (p q : Place) where
  abbrev of_sides : Ordering
  of_sides = ordering_then (nat_cmp (book_side_place (stand_side p.stand)) (book_side_place (stand_side q.stand))) (bucket_id_cmp (stand_bucket p.stand) (stand_bucket q.stand))

  abbrev of_classes : Ordering
  of_classes = ordering_then (nat_cmp (class_place (stand_class p.stand)) (class_place (stand_class q.stand))) of_sides

  less_product : nat_cmp (product_place p.product) (product_place q.product) ≡ Less → place_cmp p q ≡ Less
  less_product h = then_less (nat_cmp (product_place p.product) (product_place q.product)) of_classes h

  less_class : product_place p.product ≡ product_place q.product → nat_cmp (class_place (stand_class p.stand)) (class_place (stand_class q.stand)) ≡ Less → place_cmp p q ≡ Less
  less_class e h =
      then_tied (nat_cmp (product_place p.product) (product_place q.product)) of_classes (tied (product_place p.product) (product_place q.product) e)
      ∙ then_less (nat_cmp (class_place (stand_class p.stand)) (class_place (stand_class q.stand))) of_sides h

  less_side : product_place p.product ≡ product_place q.product → class_place (stand_class p.stand) ≡ class_place (stand_class q.stand) → nat_cmp (book_side_place (stand_side p.stand)) (book_side_place (stand_side q.stand)) ≡ Less → place_cmp p q ≡ Less
  less_side e f h =
      then_tied (nat_cmp (product_place p.product) (product_place q.product)) of_classes (tied (product_place p.product) (product_place q.product) e)
      ∙ then_tied (nat_cmp (class_place (stand_class p.stand)) (class_place (stand_class q.stand))) of_sides (tied (class_place (stand_class p.stand)) (class_place (stand_class q.stand)) f)
      ∙ then_less (nat_cmp (book_side_place (stand_side p.stand)) (book_side_place (stand_side q.stand))) (bucket_id_cmp (stand_bucket p.stand) (stand_bucket q.stand)) h

-- the parts of a place of a side
record Parts (c : ProductClass) (k : RiskClass) (b : BookSide) (p : Place) : Type 0 where
  pub product : product_place p.product ≡ product_place c
  pub class : class_place (stand_class p.stand) ≡ class_place k
  pub side : same_side (stand_side p.stand) b ≡ true

parts_of : (c : ProductClass) (k : RiskClass) (b : BookSide) (p : Place) → is_on c k b p ≡ true → Parts c k b p
parts_of c k b p h =
    let both = and_parts (same_product p.product c) (same_class (stand_class p.stand) k && same_side (stand_side p.stand) b) h in
    let rest = and_parts (same_class (stand_class p.stand) k) (same_side (stand_side p.stand) b) both.1 in
    record { product = eqb-true (product_place p.product) (product_place c) both.0; class = eqb-true (class_place (stand_class p.stand)) (class_place k) rest.0; side = rest.1 }

own_side : (p : Place) → is_on p.product (stand_class p.stand) (stand_side p.stand) p ≡ true
own_side p =
    and_from (same_product p.product p.product) (same_class (stand_class p.stand) (stand_class p.stand) && same_side (stand_side p.stand) (stand_side p.stand)) (eq-eqb (product_place p.product) (product_place p.product) refl)
    (and_from (same_class (stand_class p.stand) (stand_class p.stand)) (same_side (stand_side p.stand) (stand_side p.stand)) (eq-eqb (class_place (stand_class p.stand)) (class_place (stand_class p.stand)) refl) (itself (stand_side p.stand)))
  where
    itself : (s : BookSide) → same_side s s ≡ true
    itself side.Delta = refl
    itself side.Volatility = refl

-- the order of classes
abbrev by_product : ProductClass → ProductClass → Ordering
by_product a b = nat_cmp (product_place a) (product_place b)

abbrev by_class : RiskClass → RiskClass → Ordering
by_class a b = nat_cmp (class_place a) (class_place b)

product_total : IsTotalOrder by_product
product_total = on_total product_place nat_cmp_total

class_total : IsTotalOrder by_class
class_total = on_total class_place nat_cmp_total

exact_products : CmpEqualImpliesEq by_product
exact_products a b e = one_product a b (exact_unsigned _ _ e)

exact_classes : CmpEqualImpliesEq by_class
exact_classes a b e = one_class a b (exact_unsigned _ _ e)

products_ascend : IsStrictlySortedBy by_product products
unfolding IsStrictlySortedBy
products_ascend = ((refl, (refl, (refl, tt))), ((refl, (refl, tt)), ((refl, tt), (tt, tt))))

classes_ascend : IsStrictlySortedBy by_class classes
unfolding IsStrictlySortedBy
classes_ascend =
    ((refl, (refl, (refl, (refl, (refl, tt))))), ((refl, (refl, (refl, (refl, tt)))), ((refl, (refl, (refl, tt))), ((refl, (refl, tt)), ((refl, tt), (tt, tt))))))

all_products : (x : ProductClass) → list_any (is_at (by_product x)) products ≡ true
all_products product.RatesFX = refl
all_products product.Credit = refl
all_products product.Equity = refl
all_products product.Commodity = refl

all_classes : (x : RiskClass) → list_any (is_at (by_class x)) classes ≡ true
all_classes class.IR = refl
all_classes class.CreditQ = refl
all_classes class.CreditNonQ = refl
all_classes class.Equity = refl
all_classes class.Commodity = refl
all_classes class.FX = refl

-- ---- the places of a book

abbrev pub Anywhere : Place → Type 0
Anywhere q = Unit {0}

module _ (fs : List (FactorKey × Holding)) where
  -- a place where nothing stands is not crowded
  absent : (q : Place) → list_any (is_at (place_cmp q)) (places_of fs) ≡ false → fault_at fs q ≡ None
  absent q h = ap (λ xs. bucket_fault (length xs)) (none_kept (factors_at q fs) (any_there q fs ∙ h))

  -- the first crowded one of places in order
  pub find_first : (qs : List Place) → IsStrictlySortedBy place_cmp qs → IsFirst fs (λ q. list_any (is_at (place_cmp q)) qs ≡ true) (find (λ q. is_some (fault_at fs q)) qs)
  find_first [] s = λ q there. absurd (false≢true there)
  find_first (p ∷ ps) s = by (is_some (fault_at fs p)) refl (find (λ q. is_some (fault_at fs q)) ps) (find_first ps (sorted_tail place_cmp p ps s))
    where
      among : is_some (fault_at fs p) ≡ false → (q : Place) (t : Bool) → is_eq (place_cmp q p) ≡ t → (list_any (is_at (place_cmp q)) ps ≡ true → fault_at fs q ≡ None) → (t || list_any (is_at (place_cmp q)) ps) ≡ true → fault_at fs q ≡ None
      among e q true h i there = ap (fault_at fs) (one_place q p h) ∙ none_from_test (fault_at fs p) e
      among e q false h i there = i there

      by : (t : Bool) → is_some (fault_at fs p) ≡ t → (found : Option Place) → IsFirst fs (λ q. list_any (is_at (place_cmp q)) ps ≡ true) found
          → IsFirst fs (λ q. list_any (is_at (place_cmp q)) (p ∷ ps) ≡ true) (cond t (Some p) found)
      by true e found i = (e, λ q there less. absurd (false≢true (sym (not_before place_total q p ps less s) ∙ there)))
      by false e None i = λ q there. among e q (is_eq (place_cmp q p)) refl (i q) there
      by false e (Some r) i = (i.0, λ q there less. among e q (is_eq (place_cmp q p)) refl (λ h. i.1 q h less) there)

  somewhere : (q : Place) (t : Bool) → list_any (is_at (place_cmp q)) (places_of fs) ≡ t → (t ≡ true → fault_at fs q ≡ None) → fault_at fs q ≡ None
  somewhere q true h f = f refl
  somewhere q false h f = absent q h

  everywhere : (found : Option Place) → IsFirst fs (λ q. list_any (is_at (place_cmp q)) (places_of fs) ≡ true) found → IsFirst fs Anywhere found
  everywhere None h = λ q any. somewhere q (list_any (is_at (place_cmp q)) (places_of fs)) refl (h q)
  everywhere (Some p) h = (h.0, λ q any less. somewhere q (list_any (is_at (place_cmp q)) (places_of fs)) refl (λ there. h.1 q there less))

  abbrev least : Option Place
  least = find (λ q. is_some (fault_at fs q)) (places_of fs)

  least_is : IsFirst fs Anywhere least
  least_is = everywhere least (find_first (places_of fs) (places_ascend fs))

  -- a crowded place is there
  there : (q : Place) → is_some (fault_at fs q) ≡ true → list_any (is_at (place_cmp q)) (places_of fs) ≡ true
  there q some = by (list_any (is_at (place_cmp q)) (places_of fs)) refl
    where
      by : (t : Bool) → list_any (is_at (place_cmp q)) (places_of fs) ≡ t → t ≡ true
      by true h = refl
      by false h = absurd (false≢true (sym (ap is_some (absent q h)) ∙ some))

  -- the first fault of all places, in their order
  pub keys_first : (found : Option Place) → IsFirst fs Anywhere found → keys_fault fs ≡ fault_of fs found
  keys_first found h = ap first_some (map-map place_fault (lent_at fs) (places_of fs)) ∙ by found h
    where
      by : (found : Option Place) → IsFirst fs Anywhere found → first_some (map (fault_at fs) (places_of fs)) ≡ fault_of fs found
      by None h =
          all_none (map (fault_at fs) (places_of fs))
          (each_map IsNone (fault_at fs) (places_of fs) (each_always (λ q. fault_at fs q ≡ None) (λ q. h q tt) (places_of fs)))
      by (Some q) h = first_least place_total exact_places (fault_at fs) (places_of fs) q (places_ascend fs) (there q h.0) (λ p less. h.1 p tt less) h.0

  -- ---- side by side

  abbrev pub side_keys : ProductClass → RiskClass → BookSide → Option RangeFault
  side_keys c k b = first_some (map place_fault (by_side c k b fs))

  abbrev pub class_keys : ProductClass → RiskClass → Option RangeFault
  class_keys product class = either_first (side_keys product class side.Delta) (side_keys product class side.Volatility)

  abbrev pub product_keys : ProductClass → Option RangeFault
  product_keys product = first_some (map (class_keys product) classes)

  keys_on : (c : ProductClass) (k : RiskClass) (b : BookSide) → side_keys c k b ≡ first_some (map (fault_at fs) (filter (is_on c k b) (places_of fs)))
  keys_on c k b =
      ap (λ es. first_some (map place_fault es)) (lent-filter (is_on c k b) fs (places_of fs))
      ∙ ap first_some (map-map place_fault (lent_at fs) (filter (is_on c k b) (places_of fs)))

  none_side : (c : ProductClass) (k : RiskClass) (b : BookSide) → ((p : Place) → Parts c k b p → fault_at fs p ≡ None) → side_keys c k b ≡ None
  none_side c k b h = keys_on c k b ∙ none_on (fault_at fs) (is_on c k b) (λ p e. h p (parts_of c k b p e)) (places_of fs)

  none_class : (product : ProductClass) (class : RiskClass) → ((p : Place) → product_place p.product ≡ product_place product → class_place (stand_class p.stand) ≡ class_place class → fault_at fs p ≡ None) → class_keys product class ≡ None
  none_class product class h =
      (λ i. either_first (none_side product class side.Delta (λ p its. h p its.product its.class) i) (none_side product class side.Volatility (λ p its. h p its.product its.class) i))

  none_product : (product : ProductClass) → ((p : Place) → product_place p.product ≡ product_place product → fault_at fs p ≡ None) → product_keys product ≡ None
  none_product product h =
      all_none (map (class_keys product) classes)
      (each_map IsNone (class_keys product) classes (each_always (λ c. class_keys product c ≡ None) (λ c. none_class product c (λ p e f. h p e)) classes))

  module _ (q : Place) (some : is_some (fault_at fs q) ≡ true) (before : (p : Place) → place_cmp p q ≡ Less → fault_at fs p ≡ None) where
    first_side : side_keys q.product (stand_class q.stand) (stand_side q.stand) ≡ fault_at fs q
    first_side =
        keys_on q.product (stand_class q.stand) (stand_side q.stand)
        ∙ first_least place_total exact_places (fault_at fs) (filter (is_on q.product (stand_class q.stand) (stand_side q.stand)) (places_of fs)) q (IsStrictlySortedBy-filter place_cmp (is_on q.product (stand_class q.stand) (stand_side q.stand)) (places_of fs) (places_ascend fs))
        (any-filter_same (is_at (place_cmp q)) (is_on q.product (stand_class q.stand) (stand_side q.stand)) true (λ p e. ap (is_on q.product (stand_class q.stand) (stand_side q.stand)) (sym (one_place q p e)) ∙ own_side q) (places_of fs) ∙ there q some)
        before some

    first_sides : (s : BookSide) → (stand_side q.stand) ≡ s → class_keys q.product (stand_class q.stand) ≡ fault_at fs q
    first_sides side.Delta e =
        let own : side_keys q.product (stand_class q.stand) side.Delta ≡ fault_at fs q = ap (λ s. side_keys q.product (stand_class q.stand) s) (sym e) ∙ first_side in
        either_chosen (side_keys q.product (stand_class q.stand) side.Delta) (side_keys q.product (stand_class q.stand) side.Volatility) (ap is_some own ∙ some) ∙ own
    first_sides side.Volatility e =
        let own : side_keys q.product (stand_class q.stand) side.Volatility ≡ fault_at fs q = ap (λ s. side_keys q.product (stand_class q.stand) s) (sym e) ∙ first_side in
        let none : side_keys q.product (stand_class q.stand) side.Delta ≡ None =
        none_side q.product (stand_class q.stand) side.Delta (λ p its. before p (less_side p q its.product its.class (below (stand_side p.stand) its.side))) in
        either_second (side_keys q.product (stand_class q.stand) side.Delta) (side_keys q.product (stand_class q.stand) side.Volatility) (ap is_some none) ∙ own
      where
        below : (s : BookSide) → same_side s side.Delta ≡ true → nat_cmp (book_side_place s) (book_side_place (stand_side q.stand)) ≡ Less
        below side.Delta h = ap (λ t. nat_cmp 0 (book_side_place t)) e
        below side.Volatility h = absurd (false≢true h)

    first_classes : product_keys q.product ≡ fault_at fs q
    first_classes =
        first_least class_total exact_classes (class_keys q.product) classes (stand_class q.stand) classes_ascend (all_classes (stand_class q.stand))
        (λ c less. none_class q.product c (λ p e f. before p (less_class p q e (ap (λ n. nat_cmp n (class_place (stand_class q.stand))) f ∙ less))))
        (ap is_some (first_sides (stand_side q.stand) refl) ∙ some)
        ∙ first_sides (stand_side q.stand) refl

    first_products : first_some (map product_keys products) ≡ fault_at fs q
    first_products =
        first_least product_total exact_products product_keys products q.product products_ascend (all_products q.product)
        (λ c less. none_product c (λ p e. before p (less_product p q (ap (λ n. nat_cmp n (product_place q.product)) e ∙ less))))
        (ap is_some first_classes ∙ some)
        ∙ first_classes

  sides_first : (found : Option Place) → IsFirst fs Anywhere found → first_some (map product_keys products) ≡ fault_of fs found
  sides_first None h =
      all_none (map product_keys products)
      (each_map IsNone product_keys products (each_always (λ c. product_keys c ≡ None) (λ c. none_product c (λ p e. h p tt)) products))
  sides_first (Some q) h = first_products q h.0 (λ p less. h.1 p tt less)

  -- place by place, and class by class
  pub keys_by_class : first_some (map product_keys products) ≡ keys_fault fs
  keys_by_class = sides_first least least_is ∙ sym (keys_first least least_is)
