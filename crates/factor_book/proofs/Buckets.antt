-- The places of a side, by the ids of their buckets.
use Rattle.std.proofs.Common.{◌≡◌, ◌≢◌, ℕ, List, [], ◌∷◌, map, Bool, true, false, ◌&&◌, ◌||◌, cond, refl, sym, ap, ◌∙◌, subst}
use Rattle.std.specs.declared.cmp.Ordering.{Ordering}
use Rattle.std.specs.declared.cmp.Ordering.TheVariants.{Less, Equal, Greater}
use Rattle.std.specs.Ordering.{nat_cmp, ordering_then, is_eq}
use Rattle.std.specs.Cmp.{nat_cmp_is}
use Rattle.std.specs.List.{filter, list_any, AllByRecursion}
use Rattle.std.specs.List.Sorted.{IsStrictlySortedBy}
use Rattle.std.specs.BTreeMap.{is_at}
use Rattle.std.proofs.lemmas.Bool.{and_parts, eqb-true, false≢true, or_right}
use Rattle.std.proofs.lemmas.List.Kept.{IsStrictlySortedBy-filter}
use Rattle.std.proofs.lemmas.Map.Views.{any-filter_same}
use Rattle.simm_rules.specs.SimmKinds.declared.kinds.ProductClass.{ProductClass}
use Rattle.simm_rules.specs.SimmKinds.declared.kinds.RiskClass.{RiskClass}
use Rattle.simm_rules.specs.SimmKinds.declared.kinds.BucketId.{BucketId}
use Rattle.simm_rules.specs.SimmKinds.declared.key.FactorKey.{FactorKey}
use Rattle.simm_rules.specs.SimmKinds.Factors.{class_of, side_of, bucket_of}
use Rattle.simm_rules.specs.SimmKinds.Order.{product_place, class_place, bucket_id_cmp, same_product, same_class}
use Rattle.simm_rules.proofs.SimmKinds.Orders.{one_product, one_class}
use Rattle.simm_rules.specs.Sums.{placed, put_in, different}
use Rattle.factor_book.specs.declared.address.Address.{Address}
use Rattle.factor_book.specs.declared.holding.Holding.{Holding}
use Rattle.factor_book.specs.declared.place.BookSide.{BookSide}
use Rattle.factor_book.specs.declared.place.BookSide.TheVariants as book
use Rattle.factor_book.specs.declared.place.Place.{Place}
use Rattle.factor_book.specs.Address.{book_side, book_side_place, key_address, address_cmp, same_side}
use Rattle.factor_book.specs.Place.{address_of, place_cmp, place_of}
use Rattle.factor_book.specs.Places.{by_side, factors_at, is_key_on, is_on, lent_at, places_of, Lent}
use Rattle.factor_book.proofs.Filed.{any_at}
use Rattle.factor_book.proofs.Grouping.{any_is}
use Rattle.factor_book.proofs.Placed.{addresses_are, different-under, key_places}
use Rattle.factor_book.proofs.Sorting.{any_different, different_ascends, each_weaker, same_items}
use Rattle.factor_book.proofs.Standing.{exact_places, filed_under, one_place, own_place, place_total, tied_place}

abbrev Factors : Type 0
Factors = List (FactorKey × Holding)

any-map : {X Y : Type 0} (p : Y → Bool) (g : X → Y) (xs : List X) → list_any p (map g xs) ≡ list_any (λ x. p (g x)) xs
any-map p g [] = refl
any-map p g (x ∷ xs) = ap (λ t. p (g x) || t) (any-map p g xs)

pub places_ascend : (fs : Factors) → IsStrictlySortedBy place_cmp (places_of fs)
places_ascend fs = different_ascends place_cmp place_total (map (λ f. place_of f.0) fs)

-- something stands at a place where it is one of those of the factors
pub any_there : (q : Place) (fs : Factors) → any_is (factors_at q fs) ≡ list_any (is_at (place_cmp q)) (places_of fs)
any_there q fs = any_at (address_of q) fs ∙ ap (list_any (is_at (address_cmp (address_of q)))) (sym (addresses_are fs)) ∙ any-map (is_at (address_cmp (address_of q))) address_of (places_of fs)

-- places that are kept, as they are lent
pub lent-filter : (test : Place → Bool) (fs : Factors) (ps : List Place) → filter (λ (lent : Lent). test lent.place) (map (lent_at fs) ps) ≡ map (lent_at fs) (filter test ps)
lent-filter test fs [] = refl
lent-filter test fs (p ∷ ps) = by (test p) (lent-filter test fs ps)
  where
    by : (t : Bool) → filter (λ (lent : Lent). test lent.place) (map (lent_at fs) ps) ≡ map (lent_at fs) (filter test ps)
        → cond t (lent_at fs p ∷ filter (λ (lent : Lent). test lent.place) (map (lent_at fs) ps)) (filter (λ (lent : Lent). test lent.place) (map (lent_at fs) ps)) ≡ map (lent_at fs) (cond t (p ∷ filter test ps) (filter test ps))
    by true e = ap (λ ls. lent_at fs p ∷ ls) e
    by false e = e

-- ---- of a side of a risk class in a product class

one_side : (s t : BookSide) → same_side s t ≡ true → s ≡ t
one_side book.Delta book.Delta e = refl
one_side book.Delta book.Volatility e = absurd (false≢true e)
one_side book.Volatility book.Delta e = absurd (false≢true e)
one_side book.Volatility book.Volatility e = refl

module _ (c : ProductClass) (k : RiskClass) (s : BookSide) where
  -- its factors
  abbrev pub own : Factors → Factors
  own fs = filter (λ f. is_key_on c k s f.0) fs

  pub on_side : (key : FactorKey) → is_on c k s (place_of key) ≡ is_key_on c k s key
  on_side key = ap (λ (a : Address). same_product a.product c && (same_class a.class k && same_side a.side s)) (filed_under key)

  any_on : (q : Place) (fs : Factors) → (is_on c k s q && list_any (is_at (place_cmp q)) (map (λ f. place_of f.0) fs)) ≡ list_any (is_at (place_cmp q)) (map (λ f. place_of f.0) (own fs))
  any_on q [] = none (is_on c k s q)
    where
      none : (t : Bool) → (t && false) ≡ false
      none true = refl
      none false = refl
  any_on q (f ∷ fs) = by (is_at (place_cmp q) (place_of f.0)) refl (is_key_on c k s f.0) refl (any_on q fs)
    where
      by : (b : Bool) → is_at (place_cmp q) (place_of f.0) ≡ b → (t : Bool) → is_key_on c k s f.0 ≡ t
          → (is_on c k s q && list_any (is_at (place_cmp q)) (map (λ g. place_of g.0) fs)) ≡ list_any (is_at (place_cmp q)) (map (λ g. place_of g.0) (own fs))
          → (is_on c k s q && (b || list_any (is_at (place_cmp q)) (map (λ g. place_of g.0) fs))) ≡ list_any (is_at (place_cmp q)) (map (λ g. place_of g.0) (cond t (f ∷ own fs) (own fs)))
      by true d true e i =
          ap (λ p. is_on c k s p && true) (one_place q (place_of f.0) d) ∙ ap (λ b. b && true) (on_side f.0 ∙ e)
          ∙ sym (ap (λ b. b || list_any (is_at (place_cmp q)) (map (λ g. place_of g.0) (own fs))) d)
      by true d false e i =
          let off : is_on c k s q ≡ false = ap (is_on c k s) (one_place q (place_of f.0) d) ∙ on_side f.0 ∙ e in
          ap (λ b. b && true) off ∙ sym (ap (λ b. b && list_any (is_at (place_cmp q)) (map (λ g. place_of g.0) fs)) off) ∙ i
      by false d true e i = i ∙ sym (ap (λ b. b || list_any (is_at (place_cmp q)) (map (λ g. place_of g.0) (own fs))) d)
      by false d false e i = i

  -- its places are those of its factors
  pub places_on : (fs : Factors) → filter (is_on c k s) (places_of fs) ≡ different place_cmp (map (λ f. place_of f.0) (own fs))
  places_on fs =
      same_items place_total exact_places (filter (is_on c k s) (places_of fs)) (different place_cmp (map (λ f. place_of f.0) (own fs)))
      (IsStrictlySortedBy-filter place_cmp (is_on c k s) (places_of fs) (places_ascend fs)) (different_ascends place_cmp place_total (map (λ f. place_of f.0) (own fs)))
      (λ q.
      any-filter_same (is_at (place_cmp q)) (is_on c k s) (is_on c k s q) (λ p e. ap (is_on c k s) (sym (one_place q p e))) (places_of fs)
      ∙ ap (λ t. is_on c k s q && t) (any_different place_cmp (is_at (place_cmp q)) (tied_place q) (map (λ f. place_of f.0) fs))
      ∙ any_on q fs
      ∙ sym (any_different place_cmp (is_at (place_cmp q)) (tied_place q) (map (λ f. place_of f.0) (own fs))))

  -- ---- different buckets are different addresses

  abbrev pub address_in : BucketId → Address
  address_in b = record { product = c; class = k; side = s; bucket = b }

  same_order : (a b : BucketId) → address_cmp (address_in a) (address_in b) ≡ bucket_id_cmp a b
  same_order a b = λ i. ordering_then (itself (product_place c) i) (ordering_then (itself (class_place k) i) (ordering_then (itself (book_side_place s) i) (bucket_id_cmp a b)))
    where
      itself : (n : ℕ) → nat_cmp n n ≡ Equal
      itself n = sym (nat_cmp_is n n Equal refl)

  placed-in : (o : Ordering) (x y : BucketId) (ys deeper : List BucketId) → map address_in (placed o x y ys deeper) ≡ placed o (address_in x) (address_in y) (map address_in ys) (map address_in deeper)
  placed-in Less x y ys deeper = refl
  placed-in Equal x y ys deeper = refl
  placed-in Greater x y ys deeper = refl

  put-in : (x : BucketId) (ys : List BucketId) → map address_in (put_in bucket_id_cmp x ys) ≡ put_in address_cmp (address_in x) (map address_in ys)
  put-in x [] = refl
  put-in x (y ∷ ys) =
      placed-in (bucket_id_cmp x y) x y ys (put_in bucket_id_cmp x ys)
      ∙ ap (λ o. placed o (address_in x) (address_in y) (map address_in ys) (map address_in (put_in bucket_id_cmp x ys))) (sym (same_order x y))
      ∙ ap (placed (address_cmp (address_in x) (address_in y)) (address_in x) (address_in y) (map address_in ys)) (put-in x ys)

  different-in : (xs : List BucketId) → map address_in (different bucket_id_cmp xs) ≡ different address_cmp (map address_in xs)
  different-in [] = refl
  different-in (x ∷ xs) = put-in x (different bucket_id_cmp xs) ∙ ap (put_in address_cmp (address_in x)) (different-in xs)

  key_in : (key : FactorKey) → is_key_on c k s key ≡ true → key_address key ≡ address_in (bucket_of key.factor)
  key_in key e =
      let both = and_parts (same_product key.product c) (same_class (class_of key.factor) k && same_side (book_side (side_of key.factor)) s) e in
      let rest = and_parts (same_class (class_of key.factor) k) (same_side (book_side (side_of key.factor)) s) both.1 in
      let product_is : key.product ≡ c = one_product key.product c (eqb-true _ _ both.0) in
      let class_is : class_of key.factor ≡ k = one_class (class_of key.factor) k (eqb-true _ _ rest.0) in
      let side_is : book_side (side_of key.factor) ≡ s = one_side (book_side (side_of key.factor)) s rest.1 in
      λ i. record { product = product_is i; class = class_is i; side = side_is i; bucket = bucket_of key.factor }

  keys_in : (fs : Factors) → map (λ f. key_address f.0) (own fs) ≡ map address_in (map (λ f. bucket_of f.0.factor) (own fs))
  keys_in [] = refl
  keys_in (f ∷ fs) = by (is_key_on c k s f.0) refl (keys_in fs)
    where
      by : (t : Bool) → is_key_on c k s f.0 ≡ t → map (λ g. key_address g.0) (own fs) ≡ map address_in (map (λ g. bucket_of g.0.factor) (own fs))
          → map (λ g. key_address g.0) (cond t (f ∷ own fs) (own fs)) ≡ map address_in (map (λ g. bucket_of g.0.factor) (cond t (f ∷ own fs) (own fs)))
      by true e i = λ j. key_in f.0 e j ∷ i j
      by false e i = i

  -- its places are, in order, those of the different buckets of its factors
  pub side_addresses : (fs : Factors) → map address_of (filter (is_on c k s) (places_of fs)) ≡ map address_in (different bucket_id_cmp (map (λ f. bucket_of f.0.factor) (own fs)))
  side_addresses fs =
      ap (map address_of) (places_on fs) ∙ different-under address_of address_cmp (map (λ f. place_of f.0) (own fs))
      ∙ ap (different address_cmp) (key_places (own fs) ∙ keys_in fs) ∙ sym (different-in (map (λ f. bucket_of f.0.factor) (own fs)))

-- ---- what a book lends of a side

-- a place with its factors, of which there is one
pub record IsLent (fs : Factors) (lent : Lent) : Type 0 where
  pub is : lent ≡ lent_at fs lent.place
  pub some : lent.factors ≢ []

not_none : {X : Type 0} (xs : List X) → any_is xs ≡ true → xs ≢ []
not_none xs h e = false≢true (ap any_is (sym e) ∙ h)

some_is : {X : Type 0} (xs : List X) → xs ≢ [] → any_is xs ≡ true
some_is [] h = absurd (h refl)
some_is (x ∷ xs) h = refl

-- each item of a list is among its items
own_any : (ps : List Place) → AllByRecursion (λ q. list_any (is_at (place_cmp q)) ps ≡ true) ps
own_any [] = tt
own_any (p ∷ ps) = (
  ap (λ t. t || list_any (is_at (place_cmp p)) ps) (own_place p),
  each_weaker (λ q. list_any (is_at (place_cmp q)) ps ≡ true) (λ q. list_any (is_at (place_cmp q)) (p ∷ ps) ≡ true)
      (λ q h. or_right (is_eq (place_cmp q p)) (list_any (is_at (place_cmp q)) ps) h) ps (own_any ps),
)

-- and what is so of each is so of one that is among them
among : (P : Place → Type 0) (q : Place) (ps : List Place) → AllByRecursion P ps → list_any (is_at (place_cmp q)) ps ≡ true → P q
among P q [] h e = absurd (false≢true e)
among P q (p ∷ ps) h e = by (is_eq (place_cmp q p)) refl e (among P q ps h.1)
  where
    by : (t : Bool) → is_eq (place_cmp q p) ≡ t → (t || list_any (is_at (place_cmp q)) ps) ≡ true → (list_any (is_at (place_cmp q)) ps ≡ true → P q) → P q
    by true is e i = subst P (sym (one_place q p is)) h.0
    by false is e i = i e

each_kept : (P : Place → Type 0) (test : Place → Bool) (ps : List Place) → AllByRecursion P ps → AllByRecursion P (filter test ps)
each_kept P test [] h = tt
each_kept P test (p ∷ ps) h = by (test p) (each_kept P test ps h.1)
  where
    by : (t : Bool) → AllByRecursion P (filter test ps) → AllByRecursion P (cond t (p ∷ filter test ps) (filter test ps))
    by true i = (h.0, i)
    by false i = i

each_made : (fs : Factors) (P : Lent → Type 0) (ps : List Place) → AllByRecursion (λ q. P (lent_at fs q)) ps → AllByRecursion P (map (lent_at fs) ps)
each_made fs P [] h = tt
each_made fs P (p ∷ ps) h = (h.0, each_made fs P ps h.1)

each_place : (fs : Factors) (P : Lent → Type 0) (ps : List Place) → AllByRecursion P (map (lent_at fs) ps) → AllByRecursion (λ q. P (lent_at fs q)) ps
each_place fs P [] h = tt
each_place fs P (p ∷ ps) h = (h.0, each_place fs P ps h.1)

module _ (c : ProductClass) (k : RiskClass) (s : BookSide) (fs : Factors) where
  pub side_lent : AllByRecursion (IsLent fs) (by_side c k s fs)
  side_lent =
      subst (AllByRecursion (IsLent fs)) (sym (lent-filter (is_on c k s) fs (places_of fs)))
      (each_made fs (IsLent fs) (filter (is_on c k s) (places_of fs))
      (each_kept (λ q. IsLent fs (lent_at fs q)) (is_on c k s) (places_of fs)
      (each_weaker (λ q. list_any (is_at (place_cmp q)) (places_of fs) ≡ true) (λ q. IsLent fs (lent_at fs q))
      (λ q h. record { is = refl; some = not_none (factors_at q fs) (any_there q fs ∙ h) }) (places_of fs) (own_any (places_of fs)))))

  -- what is so of each that is lent is so of a place of the side that has a factor
  pub of_side : (P : Lent → Type 0) → AllByRecursion P (by_side c k s fs) → (q : Place) → is_on c k s q ≡ true → factors_at q fs ≢ [] → P (lent_at fs q)
  of_side P each q on some =
      among (λ r. P (lent_at fs r)) q (filter (is_on c k s) (places_of fs))
      (each_place fs P (filter (is_on c k s) (places_of fs)) (subst (AllByRecursion P) (lent-filter (is_on c k s) fs (places_of fs)) each))
      (any-filter_same (is_at (place_cmp q)) (is_on c k s) true (λ p e. ap (is_on c k s) (sym (one_place q p e)) ∙ on) (places_of fs)
      ∙ sym (any_there q fs) ∙ some_is (factors_at q fs) some)
