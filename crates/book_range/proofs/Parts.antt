-- Some of the items of a list, in their order.
use Rattle.std.proofs.Common.{◌≡◌, ◌≤◌, List, [], ◌∷◌, ◌++◌, map, length, Bool, true, false, ◌||◌, cond, refl, sym, ap, ◌∙◌, ℤ, pos, ◌≤ℤ◌, arith}
use Rattle.std.specs.declared.cmp.Ordering.{Ordering}
use Rattle.std.specs.declared.cmp.Ordering.TheVariants.{Less, Equal, Greater}
use Rattle.std.specs.Ordering.{is_eq, ordering_reverse}
use Rattle.std.specs.List.{filter, flat_map, list_any, AllByRecursion}
use Rattle.std.specs.List.Sorted.{IsStrictlySortedBy}
use Rattle.std.proofs.lemmas.Bool.{false≢true, or_right}
use Rattle.std.proofs.lemmas.Int.{ints}
use Rattle.simm_params.specs.SimmKinds.declared.key.FactorKey.{FactorKey}
use Rattle.simm_params.specs.SimmKinds.Order.{same_key, key_cmp}
use Rattle.simm_params.proofs.SimmKinds.Orders.{key_total, exact_keys}
use Rattle.simm_params.specs.SimmRules.Sums.{total_by}
use Rattle.simm_params.specs.SimmRules.Net.{Sensitivity, keys_of}
use Rattle.factor_book.proofs.Sorting.{any_different, different_ascends}
use Rattle.factor_book.proofs.Keys.{is_eq-Equal, same_key_refl}
use Rattle.book_range.proofs.Lists.{each_weaker}

pub data IsPart {X : Type 0} : List X → List X → Type 0 where
  done : IsPart [] []
  skip : (y : X) (xs ys : List X) → IsPart xs ys → IsPart xs (y ∷ ys)
  keep : (x : X) (xs ys : List X) → IsPart xs ys → IsPart (x ∷ xs) (x ∷ ys)

pub no_part : {X : Type 0} (xs ys zs : List X) → IsPart ys zs → IsPart ys (xs ++ zs)
no_part [] ys zs h = h
no_part (x ∷ xs) ys zs h = skip x ys (xs ++ zs) (no_part xs ys zs h)

pub front_part : {X : Type 0} (xs ys zs : List X) → IsPart ys zs → IsPart (xs ++ ys) (xs ++ zs)
front_part [] ys zs h = h
front_part (x ∷ xs) ys zs h = keep x (xs ++ ys) (xs ++ zs) (front_part xs ys zs h)

pub length-part : {X : Type 0} (xs ys : List X) → IsPart xs ys → length xs ≤ length ys
length-part _ _ done = omega arith
length-part _ _ (skip y xs ys h) = omega (arith, length-part xs ys h)
length-part _ _ (keep x xs ys h) = omega (arith, length-part xs ys h)

-- a sum of terms that are not negative
pub total-part : {X : Type 0} (f : X → ℤ) → ((x : X) → pos 0 ≤ℤ f x) → (xs ys : List X) → IsPart xs ys → total_by f xs ≤ℤ total_by f ys
total-part f low _ _ done = omega (arith, ints)
total-part f low _ _ (skip y xs ys h) = omega (arith, ints, total-part f low xs ys h, low y)
total-part f low _ _ (keep x xs ys h) = omega (arith, ints, total-part f low xs ys h)

filter-skip : {X : Type 0} (t : Bool) (y : X) (xs ys : List X) → IsPart xs ys → IsPart xs (cond t (y ∷ ys) ys)
filter-skip true y xs ys h = skip y xs ys h
filter-skip false y xs ys h = h

filter-keep : {X : Type 0} (t : Bool) (x : X) (xs ys : List X) → IsPart xs ys → IsPart (cond t (x ∷ xs) xs) (cond t (x ∷ ys) ys)
filter-keep true x xs ys h = keep x xs ys h
filter-keep false x xs ys h = h

pub filter-part : {X : Type 0} (test : X → Bool) (xs ys : List X) → IsPart xs ys → IsPart (filter test xs) (filter test ys)
filter-part test _ _ done = done
filter-part test _ _ (skip y xs ys h) = filter-skip (test y) y (filter test xs) (filter test ys) (filter-part test xs ys h)
filter-part test _ _ (keep x xs ys h) = filter-keep (test x) x (filter test xs) (filter test ys) (filter-part test xs ys h)

pub flat_map-part : {X A : Type 0} (f : X → List A) (xs ys : List X) → IsPart xs ys → IsPart (flat_map f xs) (flat_map f ys)
flat_map-part f _ _ done = done
flat_map-part f _ _ (skip y xs ys h) = no_part (f y) (flat_map f xs) (flat_map f ys) (flat_map-part f xs ys h)
flat_map-part f _ _ (keep x xs ys h) = front_part (f x) (flat_map f xs) (flat_map f ys) (flat_map-part f xs ys h)

or_more : (s t u : Bool) → (t ≡ true → u ≡ true) → (s || t) ≡ true → (s || u) ≡ true
or_more true t u f h = refl
or_more false t u f h = f h

any-part : {X : Type 0} (test : X → Bool) (xs ys : List X) → IsPart xs ys → list_any test xs ≡ true → list_any test ys ≡ true
any-part test _ _ done h = h
any-part test _ _ (skip y xs ys s) h = or_right (test y) (list_any test ys) (any-part test xs ys s h)
any-part test _ _ (keep x xs ys s) h = or_more (test x) (list_any test xs) (list_any test ys) (any-part test xs ys s) h

map-part : {X A : Type 0} (f : X → A) (xs ys : List X) → IsPart xs ys → IsPart (map f xs) (map f ys)
map-part f _ _ done = done
map-part f _ _ (skip y xs ys h) = skip (f y) (map f xs) (map f ys) (map-part f xs ys h)
map-part f _ _ (keep x xs ys h) = keep (f x) (map f xs) (map f ys) (map-part f xs ys h)

-- ---- ascending keys among others are no more

or_rest : (s t : Bool) → (s || t) ≡ true → s ≡ false → t ≡ true
or_rest true t h e = absurd (false≢true (sym e))
or_rest false t h e = h

no_key : (q : FactorKey) (ks : List FactorKey) → AllByRecursion (λ k. key_cmp q k ≡ Less) ks → list_any (same_key q) ks ≡ false
no_key q [] h = refl
no_key q (k ∷ ks) h = ap (λ o. is_eq o || list_any (same_key q) ks) h.0 ∙ no_key q ks h.1

past : (q k : FactorKey) (ks : List FactorKey) → key_cmp q k ≡ Less → AllByRecursion (λ l. key_cmp k l ≡ Less) ks → list_any (same_key q) (k ∷ ks) ≡ false
past q k ks less h = no_key q (k ∷ ks) (less, each_weaker (λ l. key_cmp k l ≡ Less) (λ l. key_cmp q l ≡ Less) (λ l e. key_total.trans q k l less e) ks h)

-- no key of those behind x is x itself
behind : (q x : FactorKey) (ks : List FactorKey) → AllByRecursion (λ l. key_cmp x l ≡ Less) ks → list_any (same_key q) ks ≡ true → same_key q x ≡ false
behind q x ks less h = by (same_key q x) refl
  where
    by : (t : Bool) → same_key q x ≡ t → t ≡ false
    by false e = refl
    by true e =
        absurd (false≢true (sym (no_key q ks (each_weaker (λ l. key_cmp x l ≡ Less) (λ l. key_cmp q l ≡ Less) (λ l g. key_total.congr q x l (is_eq-Equal (key_cmp q x) e) ∙ g) ks less)) ∙ h))

ascends_among : (xs ys : List FactorKey) → IsStrictlySortedBy key_cmp xs → IsStrictlySortedBy key_cmp ys → ((q : FactorKey) → list_any (same_key q) xs ≡ true → list_any (same_key q) ys ≡ true) → length xs ≤ length ys
unfolding IsStrictlySortedBy
ascends_among [] ys s t among = omega arith
ascends_among (x ∷ xs) [] s t among = absurd (false≢true (among x (ap (λ b. b || list_any (same_key x) xs) (same_key_refl x))))
ascends_among (x ∷ xs) (y ∷ ys) s t among =
    heads (key_cmp x y) refl (λ rest. ascends_among xs ys s.1 t.1 rest) (λ rest. ascends_among (x ∷ xs) ys s t.1 rest)
  where
    heads : (o : Ordering) → key_cmp x y ≡ o
        → (((q : FactorKey) → list_any (same_key q) xs ≡ true → list_any (same_key q) ys ≡ true) → length xs ≤ length ys)
        → (((q : FactorKey) → list_any (same_key q) (x ∷ xs) ≡ true → list_any (same_key q) ys ≡ true) → length (x ∷ xs) ≤ length ys)
        → length (x ∷ xs) ≤ length (y ∷ ys)
    heads Less e both one = absurd (false≢true (sym (past x y ys e t.0) ∙ among x (ap (λ b. b || list_any (same_key x) xs) (same_key_refl x))))
    heads Equal e both one =
        let at : x ≡ y = exact_keys x y e in
        let rest : length xs ≤ length ys = both (λ q h. or_rest (same_key q y) (list_any (same_key q) ys) (among q (or_right (same_key q x) (list_any (same_key q) xs) h)) (ap (same_key q) (sym at) ∙ behind q x xs s.0 h)) in
        omega (arith, rest)
    heads Greater e both one =
        let above : key_cmp y x ≡ Less = key_total.antisymm y x ∙ ap ordering_reverse e in
        let later : AllByRecursion (λ l. key_cmp y l ≡ Less) (x ∷ xs) = (above, each_weaker (λ l. key_cmp x l ≡ Less) (λ l. key_cmp y l ≡ Less) (λ l g. key_total.trans y x l above g) xs s.0) in
        let rest : length (x ∷ xs) ≤ length ys = one (λ q h. or_rest (same_key q y) (list_any (same_key q) ys) (among q h) (behind q y (x ∷ xs) later h)) in
        omega (arith, rest)

key_among : (q : FactorKey) (ss : List Sensitivity) → list_any (same_key q) (keys_of ss) ≡ list_any (same_key q) (map (λ s. s.key) ss)
key_among q ss = any_different key_cmp (same_key q) (λ k l e. ap (same_key q) (exact_keys k l e)) (map (λ s. s.key) ss)

pub keys-part : (xs ys : List Sensitivity) → IsPart xs ys → length (keys_of xs) ≤ length (keys_of ys)
keys-part xs ys h =
    ascends_among (keys_of xs) (keys_of ys) (different_ascends key_cmp key_total (map (λ s. s.key) xs)) (different_ascends key_cmp key_total (map (λ s. s.key) ys))
    (λ q there. key_among q ys ∙ any-part (same_key q) (map (λ s. s.key) xs) (map (λ s. s.key) ys) (map-part (λ s. s.key) xs ys h) (sym (key_among q xs) ∙ there))
