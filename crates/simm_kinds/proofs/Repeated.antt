-- Lists in which an item stands twice.
use Rattle.std.proofs.Common.{◌≡◌, ℕ, ◌+◌, ◌<◌, Bool, true, false, ◌||◌, cond, List, [], ◌∷◌, ◌++◌, length, map, get_or, take, drop, refl, sym, ap, ◌∙◌, inl, inr, Ordering, Bor}
use Rattle.std.specs.Cmp.{IsEquivalence, IsTotalOrder}
use Rattle.std.specs.List.{list_any}
use Rattle.std.specs.Ordering.{eq_by_cmp}
use Rattle.std.proofs.lemmas.Bool.{or_left, or_right, or_cases, or_from}
use Rattle.std.proofs.lemmas.Cmp.{eq_by_cmp_equiv}
use Rattle.std.proofs.lemmas.List.Folds.{list_any-append}
use Rattle.std.proofs.lemmas.List.{take-append-drop, take_more}
use Rattle.simm_kinds.specs.Repeats.{repeats}

-- a front that repeats an item makes the whole repeat it
pub repeats_front : {A : Type 0} (same : A → A → Bool) (xs ys : List A) → repeats same xs ≡ true → repeats same (xs ++ ys) ≡ true
repeats_front same [] ys h = absurd (cc)
repeats_front same (x ∷ xs) ys h =
    elim (or_cases (list_any (same x) xs) (repeats same xs) h) [
      | inl here ↦ or_left _ _ (list_any-append (same x) xs ys ∙ or_left _ _ here)
      | inr later ↦ or_right _ _ (repeats_front same xs ys later)
    ]

push_bits : (a r s t : Bool) → ((a || (s || false)) || (r || t)) ≡ ((a || r) || (s || t))
push_bits true r s t = refl
push_bits false r true t = elim r as (λ v. ((false || (true || false)) || (v || t)) ≡ ((false || v) || (true || t))) [ true ↦ refl | false ↦ refl ]
push_bits false r false t = refl

-- one more item repeats one that is there, or those there repeat one
pub repeats_push : {A : Type 0} {same : A → A → Bool} (laws : IsEquivalence same) (xs : List A) (x : A) → repeats same (xs ++ x ∷ []) ≡ (repeats same xs || list_any (same x) xs)
repeats_push laws [] x = refl
repeats_push {same = same} laws (y ∷ ys) x =
    ap (λ a. a || repeats same (ys ++ x ∷ [])) (list_any-append (same y) ys (x ∷ []))
    ∙ ap (λ r. (list_any (same y) ys || (same y x || false)) || r) (repeats_push laws ys x)
    ∙ ap (λ s. (list_any (same y) ys || (s || false)) || (repeats same ys || list_any (same x) ys)) (laws.symm y x)
    ∙ push_bits (list_any (same y) ys) (repeats same ys) (same x y) (list_any (same x) ys)

seen_bits : (s a : Bool) → cond s true a ≡ (a || (s || false))
seen_bits true a = elim a as (λ v. true ≡ (v || true)) [ true ↦ refl | false ↦ refl ]
seen_bits false a = elim a as (λ v. v ≡ (v || false)) [ true ↦ refl | false ↦ refl ]

pub take_next : {A : Type 0} (xs : List A) (i : ℕ) (x : A) → i < length xs → x ≡ get_or xs i x → take (i + 1) xs ≡ take i xs ++ x ∷ []
take_next xs i x within is = take_more xs i x within ∙ ap (λ y. take i xs ++ y ∷ []) (sym is)

module _ {K : Type 0} {cmp : K → K → Ordering} (laws : IsTotalOrder cmp) (xs : List K) (i : ℕ) (x : K) (within : i < length xs) (is : x ≡ get_or xs i x) where
  -- what a set of the keys so far has once the next key is in it
  pub seen_more : (q : K) (old new : Bool) → new ≡ cond (eq_by_cmp cmp x q) true old → old ≡ list_any (eq_by_cmp cmp q) (take i xs) → new ≡ list_any (eq_by_cmp cmp q) (take (i + 1) xs)
  seen_more q old new updates has =
      updates ∙ ap (cond (eq_by_cmp cmp x q) true) has
      ∙ seen_bits (eq_by_cmp cmp x q) (list_any (eq_by_cmp cmp q) (take i xs))
      ∙ ap (λ s. list_any (eq_by_cmp cmp q) (take i xs) || (s || false)) ((eq_by_cmp_equiv laws).symm x q)
      ∙ sym (list_any-append (eq_by_cmp cmp q) (take i xs) (x ∷ []))
      ∙ ap (list_any (eq_by_cmp cmp q)) (sym (take_next xs i x within is))

  repeats_next : repeats (eq_by_cmp cmp) (take (i + 1) xs) ≡ (repeats (eq_by_cmp cmp) (take i xs) || list_any (eq_by_cmp cmp x) (take i xs))
  repeats_next = ap (repeats (eq_by_cmp cmp)) (take_next xs i x within is) ∙ repeats_push (eq_by_cmp_equiv laws) (take i xs) x

  -- a new key repeats none
  pub repeats_more : repeats (eq_by_cmp cmp) (take i xs) ≡ false → list_any (eq_by_cmp cmp x) (take i xs) ≡ false → repeats (eq_by_cmp cmp) (take (i + 1) xs) ≡ false
  repeats_more once new = repeats_next ∙ or_from _ _ once new

  -- a key that was there repeats it
  pub repeats_found : list_any (eq_by_cmp cmp x) (take i xs) ≡ true → repeats (eq_by_cmp cmp) xs ≡ true
  repeats_found there =
      ap (repeats (eq_by_cmp cmp)) (sym (take-append-drop (i + 1) xs))
      ∙ repeats_front (eq_by_cmp cmp) (take (i + 1) xs) (drop (i + 1) xs) (repeats_next ∙ or_right _ _ there)

list_any-map : {A B : Type 0} (f : A → B) (p : B → Bool) (xs : List A) → list_any (λ x. p (f x)) xs ≡ list_any p (map f xs)
list_any-map f p [] = refl
list_any-map f p (x ∷ xs) = ap (λ a. p (f x) || a) (list_any-map f p xs)

-- alike items of another kind repeat alike
pub repeats-map : {A B : Type 0} (f : A → B) (same : B → B → Bool) (xs : List A) → repeats (λ x y. same (f x) (f y)) xs ≡ repeats same (map f xs)
repeats-map f same [] = refl
repeats-map f same (x ∷ xs) = ap (λ a. a || repeats (λ y z. same (f y) (f z)) xs) (list_any-map f (same (f x)) xs)
    ∙ ap (λ b. list_any (same (f x)) (map f xs) || b) (repeats-map f same xs)

-- lent items repeat as the items do
pub lent_repeat : {A : Type 0} (same : A → A → Bool) (items refs : List (Bor A)) → refs ≡ items → repeats (λ x y. same x.now y.now) refs ≡ repeats same (map (λ x. x.now) items)
lent_repeat same items refs are = ap (repeats (λ x y. same x.now y.now)) are ∙ repeats-map (λ x. x.now) same items
