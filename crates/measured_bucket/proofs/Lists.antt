-- Lists of which each element has a fact, and ordered ones.
use Rattle.std.proofs.Common.{◌≡◌, ℕ, zero, suc, ◌<◌, List, [], ◌∷◌, map, length, get_or, Bool, true, false, cond, ◌==◌, refl, sym, ap, ◌∙◌, arith, ⊎_elim}
use Rattle.std.specs.declared.cmp.Ordering.{Ordering}
use Rattle.std.specs.declared.cmp.Ordering.TheVariants.{Less}
use Rattle.std.specs.Ordering.{is_eq}
use Rattle.std.specs.Cmp.{IsTotalOrder}
use Rattle.std.specs.List.{filter, AllByRecursion}
use Rattle.std.specs.List.Sorted.{IsStrictlySortedBy}
use Rattle.std.proofs.lemmas.Bool.{cases_order, eq-eqb, ne_eqb}
use Rattle.std.proofs.lemmas.Cmp.{tied_itself, eq_by_cmp_equiv}

pub each_always : {X : Type 0} (P : X → Type 0) → ((x : X) → P x) → (xs : List X) → AllByRecursion P xs
each_always P f [] = tt
each_always P f (x ∷ xs) = (f x, each_always P f xs)

pub each_weaker : {X : Type 0} (P Q : X → Type 0) → ((x : X) → P x → Q x) → (xs : List X) → AllByRecursion P xs → AllByRecursion Q xs
each_weaker P Q f [] h = tt
each_weaker P Q f (x ∷ xs) h = (f x h.0, each_weaker P Q f xs h.1)

pub each_both : {X : Type 0} (P Q : X → Type 0) (xs : List X) → AllByRecursion P xs → AllByRecursion Q xs → AllByRecursion (λ x. P x × Q x) xs
each_both P Q [] h g = tt
each_both P Q (x ∷ xs) h g = ((h.0, g.0), each_both P Q xs h.1 g.1)

pub each_map : {X A : Type 0} (P : A → Type 0) (f : X → A) (xs : List X) → AllByRecursion (λ x. P (f x)) xs → AllByRecursion P (map f xs)
each_map P f [] h = tt
each_map P f (x ∷ xs) h = (h.0, each_map P f xs h.1)

pub each_unmap : {X A : Type 0} (P : A → Type 0) (f : X → A) (xs : List X) → AllByRecursion P (map f xs) → AllByRecursion (λ x. P (f x)) xs
each_unmap P f [] h = tt
each_unmap P f (x ∷ xs) h = (h.0, each_unmap P f xs h.1)

pub each_at : {X : Type 0} (P : X → Type 0) (xs : List X) (i : ℕ) (d : X) → AllByRecursion P xs → i < length xs → P (get_or xs i d)
each_at P [] i d h l = absurd (omega arith)
each_at P (x ∷ xs) zero d h l = h.0
each_at P (x ∷ xs) (suc i) d h l = each_at P xs i d h.1 (omega arith)

cond_each : {X : Type 0} (P : X → Type 0) (t : Bool) (x : X) (xs : List X) → P x → AllByRecursion P xs → AllByRecursion P (cond t (x ∷ xs) xs)
cond_each P true x xs p h = (p, h)
cond_each P false x xs p h = h

pub each_kept : {X : Type 0} (P : X → Type 0) (test : X → Bool) (xs : List X) → AllByRecursion P xs → AllByRecursion P (filter test xs)
each_kept P test [] h = tt
each_kept P test (x ∷ xs) h = cond_each P (test x) x (filter test xs) h.0 (each_kept P test xs h.1)

-- what a filter keeps passes its test
kept_more : {X : Type 0} (test : X → Bool) (t : Bool) (x : X) (xs : List X) → test x ≡ t → AllByRecursion (λ y. test y ≡ true) xs → AllByRecursion (λ y. test y ≡ true) (cond t (x ∷ xs) xs)
kept_more test true x xs e h = (e, h)
kept_more test false x xs e h = h

pub kept_pass : {X : Type 0} (test : X → Bool) (xs : List X) → AllByRecursion (λ x. test x ≡ true) (filter test xs)
kept_pass test [] = tt
kept_pass test (x ∷ xs) = kept_more test (test x) x (filter test xs) refl (kept_pass test xs)

pub map-filter : {X Y : Type 0} (f : X → Y) (p : Y → Bool) (xs : List X) → map f (filter (λ x. p (f x)) xs) ≡ filter p (map f xs)
map-filter f p [] = refl
map-filter f p (x ∷ xs) = step (p (f x)) (map-filter f p xs)
  where
    step : (t : Bool) → map f (filter (λ y. p (f y)) xs) ≡ filter p (map f xs) → map f (cond t (x ∷ filter (λ y. p (f y)) xs) (filter (λ y. p (f y)) xs)) ≡ cond t (f x ∷ filter p (map f xs)) (filter p (map f xs))
    step true i = ap (λ ys. f x ∷ ys) i
    step false i = i

pub map-itself : {X : Type 0} (f : X → X) → ((x : X) → f x ≡ x) → (xs : List X) → map f xs ≡ xs
map-itself f e [] = refl
map-itself f e (x ∷ xs) = ap (λ y. y ∷ map f xs) (e x) ∙ ap (λ ys. x ∷ ys) (map-itself f e xs)

pub maps_agree : {X Y : Type 0} (f g : X → Y) → ((x : X) → f x ≡ g x) → (xs : List X) → map f xs ≡ map g xs
maps_agree f g h [] = refl
maps_agree f g h (x ∷ xs) = ap (λ y. y ∷ map f xs) (h x) ∙ ap (λ ys. g x ∷ ys) (maps_agree f g h xs)

-- ---- places of ascending items

module _ {A : Type 0} (cmp : A → A → Ordering) (order : IsTotalOrder cmp) where
  pub ascends_at : (ks : List A) (i j : ℕ) (d : A) → IsStrictlySortedBy cmp ks → i < j → j < length ks → cmp (get_or ks i d) (get_or ks j d) ≡ Less
  unfolding IsStrictlySortedBy
  ascends_at [] i j d s l m = absurd (omega arith)
  ascends_at (k ∷ ks) zero zero d s l m = absurd (omega arith)
  ascends_at (k ∷ ks) zero (suc j) d s l m = each_at (λ x. cmp k x ≡ Less) ks j d s.0 (omega arith)
  ascends_at (k ∷ ks) (suc i) zero d s l m = absurd (omega arith)
  ascends_at (k ∷ ks) (suc i) (suc j) d s l m = ascends_at ks i j d s.1 (omega arith) (omega arith)

  -- two items are one where their places are
  pub same_place : (ks : List A) (i j : ℕ) (d : A) → IsStrictlySortedBy cmp ks → i < length ks → j < length ks → is_eq (cmp (get_or ks i d) (get_or ks j d)) ≡ (i == j)
  same_place ks i j d s l m =
      ⊎_elim (λ e. ap (λ n. is_eq (cmp (get_or ks n d) (get_or ks j d))) e ∙ ap is_eq (tied_itself order (get_or ks j d)) ∙ sym (eq-eqb i j e))
      (λ apart. ⊎_elim (λ below. ap is_eq (ascends_at ks i j d s below m) ∙ sym (ne_eqb i j (λ e. omega arith)))
      (λ above. (eq_by_cmp_equiv order).symm (get_or ks i d) (get_or ks j d) ∙ ap is_eq (ascends_at ks j i d s above l) ∙ sym (ne_eqb i j (λ e. omega arith))) apart)
      (cases_order i j)
