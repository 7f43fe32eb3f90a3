-- Lists of which each element has a fact, and the first of several answers.
use Rattle.std.proofs.Common.{◌≡◌, List, [], ◌∷◌, ◌++◌, map, Option, Some, None, Bool, true, false, ◌&&◌, ◌||◌, cond, refl, sym, ap, ◌∙◌}
use Rattle.std.specs.List.{filter, flat_map, list_any, AllByRecursion}
use Rattle.std.proofs.lemmas.Bool.{false≢true}
use Rattle.simm_params.specs.SimmKinds.declared.kinds.ProductClass.{ProductClass}
use Rattle.simm_params.specs.SimmKinds.declared.kinds.ProductClass.TheVariants as product
use Rattle.simm_params.specs.SimmKinds.declared.kinds.RiskClass.{RiskClass}
use Rattle.simm_params.specs.SimmKinds.declared.kinds.RiskClass.TheVariants as class
use Rattle.simm_params.specs.SimmRules.Sums.{first_some}
use Rattle.simm_params.specs.SimmRules.Simm.{products, classes}

pub each_weaker : {X : Type 0} (P Q : X → Type 0) → ((x : X) → P x → Q x) → (xs : List X) → AllByRecursion P xs → AllByRecursion Q xs
each_weaker P Q f [] h = tt
each_weaker P Q f (x ∷ xs) h = (f x h.0, each_weaker P Q f xs h.1)

pub each_always : {X : Type 0} (P : X → Type 0) → ((x : X) → P x) → (xs : List X) → AllByRecursion P xs
each_always P f [] = tt
each_always P f (x ∷ xs) = (f x, each_always P f xs)

pub each_parts : {X : Type 0} (P : X → Type 0) (xs ys : List X) → AllByRecursion P (xs ++ ys) → AllByRecursion P xs × AllByRecursion P ys
each_parts P [] ys h = (tt, h)
each_parts P (x ∷ xs) ys h = let rest = each_parts P xs ys h.1 in ((h.0, rest.0), rest.1)

pub each_append : {X : Type 0} (P : X → Type 0) (xs ys : List X) → AllByRecursion P xs → AllByRecursion P ys → AllByRecursion P (xs ++ ys)
each_append P [] ys h g = g
each_append P (x ∷ xs) ys h g = (h.0, each_append P xs ys h.1 g)

pub each_flat : {X A : Type 0} (P : A → Type 0) (f : X → List A) (xs : List X) → AllByRecursion P (flat_map f xs) → AllByRecursion (λ x. AllByRecursion P (f x)) xs
each_flat P f [] h = tt
each_flat P f (x ∷ xs) h = let both = each_parts P (f x) (flat_map f xs) h in (both.0, each_flat P f xs both.1)

pub flat_each : {X A : Type 0} (P : A → Type 0) (f : X → List A) (xs : List X) → AllByRecursion (λ x. AllByRecursion P (f x)) xs → AllByRecursion P (flat_map f xs)
flat_each P f [] h = tt
flat_each P f (x ∷ xs) h = each_append P (f x) (flat_map f xs) h.0 (flat_each P f xs h.1)

pub each_unmap : {X A : Type 0} (P : A → Type 0) (f : X → A) (xs : List X) → AllByRecursion P (map f xs) → AllByRecursion (λ x. P (f x)) xs
each_unmap P f [] h = tt
each_unmap P f (x ∷ xs) h = (h.0, each_unmap P f xs h.1)

pub each_map : {X A : Type 0} (P : A → Type 0) (f : X → A) (xs : List X) → AllByRecursion (λ x. P (f x)) xs → AllByRecursion P (map f xs)
each_map P f [] h = tt
each_map P f (x ∷ xs) h = (h.0, each_map P f xs h.1)

-- ---- all product classes, all risk classes

pub of_product : (Q : ProductClass → Type 0) → AllByRecursion Q products → (c : ProductClass) → Q c
of_product Q h product.RatesFX = h.0
of_product Q h product.Credit = h.1.0
of_product Q h product.Equity = h.1.1.0
of_product Q h product.Commodity = h.1.1.1.0

pub of_class : (Q : RiskClass → Type 0) → AllByRecursion Q classes → (c : RiskClass) → Q c
of_class Q h class.IR = h.0
of_class Q h class.CreditQ = h.1.0
of_class Q h class.CreditNonQ = h.1.1.0
of_class Q h class.Equity = h.1.1.1.0
of_class Q h class.Commodity = h.1.1.1.1.0
of_class Q h class.FX = h.1.1.1.1.1.0

-- ---- the first of several answers

pub none_all : {A : Type 0} (os : List (Option A)) → first_some os ≡ None → AllByRecursion (λ o. o ≡ None) os
none_all [] h = tt
none_all (None ∷ os) h = (refl, none_all os h)
none_all ((Some x) ∷ os) h = absurd (cc)

pub all_none : {A : Type 0} (os : List (Option A)) → AllByRecursion (λ o. o ≡ None) os → first_some os ≡ None
all_none [] h = refl
all_none (o ∷ os) h = ap (λ x. first_some (x ∷ os)) h.0 ∙ all_none os h.1

-- ---- filters

pub filter_agrees : {X : Type 0} (p q : X → Bool) → ((x : X) → p x ≡ q x) → (xs : List X) → filter p xs ≡ filter q xs
filter_agrees p q h [] = refl
filter_agrees p q h (x ∷ xs) = ap (λ t. cond t (x ∷ filter p xs) (filter p xs)) (h x) ∙ ap (λ ys. cond (q x) (x ∷ ys) ys) (filter_agrees p q h xs)

pub filter_twice : {X : Type 0} (p q : X → Bool) (xs : List X) → filter p (filter q xs) ≡ filter (λ x. q x && p x) xs
filter_twice p q [] = refl
filter_twice p q (x ∷ xs) = by (q x) (filter_twice p q xs)
  where
    by : (t : Bool) → filter p (filter q xs) ≡ filter (λ y. q y && p y) xs → filter p (cond t (x ∷ filter q xs) (filter q xs)) ≡ cond (t && p x) (x ∷ filter (λ y. q y && p y) xs) (filter (λ y. q y && p y) xs)
    by true i = ap (λ ys. cond (p x) (x ∷ ys) ys) i
    by false i = i

pub filter_none : {X : Type 0} (test : X → Bool) (xs : List X) → list_any test xs ≡ false → filter test xs ≡ []
filter_none test [] h = refl
filter_none test (x ∷ xs) h = by (test x) h (filter_none test xs)
  where
    by : (t : Bool) → (t || list_any test xs) ≡ false → (list_any test xs ≡ false → filter test xs ≡ []) → cond t (x ∷ filter test xs) (filter test xs) ≡ []
    by true e i = absurd (false≢true (sym e))
    by false e i = i e
