-- Filters of lists of which each element has a fact.
use Rattle.std.proofs.Common.{◌≡◌, List, [], ◌∷◌, Bool, true, false, ◌&&◌, cond, refl, ap, ◌∙◌}
use Rattle.std.specs.List.{filter, AllByRecursion}

pub each_always : {X : Type 0} (P : X → Type 0) → ((x : X) → P x) → (xs : List X) → AllByRecursion P xs
each_always P f [] = tt
each_always P f (x ∷ xs) = (f x, each_always P f xs)

pub each_weaker : {X : Type 0} (P Q : X → Type 0) → ((x : X) → P x → Q x) → (xs : List X) → AllByRecursion P xs → AllByRecursion Q xs
each_weaker P Q f [] h = tt
each_weaker P Q f (x ∷ xs) h = (f x h.0, each_weaker P Q f xs h.1)

cond_each : {X : Type 0} (P : X → Type 0) (t : Bool) (x : X) (xs : List X) → P x → AllByRecursion P xs → AllByRecursion P (cond t (x ∷ xs) xs)
cond_each P true x xs p h = (p, h)
cond_each P false x xs p h = h

pub each_kept : {X : Type 0} (P : X → Type 0) (test : X → Bool) (xs : List X) → AllByRecursion P xs → AllByRecursion P (filter test xs)
each_kept P test [] h = tt
each_kept P test (x ∷ xs) h = cond_each P (test x) x (filter test xs) h.0 (each_kept P test xs h.1)

-- two tests that agree at each element keep the same
pub filter_agrees : {X : Type 0} (p q : X → Bool) (xs : List X) → AllByRecursion (λ x. p x ≡ q x) xs → filter p xs ≡ filter q xs
filter_agrees p q [] h = refl
filter_agrees p q (x ∷ xs) h =
    ap (λ t. cond t (x ∷ filter p xs) (filter p xs)) h.0 ∙ ap (λ ys. cond (q x) (x ∷ ys) ys) (filter_agrees p q xs h.1)

pub filter_every : {X : Type 0} (test : X → Bool) (xs : List X) → AllByRecursion (λ x. test x ≡ true) xs → filter test xs ≡ xs
filter_every test [] h = refl
filter_every test (x ∷ xs) h =
    ap (λ t. cond t (x ∷ filter test xs) (filter test xs)) h.0 ∙ ap (λ ys. x ∷ ys) (filter_every test xs h.1)

-- one filter behind another
both_step : {X : Type 0} (p : X → Bool) (x : X) (s : Bool) (xs zs : List X) → filter p xs ≡ zs → filter p (cond s (x ∷ xs) xs) ≡ cond (s && p x) (x ∷ zs) zs
both_step p x true xs zs e = ap (λ ws. cond (p x) (x ∷ ws) ws) e
both_step p x false xs zs e = e

pub filter_both : {X : Type 0} (p q : X → Bool) (xs : List X) → filter p (filter q xs) ≡ filter (λ x. q x && p x) xs
filter_both p q [] = refl
filter_both p q (x ∷ xs) = both_step p x (q x) (filter q xs) (filter (λ y. q y && p y) xs) (filter_both p q xs)
