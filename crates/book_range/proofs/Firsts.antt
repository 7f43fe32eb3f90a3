-- The first of several answers: that of the first test that has one.
use Rattle.std.proofs.Common.{◌≡◌, ℕ, zero, suc, arith, ◌+◌, ◌<◌, List, [], ◌∷◌, ◌++◌, map, length, get_or, take, true, false, Option, Some, None, refl, sym, ap, ◌∙◌}
use Rattle.std.specs.Prelude.{is_some}
use Rattle.std.proofs.lemmas.List.{map_more}
use Rattle.simm_params.specs.SimmRules.Sums.{first_some}
use Rattle.book_range.specs.Faults.{either_first}

pub first_some-cons : {A : Type 0} (o : Option A) (os : List (Option A)) → first_some (o ∷ os) ≡ either_first o (first_some os)
first_some-cons None os = refl
first_some-cons (Some x) os = refl

pub first_some-append : {A : Type 0} (xs ys : List (Option A)) → first_some (xs ++ ys) ≡ either_first (first_some xs) (first_some ys)
first_some-append [] ys = refl
first_some-append (None ∷ xs) ys = first_some-append xs ys
first_some-append (Some x ∷ xs) ys = refl

pub either_none : {A : Type 0} (o : Option A) → either_first o None ≡ o
either_none None = refl
either_none (Some x) = refl

pub none_from_test : {A : Type 0} (o : Option A) → is_some o ≡ false → o ≡ None
none_from_test None h = refl
none_from_test (Some x) h = absurd (cc)

-- where the first has none, it is the second's
pub either_second : {A : Type 0} (a b : Option A) → is_some a ≡ false → either_first a b ≡ b
either_second a b h = ap (λ o. either_first o b) (none_from_test a h)

pub either_chosen : {A : Type 0} (a b : Option A) → is_some a ≡ true → either_first a b ≡ a
either_chosen None b h = absurd (cc)
either_chosen (Some x) b h = refl

-- neither has one
pub neither : {A : Type 0} (a b : Option A) → either_first a b ≡ None → (a ≡ None) × (b ≡ None)
neither None b h = (refl, h)
neither (Some x) b h = absurd (cc)

-- ---- over a list

module _ {X A : Type 0} (f : X → Option A) where
  -- the next has none either
  pub next_none : (xs : List X) (i : ℕ) (x : X) → i < length xs → x ≡ get_or xs i x → first_some (map f (take i xs)) ≡ None → f x ≡ None → first_some (map f (take (i + 1) xs)) ≡ None
  next_none xs i x h at none e =
      ap first_some (map_more f xs i x h) ∙ first_some-append (map f (take i xs)) (f (get_or xs i x) ∷ [])
      ∙ ap (λ o. either_first o (first_some (f (get_or xs i x) ∷ []))) none
      ∙ ap (λ y. first_some (f y ∷ [])) (sym at) ∙ ap (λ o. first_some (o ∷ [])) e

  -- of what is left, the first has one
  pub head_some : (x : X) (xs : List X) → is_some (f x) ≡ true → first_some (map f (x ∷ xs)) ≡ f x
  head_some x xs h = first_some-cons (f x) (map f xs) ∙ either_chosen (f x) (first_some (map f xs)) h

  pub head_none : (x : X) (xs : List X) → is_some (f x) ≡ false → first_some (map f (x ∷ xs)) ≡ first_some (map f xs)
  head_none x xs h = first_some-cons (f x) (map f xs) ∙ either_second (f x) (first_some (map f xs)) h

  both_none : (o : Option A) (os : List (Option A)) → first_some (o ∷ os) ≡ None → (o ≡ None) × (first_some os ≡ None)
  both_none None os h = (refl, h)
  both_none (Some x) os h = absurd (cc)

  -- the first that has one is the answer
  pub first_hit : (xs : List X) (i : ℕ) (x : X) → i < length xs → x ≡ get_or xs i x → first_some (map f (take i xs)) ≡ None → is_some (f x) ≡ true → f x ≡ first_some (map f xs)
  first_hit [] i x h at none some = absurd (omega arith)
  first_hit (y ∷ ys) zero x h at none some = ap f at ∙ sym (head_some y ys (ap (λ z. is_some (f z)) (sym at) ∙ some))
  first_hit (y ∷ ys) (suc i) x h at none some =
      let both = both_none (f y) (map f (take i ys)) none in
      first_hit ys i x (omega arith) at both.1 some ∙ sym (first_some-cons (f y) (map f ys) ∙ ap (λ o. either_first o (first_some (map f ys))) both.0)
