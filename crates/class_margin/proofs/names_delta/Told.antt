-- What is known of one of an option, and of the option.
use Rattle.std.proofs.Common.{◌≡◌, Option, Some, None, true, refl, ap, ◌∙◌, subst, sym}
use Rattle.std.specs.Prelude.{IsSomeAnd, is_some, option_map}

module _ {A : Type 0} (x : A) (o : Option A) (is : Some x ≡ o) where
  pub told : {B : Type 0} (f : A → B) (y : B) → y ≡ f x → Some y ≡ option_map f o
  told f y e = ap Some e ∙ ap (option_map f) is

  pub said : (P : A → Type 0) → P x → IsSomeAnd o P
  said P h = subst (λ q. IsSomeAnd q P) is h

  pub heard : (P : A → Type 0) → IsSomeAnd o P → P x
  heard P h = subst (λ q. IsSomeAnd q P) (sym is) h

-- where something is known of one, there is one
pub some_there : {B : Type 0} (o : Option B) (P : B → Type 0) → IsSomeAnd o P → is_some o ≡ true
some_there None P h = absurd h
some_there (Some x) P h = refl

-- what is known of one of an option is found where the option's own is
pub found : {A B : Type 0} (view : A → B) (own : Option A) (o : Option B) → option_map view own ≡ o → (P : B → Type 0) → IsSomeAnd o P → is_some own ≡ true
found view None o e P h = absurd (subst (λ q. IsSomeAnd q P) (sym e) h)
found view (Some x) o e P h = refl
