-- What holds of each element holds of one that is found.
use Rattle.std.proofs.Common.{Bool, true, false, cond, Option, Some, None, List, [], ◌∷◌, map, subst}
use Rattle.std.specs.Prelude.{IfSome, option_map}
use Rattle.std.specs.List.{All, find}
use Rattle.std.proofs.lemmas.List.{length-map, get_or-map}
use Rattle.std.proofs.lemmas.List.Elements.{All-head, All-tail}

module _ {A : Type 0} (P : A → Type 0) where
  first_holds : (t : Bool) (x : A) (o : Option A) → P x → IfSome o P → IfSome (cond t (Some x) o) P
  first_holds true x o p h = p
  first_holds false x o p h = h

  pub find_holds : (test : A → Bool) (xs : List A) → All P xs → IfSome (find test xs) P
  find_holds test [] all = tt
  find_holds test (x ∷ xs) all = first_holds (test x) x (find test xs) (All-head P x xs all) (find_holds test xs (All-tail P x xs all))

module _ {A B : Type 0} (P : B → Type 0) (f : A → B) where
  pub if_some-map : (o : Option A) → IfSome (option_map f o) P → IfSome o (λ x. P (f x))
  if_some-map None h = h
  if_some-map (Some x) h = h

  pub All-unmap : (xs : List A) → All P (map f xs) → All (λ x. P (f x)) xs
  All-unmap xs all = λ k d lt. subst P (get_or-map f xs k d (f d) lt) (all k (f d) (simp length-map lt))
