-- Lists of which each element has a fact, places of ascending items, and different ones.
use Rattle.std.proofs.Common.{◌≡◌, ℕ, ◌<◌, List, [], ◌∷◌, map, length, get_or, ◌==◌, refl, sym, ap, ◌∙◌, arith}
use Rattle.std.specs.declared.cmp.Ordering.{Ordering}
use Rattle.std.specs.declared.cmp.Ordering.TheVariants.{Less, Equal, Greater}
use Rattle.std.specs.Ordering.{is_eq}
use Rattle.std.specs.Cmp.{IsTotalOrder}
use Rattle.std.specs.List.{AllByRecursion}
use Rattle.std.specs.List.Sorted.{IsStrictlySortedBy}
use Rattle.std.proofs.lemmas.List.{get_or-map, length-map}
use Rattle.class_rates.specs.SimmRules.Sums.{put_in, placed, different}
use Rattle.class_rates.proofs.MeasuredBucket.Lists.{each_always, each_map, same_place}

pub all_map : {X A : Type 0} (P : A → Type 0) (f : X → A) (xs : List X) → ((x : X) → P (f x)) → AllByRecursion P (map f xs)
all_map P f xs h = each_map P f xs (each_always (λ x. P (f x)) h xs)

-- ---- ascending items

module _ {A : Type 0} (cmp : A → A → Ordering) (order : IsTotalOrder cmp) where
  -- what ascends by its key is told apart by its key
  pub same_place_by : {X : Type 0} (key : X → A) (xs : List X) (i j : ℕ) (d : X) → IsStrictlySortedBy cmp (map key xs) → i < length xs → j < length xs → is_eq (cmp (key (get_or xs i d)) (key (get_or xs j d))) ≡ (i == j)
  same_place_by key xs i j d s l m =
      let count : length (map key xs) ≡ length xs = length-map xs key in
      ap (λ k. is_eq (cmp k (key (get_or xs j d)))) (sym (get_or-map key xs i d (key d) l)) ∙ ap (λ k. is_eq (cmp (get_or (map key xs) i (key d)) k)) (sym (get_or-map key xs j d (key d) m))
      ∙ same_place cmp order (map key xs) i j (key d) s (omega arith) (omega arith)

-- what ascends does so under a function that keeps the order
pub map_ascends : {A B : Type 0} (cmp : A → A → Ordering) (other : B → B → Ordering) (f : A → B) → ((a b : A) → other (f a) (f b) ≡ cmp a b) → (xs : List A) → IsStrictlySortedBy cmp xs → IsStrictlySortedBy other (map f xs)
unfolding IsStrictlySortedBy
map_ascends cmp other f same [] s = tt
map_ascends cmp other f same (x ∷ xs) s = (each_map (λ b. other (f x) b ≡ Less) f xs (after xs s.0), map_ascends cmp other f same xs s.1)
  where
    after : (ys : List _) → AllByRecursion (λ y. cmp x y ≡ Less) ys → AllByRecursion (λ y. other (f x) (f y) ≡ Less) ys
    after [] h = tt
    after (y ∷ ys) h = (same x y ∙ h.0, after ys h.1)

-- ---- different items under a function that keeps their order

module _ {A B : Type 0} (cmp : A → A → Ordering) (other : B → B → Ordering) (f : A → B) (same : (a b : A) → other (f a) (f b) ≡ cmp a b) where
  placed-map : (o : Ordering) (x y : A) (ys deeper : List A) → map f (placed o x y ys deeper) ≡ placed o (f x) (f y) (map f ys) (map f deeper)
  placed-map Less x y ys deeper = refl
  placed-map Equal x y ys deeper = refl
  placed-map Greater x y ys deeper = refl

  put_in-map : (x : A) (ys : List A) → map f (put_in cmp x ys) ≡ put_in other (f x) (map f ys)
  put_in-map x [] = refl
  put_in-map x (y ∷ ys) =
      placed-map (cmp x y) x y ys (put_in cmp x ys) ∙ ap (λ o. placed o (f x) (f y) (map f ys) (map f (put_in cmp x ys))) (sym (same x y))
      ∙ ap (placed (other (f x) (f y)) (f x) (f y) (map f ys)) (put_in-map x ys)

  pub different-map : (xs : List A) → map f (different cmp xs) ≡ different other (map f xs)
  different-map [] = refl
  different-map (x ∷ xs) = put_in-map x (different cmp xs) ∙ ap (put_in other (f x)) (different-map xs)
