-- Sums over the same items in two orders, and the margin over them.
use Rattle.std.proofs.Common.{◌≡◌, List, [], ◌∷◌, map, Bool, true, false, not, ◌||◌, cond, if◌then◌else◌, refl, sym, ap, ◌∙◌, ℤ, pos, ◌+ℤ◌, ◌*ℤ◌, arith}
use Rattle.std.specs.List.{filter}
use Rattle.std.proofs.Math.IntN.{+ℤ_idl}
use Rattle.std.proofs.lemmas.Int.{ints}
use Rattle.class_rates.specs.SimmKinds.declared.bucket.Bucket.{Bucket}
use Rattle.class_rates.specs.SimmKinds.Order.{same_bucket}
use Rattle.class_rates.specs.SimmRules.Sums.{total_by, total_by_pairs}
use Rattle.class_rates.specs.SimmRules.Concentration.{one}
use Rattle.class_rates.specs.SimmRules.Bucket.{root_of}
use Rattle.class_rates.specs.SimmRules.Across.{Part, outer, is_residual, numbered, residual, gamma_among, margin_over}
use Rattle.class_rates.proofs.FactorBook.Sums.{total_by-map}
use Rattle.class_rates.proofs.PairSums.Sums.{total_by-ext}

-- each sum over the ones is that over the others
abbrev pub Alike : {X : Type 0} → List X → List X → Type 0
Alike {X} xs ys = (f : X → ℤ) → total_by f xs ≡ total_by f ys

total-filter : {X : Type 0} (t : X → Bool) (f : X → ℤ) (xs : List X) → total_by f (filter t xs) ≡ total_by (λ x. if t x then f x else pos 0) xs
total-filter t f [] = refl
total-filter t f (x ∷ xs) = by (t x) (total-filter t f xs)
  where
    by : (b : Bool) → total_by f (filter t xs) ≡ total_by (λ y. if t y then f y else pos 0) xs → total_by f (cond b (x ∷ filter t xs) (filter t xs)) ≡ (if b then f x else pos 0) +ℤ total_by (λ y. if t y then f y else pos 0) xs
    by true i = ap (λ z. f x +ℤ z) i
    by false i = i ∙ sym (+ℤ_idl (total_by (λ y. if t y then f y else pos 0) xs))

pub alike_filter : {X : Type 0} (t : X → Bool) (xs ys : List X) → Alike xs ys → Alike (filter t xs) (filter t ys)
alike_filter t xs ys same = λ f. total-filter t f xs ∙ same (λ x. if t x then f x else pos 0) ∙ sym (total-filter t f ys)

pub alike_map : {X Y : Type 0} (g : X → Y) (xs ys : List X) → Alike xs ys → Alike (map g xs) (map g ys)
alike_map g xs ys same = λ f. total_by-map f g xs ∙ same (λ x. f (g x)) ∙ sym (total_by-map f g ys)

alike_pairs : {X : Type 0} (g : X → X → ℤ) (xs ys : List X) → Alike xs ys → total_by_pairs g xs ≡ total_by_pairs g ys
alike_pairs g xs ys same = total_by-ext (λ x. total_by (g x) xs) (λ x. total_by (g x) ys) xs (λ x. same (g x)) ∙ same (λ x. total_by (g x) ys)

pub alike_outer : (gamma : Part Bucket → Part Bucket → ℤ) (ps qs : List (Part Bucket)) → Alike ps qs → outer same_bucket gamma ps ≡ outer same_bucket gamma qs
alike_outer gamma ps qs same =
    let pair : Part Bucket → Part Bucket → ℤ = λ b c. if same_bucket b.at c.at then pos 0 else gamma b c *ℤ (b.value).s *ℤ (c.value).s in
    ap (λ z. root_of (one *ℤ z +ℤ total_by_pairs pair ps)) (same (λ b. (b.value).k *ℤ (b.value).k))
    ∙ ap (λ z. root_of (one *ℤ total_by (λ b. (b.value).k *ℤ (b.value).k) qs +ℤ z)) (alike_pairs pair ps qs same)

pub alike_margin : (listed : List Bucket) (gamma : List (List ℤ)) (ps qs : List (Part Bucket)) → Alike ps qs → margin_over listed gamma ps ≡ margin_over listed gamma qs
alike_margin listed gamma ps qs same =
    ap (λ z. z +ℤ total_by (λ (b : Part Bucket). (b.value).k) (residual ps)) (alike_outer (gamma_among listed gamma) (numbered ps) (numbered qs) (alike_filter (λ b. not (is_residual b.at)) ps qs same))
    ∙ ap (λ z. outer same_bucket (gamma_among listed gamma) (numbered qs) +ℤ z) (alike_filter (λ b. is_residual b.at) ps qs same (λ (b : Part Bucket). (b.value).k))

-- ---- what passes one of two tests that exclude each other

pub total_split : {X : Type 0} (f : X → ℤ) (p q : X → Bool) → ((x : X) → p x ≡ true → q x ≡ false) → (xs : List X) → total_by f (filter (λ x. p x || q x) xs) ≡ total_by f (filter p xs) +ℤ total_by f (filter q xs)
total_split f p q apart [] = refl
total_split f p q apart (x ∷ xs) = by (p x) (q x) (apart x) (total_split f p q apart xs)
  where
    by : (s t : Bool) → (s ≡ true → t ≡ false) → total_by f (filter (λ y. p y || q y) xs) ≡ total_by f (filter p xs) +ℤ total_by f (filter q xs)
        → total_by f (cond (s || t) (x ∷ filter (λ y. p y || q y) xs) (filter (λ y. p y || q y) xs)) ≡ total_by f (cond s (x ∷ filter p xs) (filter p xs)) +ℤ total_by f (cond t (x ∷ filter q xs) (filter q xs))
    by true true never i = absurd (let e : true ≡ false = never refl in cc)
    by true false never i = omega (arith, ints, i)
    by false true never i = omega (arith, ints, i)
    by false false never i = i
