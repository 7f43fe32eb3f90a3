-- Sums of what items add, front by front, where no item takes away.
use Rattle.std.proofs.Common.{◌≡◌, ℕ, ◌*◌, ◌^◌, List, [], ◌∷◌, ◌++◌, length, ℤ, pos, ◌+ℤ◌, ◌≤◌, ◌≤ℤ◌, FitsSigned, unsigned_abs, refl, sym, ap, ◌∙◌, subst, arith}
use Rattle.std.specs.List.{flat_map, AllByRecursion}
use Rattle.std.specs.Int.{w128}
use Rattle.std.proofs.lemmas.Int.{ints, fits_signed_from_abs}
use Rattle.simm_params.proofs.MhUnits.Integers.{same128}
use Rattle.simm_params.specs.SimmRules.Sums.{total_by}
use Rattle.class_combine.specs.Whole.{IsAddOn}
use Rattle.class_combine.proofs.Products.{passed}

module _ {A : Type 0} (f : A → ℤ) where
  abbrev pub AreLow : List A → Type 0
  AreLow xs = AllByRecursion (λ x. pos 0 ≤ℤ f x) xs

  pub total_low : (xs : List A) → AreLow xs → pos 0 ≤ℤ total_by f xs
  total_low [] h = omega (arith, ints)
  total_low (x ∷ xs) h = omega (arith, ints, h.0, total_low xs h.1)

  pub total_most : (n : ℕ) (xs : List A) → AllByRecursion (λ x. f x ≤ℤ pos n) xs → total_by f xs ≤ℤ pos (length xs * n)
  total_most n [] h = omega (arith, ints)
  total_most n (x ∷ xs) h = omega (arith, ints, h.0, total_most n xs h.1)

  pub total-append : (xs ys : List A) → total_by f (xs ++ ys) ≡ total_by f xs +ℤ total_by f ys
  total-append [] ys = omega (arith, ints)
  total-append (x ∷ xs) ys = omega (arith, ints, total-append xs ys)

  pub total-flat_map : {B : Type 0} (g : B → List A) (xs : List B) → total_by f (flat_map g xs) ≡ total_by (λ x. total_by f (g x)) xs
  total-flat_map g [] = refl
  total-flat_map g (x ∷ xs) = total-append (g x) (flat_map g xs) ∙ ap (λ z. total_by f (g x) +ℤ z) (total-flat_map g xs)

  -- a sum so far, which with what is left comes to the whole
  pub record Adds (whole : ℤ) (left : List A) (sum : ℤ) : Type 0 where
    pub value : sum +ℤ total_by f left ≡ whole
    pub low : pos 0 ≤ℤ sum
    pub each : AreLow left

  pub adds_start : (xs : List A) → AreLow xs → Adds (total_by f xs) xs (pos 0)
  adds_start xs h = record { value = omega (arith, ints); low = omega (arith, ints); each = h }

  pub adds_along : (whole : ℤ) (xs ys : List A) (y z : ℤ) → xs ≡ ys → y ≡ z → Adds whole xs y → Adds whole ys z
  adds_along whole xs ys y z are is h = subst (λ (p : List A × ℤ). Adds whole p.0 p.1) (λ i. (are i, is i)) h

  adds_next : (whole : ℤ) (x : A) (left : List A) (sum : ℤ) → Adds whole (x ∷ left) sum → Adds whole left (sum +ℤ f x)
  adds_next whole x left sum h = record {
    value = omega (arith, ints, h.value);
    low = omega (arith, ints, h.low, (h.each).0);
    each = (h.each).1;
  }

  -- no sum is above the whole
  pub adds_most : (whole : ℤ) (left : List A) (sum : ℤ) → Adds whole left sum → sum ≤ℤ whole
  adds_most whole left sum h = omega (arith, ints, h.value, total_low left h.each)

  pub adds_range : (whole : ℤ) (left : List A) (sum : ℤ) → whole ≤ℤ pos (2 * 10 ^ 20) → Adds whole left sum → IsAddOn sum
  adds_range whole left sum small h = record { low = h.low; size = omega (arith, ints, adds_most whole left sum h, small) }

  -- with nothing left the sum is the whole
  pub adds_end : (whole : ℤ) (left : List A) (sum : ℤ) → left ≡ [] → Adds whole left sum → sum ≡ whole
  adds_end whole left sum none h = omega (arith, ints, h.value, ap (total_by f) none)

  pub next_adds : (whole : ℤ) (all : List A) (x : A) (left : List A) (sum : ℤ) → all ≡ x ∷ left → Adds whole all sum → Adds whole left (sum +ℤ f x)
  next_adds whole all x left sum are h = adds_next whole x left sum (adds_along whole all (x ∷ left) sum sum are refl h)

  pub next_most : (whole : ℤ) (all : List A) (x : A) (left : List A) (sum : ℤ) → all ≡ x ∷ left → whole ≤ℤ pos (2 * 10 ^ 20) → Adds whole all sum → (sum +ℤ f x) ≤ℤ pos (2 * 10 ^ 20)
  next_most whole all x left sum are small h =
      omega (arith, ints, small, adds_most whole left (sum +ℤ f x) (next_adds whole all x left sum are h))

  -- the next sum, where the sum is y before the next item and that adds z
  pub record Next (whole : ℤ) (left : List A) (y z : ℤ) : Type 0 where
    pub fits : FitsSigned w128 (y +ℤ passed z)
    pub adds : Adds whole left (passed (y +ℤ passed z))

  pub next : (whole : ℤ) (all : List A) (x : A) (left : List A) (y z : ℤ) → all ≡ x ∷ left → z ≡ f x → whole ≤ℤ pos (2 * 10 ^ 20) → Adds whole all y → Next whole left y z
  next whole all x left y z are is small h =
      let here : Adds whole (x ∷ left) y = adds_along whole all (x ∷ left) y y are refl h in
      let there : Adds whole left (y +ℤ f x) = next_adds whole all x left y are h in
      let most : (y +ℤ f x) ≤ℤ whole = adds_most whole left (y +ℤ f x) there in
      let size : unsigned_abs (y +ℤ f x) ≤ 2 * 10 ^ 20 = omega (arith, ints, there.low, most, small) in
      let part_size : unsigned_abs z ≤ 2 * 10 ^ 20 = omega (arith, ints, is, (here.each).0, here.low, most, small) in
      let sum_is : y +ℤ passed z ≡ y +ℤ f x = ap (λ v. y +ℤ v) (same128 z (fits_signed_from_abs w128 z (omega (arith, part_size))) ∙ is) in
      let fits = fits_signed_from_abs w128 (y +ℤ f x) (omega (arith, size)) in
      record {
        fits = subst (FitsSigned w128) (sym sum_is) fits;
        adds = subst (Adds whole left) (sym (ap passed sum_is ∙ same128 (y +ℤ f x) fits)) there;
      }

module _ {A : Type 0} (f g : A → ℤ) where
  pub totals_le : (xs : List A) → AllByRecursion (λ x. f x ≤ℤ g x) xs → total_by f xs ≤ℤ total_by g xs
  totals_le [] h = omega (arith, ints)
  totals_le (x ∷ xs) h = omega (arith, ints, h.0, totals_le xs h.1)

  pub total-add : (xs : List A) → total_by (λ x. f x +ℤ g x) xs ≡ total_by f xs +ℤ total_by g xs
  total-add [] = refl
  total-add (x ∷ xs) = omega (arith, ints, total-add xs)
