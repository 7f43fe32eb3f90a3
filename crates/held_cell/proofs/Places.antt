-- The views of a table, after one of them is set.
use Rattle.std.proofs.Common.{◌≡◌, ◌≢◌, ℕ, zero, suc, ◌<◌, ◌⊎◌, List, [], ◌∷◌, ◌++◌, length, set, refl, ap, sym, subst, inl, inr, ⊎_elim, arith}
use mathlib.Core.Option.{some, some-injective, some-ne-none}
use lib.ListN.{get_elem?}
use Rattle.atomic_table.proofs.Lists.{at_set}
use Rattle.held_cell.specs.declared.view.View.{View}
use Rattle.held_cell.specs.Views.{Has, AreApart}

module _ {A : Type 0} where
  pub at_within : (l : List A) (i : ℕ) (a : A) → get_elem? l i ≡ some a → i < length l
  at_within [] i a e = absurd (some-ne-none a (sym e))
  at_within (x ∷ xs) zero a e = omega arith
  at_within (x ∷ xs) (suc i) a e = let h = at_within xs i a e in omega arith

  pub at_below : (l : List A) (i : ℕ) → i < length l → (a : A) × (get_elem? l i ≡ some a)
  at_below [] i h = absurd (omega arith)
  at_below (x ∷ xs) zero h = (x, refl)
  at_below (x ∷ xs) (suc i) h = at_below xs i (omega arith)

  -- one more at the end
  pub at_more : (l : List A) (a b : A) (j : ℕ) → get_elem? (l ++ a ∷ []) j ≡ some b → ((j < length l) × (get_elem? l j ≡ some b)) ⊎ ((j ≡ length l) × (a ≡ b))
  at_more [] a b zero e = inr (refl, some-injective a b e)
  at_more [] a b (suc j) e = absurd (some-ne-none b (sym e))
  at_more (x ∷ xs) a b zero e = inl (omega arith, e)
  at_more (x ∷ xs) a b (suc j) e = ⊎_elim (λ t. let h = t.0 in inl (omega arith, t.1)) (λ t. inr (ap suc t.0, t.1)) (at_more xs a b j e)

  -- what holds of the view that was set and of each other holds of each
  pub each_set : (K : ℕ → A → Type 0) (l : List A) (me : ℕ) (w : A) → K me w → ((j : ℕ) (d : A) → j ≢ me → get_elem? l j ≡ some d → K j d)
      → (j : ℕ) (d : A) → get_elem? (set l me w) j ≡ some d → K j d
  each_set K l me w mine others j d e = ⊎_elim (λ (t : (j ≡ me) × (w ≡ d)). subst (λ (x : ℕ × A). K x.0 x.1) (λ i. (sym t.0 i, t.1 i)) mine)
      (λ (t : (j ≢ me) × (get_elem? l j ≡ some d)). others j d t.0 t.1) (at_set l me j w d e)

module _ {B E R : Type 0} where
  abbrev pub AllApart : List (View B E R) → Type 0
  AllApart vs = (i j : ℕ) (v w : View B E R) → get_elem? vs i ≡ some v → get_elem? vs j ≡ some w → i ≢ j → AreApart v w

  -- each view after a view is set has callers that the view there had before
  pub from_old : (vs : List (View B E R)) (me : ℕ) (v w : View B E R) → get_elem? vs me ≡ some v → ((c : ℕ) → Has w c → Has v c)
      → (j : ℕ) (d : View B E R) → get_elem? (set vs me w) j ≡ some d → (old : View B E R) × (get_elem? vs j ≡ some old) × ((c : ℕ) → Has d c → Has old c)
  from_old vs me v w at within = each_set (λ j d. (old : View B E R) × (get_elem? vs j ≡ some old) × ((c : ℕ) → Has d c → Has old c)) vs me w (v, at, within) (λ j d other here. (d, here, λ c h. h))

  pub apart_set : (vs : List (View B E R)) (me : ℕ) (v w : View B E R) → get_elem? vs me ≡ some v → ((c : ℕ) → Has w c → Has v c) → AllApart vs → AllApart (set vs me w)
  apart_set vs me v w at within apart i j a b at_i at_j ne c in_a in_b =
      let x = from_old vs me v w at within i a at_i in
      let y = from_old vs me v w at within j b at_j in
      apart i j x.0 y.0 x.1 y.1 ne c (x.2 c in_a) (y.2 c in_b)
