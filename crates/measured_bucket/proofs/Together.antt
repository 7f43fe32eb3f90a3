-- Amounts in the order of what they are to: the sums of their runs are those of the different ones.
use Rattle.std.proofs.Common.{◌≡◌, List, [], ◌∷◌, map, Bool, true, false, cond, refl, sym, ap, ◌∙◌, ℤ, pos, ◌+ℤ◌, ◌⊎◌, inl, inr, ⊎_elim, arith}
use Rattle.std.specs.declared.cmp.Ordering.{Ordering}
use Rattle.std.specs.declared.cmp.Ordering.TheVariants.{Less, Equal, Greater}
use Rattle.std.specs.Ordering.{is_eq, ordering_reverse}
use Rattle.std.specs.Cmp.{IsTotalOrder}
use Rattle.std.specs.List.{filter, AllByRecursion}
use Rattle.std.proofs.Math.IntN.{+ℤ_assoc}
use Rattle.std.proofs.lemmas.Int.{ints}
use Rattle.std.proofs.lemmas.Cmp.{tied_itself, eq_by_cmp_equiv}
use Rattle.simm_params.specs.SimmRules.Sums.{total_by, placed, put_in, different}
use Rattle.simm_params.specs.SimmRules.Risks.{Amount}
use Rattle.measured_bucket.specs.Runs.{plus, summed_from, summed}
use Rattle.measured_bucket.proofs.Lists.{each_weaker}

module _ {A : Type 0} (cmp : A → A → Ordering) (order : IsTotalOrder cmp) (same : A → A → Bool) (tests : (x y : A) → same x y ≡ is_eq (cmp x y)) where
  -- no later than another
  abbrev pub NotAfter : A → A → Type 0
  NotAfter x y = (cmp x y ≡ Less) ⊎ (cmp x y ≡ Equal)

  -- each is no later than those after it
  abbrev pub Ascends : List (Amount A) → Type 0
  Ascends [] = Unit {0}
  Ascends (a ∷ rest) = AllByRecursion (λ b. NotAfter a.of b.of) rest × Ascends rest

  -- the amounts to a thing, as one
  abbrev pub sum_to : List (Amount A) → A → Amount A
  sum_to xs k = record { of = k; amount = total_by (λ a. a.amount) (filter (λ a. same a.of k) xs) }

  abbrev pub kinds : List (Amount A) → List A
  kinds xs = different cmp (map (λ a. a.of) xs)

  -- ---- what is so of each is so of the different ones

  module _ (P : A → Type 0) where
    placed_each : (o : Ordering) (x y : A) (ys deeper : List A) → P x → AllByRecursion P (y ∷ ys) → AllByRecursion P deeper → AllByRecursion P (placed o x y ys deeper)
    placed_each Less x y ys deeper p h d = (p, h)
    placed_each Equal x y ys deeper p h d = h
    placed_each Greater x y ys deeper p h d = (h.0, d)

    put_each : (x : A) (ys : List A) → P x → AllByRecursion P ys → AllByRecursion P (put_in cmp x ys)
    put_each x [] p h = (p, tt)
    put_each x (y ∷ ys) p h = placed_each (cmp x y) x y ys (put_in cmp x ys) p h (put_each x ys p h.1)

    pub kinds_each : (xs : List (Amount A)) → AllByRecursion (λ a. P a.of) xs → AllByRecursion P (kinds xs)
    kinds_each [] h = tt
    kinds_each (x ∷ xs) h = put_each x.of (kinds xs) h.0 (kinds_each xs h.1)

  -- ---- the first of the different ones

  record Begins (x : A) (ks : List A) : Type 0 where
    head : A
    rest : List A
    are : ks ≡ head ∷ rest
    tied : cmp x head ≡ Equal

  begins_at : (x y : A) (ys : List A) → NotAfter x y → Begins x (put_in cmp x (y ∷ ys))
  begins_at x y ys before =
      ⊎_elim (λ less. record { head = x; rest = y ∷ ys; are = ap (λ o. placed o x y ys (put_in cmp x ys)) less; tied = tied_itself order x })
      (λ equal. record { head = y; rest = ys; are = ap (λ o. placed o x y ys (put_in cmp x ys)) equal; tied = equal }) before

  begins_put : (x : A) (ks : List A) → AllByRecursion (NotAfter x) ks → Begins x (put_in cmp x ks)
  begins_put x [] h = record { head = x; rest = []; are = refl; tied = tied_itself order x }
  begins_put x (y ∷ ys) h = begins_at x y ys h.0

  begins : (a : Amount A) (xs : List (Amount A)) → AllByRecursion (λ b. NotAfter a.of b.of) xs → Begins a.of (kinds (a ∷ xs))
  begins a xs h = begins_put a.of (kinds xs) (kinds_each (NotAfter a.of) xs h)

  -- ---- comparisons

  equal_right : (x y z : A) → cmp y z ≡ Equal → cmp x y ≡ cmp x z
  equal_right x y z e = order.antisymm x y ∙ ap ordering_reverse (order.congr y z x e) ∙ sym (order.antisymm x z)

  tied_same : (x y k : A) → cmp x y ≡ Equal → same x k ≡ same y k
  tied_same x y k e = tests x k ∙ ap is_eq (order.congr x y k e) ∙ sym (tests y k)

  itself : (x : A) → same x x ≡ true
  itself x = tests x x ∙ ap is_eq (tied_itself order x)

  less_other : (x y : A) → cmp x y ≡ Less → same y x ≡ false
  less_other x y e = tests y x ∙ (eq_by_cmp_equiv order).symm y x ∙ ap is_eq e

  earlier_other : (x k : A) → cmp x k ≡ Less → same x k ≡ false
  earlier_other x k e = tests x k ∙ ap is_eq e

  less_all : (x y z : A) → cmp x y ≡ Less → NotAfter y z → cmp x z ≡ Less
  less_all x y z e h = ⊎_elim (λ less. order.trans x y z e less) (λ equal. sym (equal_right x y z equal) ∙ e) h

  after_both : (x y z : A) → cmp x y ≡ Equal → NotAfter y z → NotAfter x z
  after_both x y z e h = ⊎_elim (λ less. inl (order.congr x y z e ∙ less)) (λ equal. inr (order.congr x y z e ∙ equal)) h

  -- ---- one run more

  maps_each : {B : Type 0} (f g : A → B) (ks : List A) → AllByRecursion (λ k. f k ≡ g k) ks → map f ks ≡ map g ks
  maps_each f g [] h = refl
  maps_each f g (k ∷ ks) h = ap (λ y. y ∷ map f ks) h.0 ∙ ap (λ ys. g k ∷ ys) (maps_each f g ks h.1)

  always : (P : A → Type 0) → ((k : A) → P k) → (ks : List A) → AllByRecursion P ks
  always P f [] = tt
  always P f (k ∷ ks) = (f k, always P f ks)

  none_to : (x : A) (xs : List (Amount A)) → AllByRecursion (λ b. cmp x b.of ≡ Less) xs → total_by (λ a. a.amount) (filter (λ a. same a.of x) xs) ≡ pos 0
  none_to x [] h = refl
  none_to x (b ∷ xs) h = ap (λ t. total_by (λ (a : Amount A). a.amount) (cond t (b ∷ filter (λ a. same a.of x) xs) (filter (λ a. same a.of x) xs))) (less_other x b.of h.0) ∙ none_to x xs h.1

  -- two of one thing count as their sum
  pair_total : (t : Bool) (before a : Amount A) (xs : List (Amount A)) → total_by (λ b. b.amount) (cond t (before ∷ cond t (a ∷ xs) xs) (cond t (a ∷ xs) xs)) ≡ total_by (λ b. b.amount) (cond t (plus before a ∷ xs) xs)
  pair_total true before a xs = sym (+ℤ_assoc before.amount a.amount (total_by (λ b. b.amount) xs))
  pair_total false before a xs = refl

  sums_same : (before a : Amount A) (xs : List (Amount A)) → cmp before.of a.of ≡ Equal → (k : A) → sum_to (before ∷ a ∷ xs) k ≡ sum_to (plus before a ∷ xs) k
  sums_same before a xs e k =
      let rest = filter (λ (b : Amount A). same b.of k) xs in
      ap (λ z. record { of = k; amount = z })
      (ap (λ t. total_by (λ (b : Amount A). b.amount) (cond t (before ∷ cond (same a.of k) (a ∷ rest) rest) (cond (same a.of k) (a ∷ rest) rest))) (tied_same before.of a.of k e)
      ∙ pair_total (same a.of k) before a rest)

  -- the first run ends before a
  first_run : (before : Amount A) (xs : List (Amount A)) → AllByRecursion (λ b. cmp before.of b.of ≡ Less) xs → sum_to (before ∷ xs) before.of ≡ before
  first_run before xs h =
      let rest = filter (λ (b : Amount A). same b.of before.of) xs in
      ap (λ z. record { of = before.of; amount = z })
      (ap (λ t. total_by (λ (b : Amount A). b.amount) (cond t (before ∷ rest) rest)) (itself before.of) ∙ ap (λ z. before.amount +ℤ z) (none_to before.of xs h) ∙ zero_right before.amount)
    where
      zero_right : (z : ℤ) → z +ℤ pos 0 ≡ z
      zero_right z = omega (arith, ints)

  later_run : (before : Amount A) (xs : List (Amount A)) (k : A) → cmp before.of k ≡ Less → sum_to xs k ≡ sum_to (before ∷ xs) k
  later_run before xs k e =
      let rest = filter (λ (b : Amount A). same b.of k) xs in
      ap (λ z. record { of = k; amount = z }) (sym (ap (λ t. total_by (λ (b : Amount A). b.amount) (cond t (before ∷ rest) rest)) (earlier_other before.of k e)))

  kinds_tied : (before a : Amount A) (xs : List (Amount A)) → cmp before.of a.of ≡ Equal → AllByRecursion (λ b. NotAfter a.of b.of) xs → kinds (before ∷ a ∷ xs) ≡ kinds (a ∷ xs)
  kinds_tied before a xs e h =
      let b = begins a xs h in
      ap (put_in cmp before.of) b.are ∙ ap (λ o. placed o before.of b.head b.rest (put_in cmp before.of b.rest)) (order.congr before.of a.of b.head e ∙ b.tied) ∙ sym b.are

  kinds_less : (before a : Amount A) (xs : List (Amount A)) → cmp before.of a.of ≡ Less → AllByRecursion (λ b. NotAfter a.of b.of) xs → kinds (before ∷ a ∷ xs) ≡ before.of ∷ kinds (a ∷ xs)
  kinds_less before a xs e h =
      let b = begins a xs h in
      ap (put_in cmp before.of) b.are ∙ ap (λ o. placed o before.of b.head b.rest (put_in cmp before.of b.rest)) (sym (equal_right before.of a.of b.head b.tied) ∙ e) ∙ ap (λ ks. before.of ∷ ks) (sym b.are)

  rests : (before : Amount A) (xs : List (Amount A)) (ks : List A) → AllByRecursion (λ k. cmp before.of k ≡ Less) ks → AllByRecursion (λ k. sum_to xs k ≡ sum_to (before ∷ xs) k) ks
  rests before xs ks l = each_weaker (λ k. cmp before.of k ≡ Less) (λ k. sum_to xs k ≡ sum_to (before ∷ xs) k) (λ k its. later_run before xs k its) ks l

  runs_from : (before : Amount A) (xs : List (Amount A)) → Ascends (before ∷ xs) → summed_from same before xs ≡ map (sum_to (before ∷ xs)) (kinds (before ∷ xs))
  runs_from before [] h = ap (λ z. z ∷ []) (sym (first_run before [] tt))
  runs_from before (a ∷ xs) h = ⊎_elim (λ e. less e (runs_from a xs h.1)) (λ e. tied e (runs_from (plus before a) xs h.1)) h.0.0
    where
      less : cmp before.of a.of ≡ Less → summed_from same a xs ≡ map (sum_to (a ∷ xs)) (kinds (a ∷ xs)) → summed_from same before (a ∷ xs) ≡ map (sum_to (before ∷ a ∷ xs)) (kinds (before ∷ a ∷ xs))
      less e later =
          let all : AllByRecursion (λ b. cmp before.of b.of ≡ Less) (a ∷ xs) = (e, each_weaker (λ (b : Amount A). NotAfter a.of b.of) (λ b. cmp before.of b.of ≡ Less) (λ b its. less_all before.of a.of b.of e its) xs h.1.0) in
          ap (λ t. cond t (summed_from same (plus before a) xs) (before ∷ summed_from same a xs)) (earlier_other before.of a.of e)
          ∙ ap (λ ys. before ∷ ys) (later
          ∙ maps_each (sum_to (a ∷ xs)) (sum_to (before ∷ a ∷ xs)) (kinds (a ∷ xs))
          (rests before (a ∷ xs) (kinds (a ∷ xs)) (kinds_each (λ k. cmp before.of k ≡ Less) (a ∷ xs) all)))
          ∙ ap (λ y. y ∷ map (sum_to (before ∷ a ∷ xs)) (kinds (a ∷ xs))) (sym (first_run before (a ∷ xs) all))
          ∙ sym (ap (map (sum_to (before ∷ a ∷ xs))) (kinds_less before a xs e h.1.0))

      tied : cmp before.of a.of ≡ Equal → summed_from same (plus before a) xs ≡ map (sum_to (plus before a ∷ xs)) (kinds (plus before a ∷ xs)) → summed_from same before (a ∷ xs) ≡ map (sum_to (before ∷ a ∷ xs)) (kinds (before ∷ a ∷ xs))
      tied e later =
          ap (λ t. cond t (summed_from same (plus before a) xs) (before ∷ summed_from same a xs)) (tests before.of a.of ∙ ap is_eq e)
          ∙ later
          ∙ maps_each (sum_to (plus before a ∷ xs)) (sum_to (before ∷ a ∷ xs)) (kinds (a ∷ xs)) (always (λ k. sum_to (plus before a ∷ xs) k ≡ sum_to (before ∷ a ∷ xs) k) (λ k. sym (sums_same before a xs e k)) (kinds (a ∷ xs)))
          ∙ sym (ap (map (sum_to (before ∷ a ∷ xs))) (kinds_tied before a xs e h.1.0))

  -- the sums of the runs are those of the different ones
  pub runs_are : (xs : List (Amount A)) → Ascends xs → summed same xs ≡ map (sum_to xs) (kinds xs)
  runs_are [] h = refl
  runs_are (x ∷ xs) h = runs_from x xs h
