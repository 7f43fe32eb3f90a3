-- Numbers of issuers: of names that stand in order, two have one number where they are one.
use Rattle.std.proofs.Common.{◌≡◌, ℕ, zero, suc, ◌+◌, ◌-◌, ◌<◌, ◌≤◌, List, length, Bool, true, false, cond, ◌==◌, if◌then◌else◌, refl, sym, ap, ◌∙◌, subst, ℤ, unsigned_abs, arith, ◌⊎◌, ⊎_elim, inl, inr}
use Rattle.std.specs.declared.cmp.Ordering.TheVariants.{Less, Equal}
use Rattle.std.specs.Ordering.{is_eq, ordering_reverse}
use Rattle.std.proofs.lemmas.Bool.{cases_lt, eq-eqb, ne_eqb}
use Rattle.std.proofs.lemmas.Bool.Decides.{nat_tests}
use Rattle.std.proofs.lemmas.Cmp.{nat_list_cmp_total, nat_eq_equiv, tied_itself, eq_by_cmp_equiv}
use Rattle.measured_bucket.specs.SimmKinds.Order.{name_cmp, same_name}
use Rattle.measured_bucket.specs.SimmRules.Risks.{Amount}
use Rattle.measured_bucket.specs.WeightedBucket.declared.group.Grouped.{Grouped}
use Rattle.measured_bucket.specs.WeightedBucket.Group.{at}
use Rattle.class_credit.specs.Groups.{net_at, changes, issuer_rho}

-- ---- the table of correlations

pick_symmetric : (m n : ℕ) (a b : ℤ) → (if m == n then a else b) ≡ (if n == m then a else b)
pick_symmetric m n a b = grind (arith, nat_tests)

pub issuer_rho-symmetric : (same rho : ℤ) (grouped : List Grouped) (i j : ℕ) → issuer_rho same rho grouped i j ≡ issuer_rho same rho grouped j i
issuer_rho-symmetric same rho grouped i j = pick_symmetric (at grouped i).group (at grouped j).group same rho

pub issuer_rho-small : (same rho : ℤ) (grouped : List Grouped) (i j : ℕ) → unsigned_abs same ≤ 1000000 → unsigned_abs rho ≤ 1000000 → unsigned_abs (issuer_rho same rho grouped i j) ≤ 1000000
issuer_rho-small same rho grouped i j h g = pick ((at grouped i).group == (at grouped j).group)
  where
    pick : (t : Bool) → unsigned_abs (cond t same rho) ≤ 1000000
    pick true = h
    pick false = g

-- ---- names in order

abbrev pub NotAfter : List ℕ → List ℕ → Type 0
NotAfter a b = (name_cmp a b ≡ Less) ⊎ (name_cmp a b ≡ Equal)

equal_left : (a b c : List ℕ) → name_cmp a b ≡ Equal → name_cmp a c ≡ name_cmp b c
equal_left a b c e = nat_list_cmp_total.congr a b c e

equal_right : (a b c : List ℕ) → name_cmp b c ≡ Equal → name_cmp a b ≡ name_cmp a c
equal_right a b c e = nat_list_cmp_total.antisymm a b ∙ ap ordering_reverse (equal_left b c a e) ∙ sym (nat_list_cmp_total.antisymm a c)

then_less : (a b c : List ℕ) → NotAfter a b → name_cmp b c ≡ Less → name_cmp a c ≡ Less
then_less a b c h g = ⊎_elim (λ less. nat_list_cmp_total.trans a b c less g) (λ equal. equal_left a b c equal ∙ g) h

-- ---- their numbers

module _ (nets : List (Amount (List ℕ))) where
  abbrev name_at : ℕ → List ℕ
  name_at k = (net_at nets k).of

  changes_same : (k : ℕ) → name_cmp (name_at k) (name_at (suc k)) ≡ Equal → changes nets (suc k) ≡ changes nets k
  changes_same k e = ap (λ o. if is_eq o then changes nets k else changes nets k + 1) e

  changes_other : (k : ℕ) → name_cmp (name_at k) (name_at (suc k)) ≡ Less → changes nets (suc k) ≡ changes nets k + 1
  changes_other k e = ap (λ o. if is_eq o then changes nets k else changes nets k + 1) e

  -- the number at a place, by that at the place before
  pub number_same : (place : ℕ) → 0 < place → same_name (name_at (place - 1)) (name_at place) ≡ true → changes nets (place - 1) ≡ changes nets place
  number_same zero h e = absurd (omega arith)
  number_same (suc k) h e =
      let back : suc k - 1 ≡ k = omega arith in
      let same : same_name (name_at k) (name_at (suc k)) ≡ true = ap (λ n. same_name (name_at n) (name_at (suc k))) (sym back) ∙ e in
      ap (changes nets) back ∙ sym (ap (λ t. if t then changes nets k else changes nets k + 1) same)

  pub number_other : (place : ℕ) → 0 < place → same_name (name_at (place - 1)) (name_at place) ≡ false → changes nets (place - 1) + 1 ≡ changes nets place
  number_other zero h e = absurd (omega arith)
  number_other (suc k) h e =
      let back : suc k - 1 ≡ k = omega arith in
      let other : same_name (name_at k) (name_at (suc k)) ≡ false = ap (λ n. same_name (name_at n) (name_at (suc k))) (sym back) ∙ e in
      ap (λ n. changes nets n + 1) back ∙ sym (ap (λ t. if t then changes nets k else changes nets k + 1) other)

  pub number_first : (place : ℕ) → place ≤ 0 → changes nets (place - 1) ≡ changes nets place
  number_first place h = let none : place ≡ 0 = omega arith in let back : place - 1 ≡ place = omega arith in ap (changes nets) back

  -- there are no more changes than places
  pub changes-le : (k : ℕ) → changes nets k ≤ k
  changes-le zero = omega arith
  changes-le (suc k) = by (same_name (name_at k) (name_at (suc k))) (changes-le k)
    where
      by : (t : Bool) → changes nets k ≤ k → (if t then changes nets k else changes nets k + 1) ≤ suc k
      by true h = omega arith
      by false h = omega arith

  -- two names are one and have one number, or the first comes before the other and has a lower number
  abbrev Told : ℕ → ℕ → Type 0
  Told i j = ((name_cmp (name_at i) (name_at j) ≡ Equal) × (changes nets i ≡ changes nets j)) ⊎ ((name_cmp (name_at i) (name_at j) ≡ Less) × (changes nets i < changes nets j))

  itself : (i : ℕ) → Told i i
  itself i = inl (tied_itself nat_list_cmp_total (name_at i), refl)

  step_same : (i j : ℕ) → Told i j → name_cmp (name_at j) (name_at (suc j)) ≡ Equal → Told i (suc j)
  step_same i j told e =
      ⊎_elim (λ same. inl (sym (equal_right (name_at i) (name_at j) (name_at (suc j)) e) ∙ same.0, same.1 ∙ sym (changes_same j e)))
      (λ before. inr (sym (equal_right (name_at i) (name_at j) (name_at (suc j)) e) ∙ before.0, subst (λ n. changes nets i < n) (sym (changes_same j e)) before.1)) told

  step_other : (i j : ℕ) → Told i j → name_cmp (name_at j) (name_at (suc j)) ≡ Less → Told i (suc j)
  step_other i j told e =
      ⊎_elim (λ same. inr (equal_left (name_at i) (name_at j) (name_at (suc j)) same.0 ∙ e, subst (λ n. changes nets i < n) (sym (changes_other j e)) (let one : changes nets i ≡ changes nets j = same.1 in omega arith)))
      (λ before. inr (nat_list_cmp_total.trans (name_at i) (name_at j) (name_at (suc j)) before.0 e, subst (λ n. changes nets i < n) (sym (changes_other j e)) (let less : changes nets i < changes nets j = before.1 in omega arith))) told

  module _ (sorted : (i j : ℕ) → i < j → j < length nets → NotAfter (name_at i) (name_at j)) where
    tell : (i j : ℕ) → i ≤ j → j < length nets → Told i j
    tell i zero h l = let none : 0 ≡ i = omega arith in subst (λ k. Told k 0) none (itself 0)
    tell i (suc j) h l =
        ⊎_elim (λ below. let so_far = tell i j (omega arith) (omega arith) in ⊎_elim (step_other i j so_far) (step_same i j so_far) (sorted j (suc j) (omega arith) l))
        (λ above. let all : suc j ≡ i = omega arith in subst (λ k. Told k (suc j)) all (itself (suc j))) (cases_lt i (suc j))

    pub numbers_ascend : (i j : ℕ) → i ≤ j → j < length nets → changes nets i ≤ changes nets j
    numbers_ascend i j h l = ⊎_elim (λ same. let e : changes nets i ≡ changes nets j = same.1 in omega arith) (λ before. let less : changes nets i < changes nets j = before.1 in omega arith) (tell i j h l)

    told_is : (i j : ℕ) → Told i j → (changes nets i == changes nets j) ≡ same_name (name_at i) (name_at j)
    told_is i j told =
        ⊎_elim (λ same. eq-eqb (changes nets i) (changes nets j) same.1 ∙ sym (ap is_eq same.0))
        (λ before. let less : changes nets i < changes nets j = before.1 in ne_eqb (changes nets i) (changes nets j) (λ e. omega arith) ∙ sym (ap is_eq before.0)) told

    name_symmetric : (a b : List ℕ) → same_name a b ≡ same_name b a
    name_symmetric a b = (eq_by_cmp_equiv nat_list_cmp_total).symm a b

    flip : (m n : ℕ) → (m == n) ≡ (n == m)
    flip m n = nat_eq_equiv.symm m n

    -- the numbers of two names tell them apart
    pub numbers_tell : (i j : ℕ) → i < length nets → j < length nets → (changes nets i == changes nets j) ≡ same_name (name_at i) (name_at j)
    numbers_tell i j l m =
        ⊎_elim (λ below. told_is i j (tell i j (omega arith) m))
        (λ above. flip (changes nets i) (changes nets j) ∙ told_is j i (tell j i above l) ∙ name_symmetric (name_at j) (name_at i)) (cases_lt i j)
