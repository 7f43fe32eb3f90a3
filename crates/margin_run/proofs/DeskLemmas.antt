-- What the numbers of a publishing tell of its desks.
use Rattle.std.proofs.Common.{◌≡◌, ℕ, ◌+◌, ◌<◌, Bool, true, false, cond, not, List, [], ◌∷◌, ◌++◌, map, Option, Some, None, is_none, length, count_by, refl, sym, ap, ◌∙◌, arith, length-append}
use Rattle.std.specs.List.{Contains, filter}
use Rattle.std.proofs.lemmas.List.{append-nil, length-map}
use Rattle.std.proofs.lemmas.List.Elements.{All-contains, Contains-append_right}
use Rattle.std.proofs.lemmas.List.Sums.{length-filter, sum_by-cons, sum_by_more_le}
use Rattle.call_desk.specs.declared.notice.Notice.{Notice}
use Rattle.call_desk.specs.declared.fault.DeskFault.{DeskFault}
use Rattle.call_desk.specs.declared.fault.DeskFault.TheVariants.{Failed, Memory}
use Rattle.call_desk.specs.declared.publishing.Published.{Published}
use Rattle.call_desk.specs.Publish.{Outcome, IsRun, Publishes, leaves, is_failed, is_wanting}
use Rattle.margin_run.specs.Desks.{Desks, AreTold, OneFailed, OneWanted}

-- ---- counts

-- one that passes is among those that are counted
counted_first : {X : Type 0} (p : X → Bool) (x : X) (xs : List X) (b : Bool) → p x ≡ b → 0 < cond b 1 0 + count_by p xs
    → (0 < count_by p xs → (y : X) × Contains xs y × (p y ≡ true)) → (y : X) × Contains (x ∷ xs) y × (p y ≡ true)
counted_first p x xs true is some rest = (x, (0, omega arith, refl), is)
counted_first p x xs false is some rest =
    let found = rest (omega arith) in (found.0, Contains-append_right (x ∷ []) xs found.0 found.1, found.2)

counted : {X : Type 0} (p : X → Bool) (xs : List X) → 0 < count_by p xs → (x : X) × Contains xs x × (p x ≡ true)
counted p [] some = absurd (omega arith)
counted {X} p (x ∷ xs) some =
    counted_first p x xs (p x) refl (omega (arith, sum_by-cons (λ (y : X). cond (p y) 1 0) x xs)) (counted p xs)

-- one that passes is counted
counts : {X : Type 0} (p : X → Bool) (xs : List X) (x : X) → Contains xs x → p x ≡ true → 0 < count_by p xs
counts {X} p xs x there is =
    let one : X → ℕ = λ y. cond (p y) 1 0 in
    omega (arith, sum_by_more_le one xs there.0 x there.1, ap one there.2, ap {B = ℕ} (λ b. cond b 1 0) is)

empty : {X : Type 0} (xs : List X) → length xs ≡ 0 → xs ≡ []
empty [] none = refl
empty (x ∷ xs) none = absurd (omega arith)

-- ---- faults

failed_is : (fault : Option DeskFault) → is_failed fault ≡ true → fault ≡ Some Failed
failed_is None is = cc
failed_is (Some Failed) is = refl
failed_is (Some Memory) is = cc

wanted_is : (fault : Option DeskFault) → is_wanting fault ≡ true → fault ≡ Some Memory
wanted_is None is = cc
wanted_is (Some Failed) is = cc
wanted_is (Some Memory) is = refl

left_or_not : (fault : Option DeskFault) → cond (not (is_none fault)) 1 0 ≡ cond (is_failed fault) 1 0 + cond (is_wanting fault) 1 0
left_or_not None = refl
left_or_not (Some Failed) = refl
left_or_not (Some Memory) = refl

-- each desk that leaves failed or found no memory
left : {B : Type 0} (outcomes : List (Outcome B)) → count_by leaves outcomes ≡ count_by (λ o. is_failed o.fault) outcomes + count_by (λ o. is_wanting o.fault) outcomes
left [] = refl
left {B} (o ∷ outcomes) =
    omega (
      arith,
      left outcomes,
      left_or_not o.fault,
      sum_by-cons (λ (x : Outcome B). cond (leaves x) 1 0) o outcomes,
      sum_by-cons (λ (x : Outcome B). cond (is_failed x.fault) 1 0) o outcomes,
      sum_by-cons (λ (x : Outcome B). cond (is_wanting x.fault) 1 0) o outcomes,
    )

module _ {B : Type 0} (notices : List Notice) (d : Desks B) (published : Published) (outcomes : List (Outcome B))
    (h : Publishes d.seen notices d.before d.after d.retired_before d.retired published outcomes) where
  abbrev pub told : AreTold notices d
  told = record { published = published; outcomes = outcomes; publishes = h }

  run_of : (o : Outcome B) → Contains outcomes o → IsRun d.seen notices o
  run_of o there = All-contains (IsRun d.seen notices) outcomes o h.each there

  -- a desk failed
  pub one_failed : 0 < published.failed → OneFailed notices d
  one_failed some =
      let found = counted (λ (o : Outcome B). is_failed o.fault) outcomes (omega (arith, h.failed)) in
      let fault = failed_is (found.0).fault found.2 in
      record { told = told; o = found.0; there = found.1; failed = fault; rose = (run_of found.0 found.1).failed fault }

  -- none failed, and one found no memory
  pub one_wanted : published.failed ≡ 0 → 0 < published.memory → OneWanted notices d
  one_wanted none some =
      let found = counted (λ (o : Outcome B). is_wanting o.fault) outcomes (omega (arith, h.memory)) in
      let fault = wanted_is (found.0).fault found.2 in
      record { told = told; none_failed = none; o = found.0; there = found.1; wanted = fault; rose = (run_of found.0 found.1).memory fault }

  -- no desk met a fault
  pub all_stay : published.failed ≡ 0 → published.memory ≡ 0 → d.retired ≡ d.retired_before
  all_stay failed memory =
      let none : filter leaves outcomes ≡ [] = empty (filter leaves outcomes) (omega (arith, length-filter leaves outcomes, left outcomes, h.failed, h.memory)) in
      h.leaving ∙ (ap (λ (xs : List (Outcome B)). d.retired_before ++ map (λ x. x.after) xs) none ∙ append-nil d.retired_before)

  -- where none was retired none failed
  pub none_failed : d.retired ≡ d.retired_before → (o : Outcome B) → Contains outcomes o → o.fault ≡ Some Failed → ⊥
  none_failed stay o there failed =
      let one : 0 < count_by (λ (x : Outcome B). is_failed x.fault) outcomes = counts (λ (x : Outcome B). is_failed x.fault) outcomes o there (ap is_failed failed) in
      omega (
        arith,
        one,
        left outcomes,
        ap length (sym stay ∙ h.leaving),
        length-append d.retired_before (map (λ (x : Outcome B). x.after) (filter leaves outcomes)),
        length-map (filter leaves outcomes) (λ (x : Outcome B). x.after),
        length-filter leaves outcomes,
      )
