-- Names of sets: which place a name has, and that no other place has it.
use Rattle.std.proofs.Common.{◌≡◌, ℕ, zero, suc, ◌<◌, arith, List, [], ◌∷◌, length, true, false, Some, sym, ◌∙◌, subst}
use Rattle.std.specs.List.{AllByRecursion, IsDistinct, slice_get}
use Rattle.std.proofs.lemmas.Option.{none-some, same_Some, get_or_from_slice_get}
use Rattle.std.proofs.lemmas.List.Quantifiers.{position-Some}
use Rattle.std.proofs.lemmas.Slice.Eq.{bytes_eq-Decides}
use Rattle.std.proofs.lemmas.Map.Text.{is_eq-slice_cmp}
use Rattle.std.proofs.lemmas.Cmp.{eq_by_cmp_equiv, nat_list_cmp_total}
use Rattle.feed_events.specs.CrifReader.SimmKinds.Order.{same_name}
use Rattle.feed_gate.specs.Fates.{place_of}

-- names that compare equal are equal
pub one_name : (a b : List ℕ) → same_name a b ≡ true → a ≡ b
one_name a b h = (bytes_eq-Decides a b).0 (sym (is_eq-slice_cmp a b) ∙ h)

pub same_name_sym : (a b : List ℕ) → same_name a b ≡ same_name b a
same_name_sym = (eq_by_cmp_equiv nat_list_cmp_total).symm

all_get : {X : Type 0} (P : X → Type 0) (xs : List X) (k : ℕ) (x : X) → AllByRecursion P xs → slice_get xs k ≡ Some x → P x
all_get P [] k x all at = absurd (none-some x at)
all_get P (y ∷ ys) zero x all at = subst P (same_Some y x at) all.0
all_get P (y ∷ ys) (suc k) x all at = all_get P ys k x all.1 at

-- a name is not that of a place behind it
later_name : (names : List (List ℕ)) (i k : ℕ) (a b : List ℕ) → IsDistinct same_name names → slice_get names i ≡ Some a → slice_get names k ≡ Some b → i < k → same_name a b ≡ false
unfolding IsDistinct
later_name [] i k a b apart at_a at_b lt = absurd (none-some a at_a)
later_name (n ∷ names) zero zero a b apart at_a at_b lt = absurd (omega (arith, lt))
later_name (n ∷ names) zero (suc k) a b apart at_a at_b lt = subst (λ x. same_name x b ≡ false) (same_Some n a at_a) (all_get (λ y. same_name n y ≡ false) names k b apart.0 at_b)
later_name (n ∷ names) (suc i) zero a b apart at_a at_b lt = absurd (omega (arith, lt))
later_name (n ∷ names) (suc i) (suc k) a b apart at_a at_b lt = later_name names i k a b apart.1 at_a at_b (omega (arith, lt))

-- the set at its place has the name
pub named_here : (name here : List ℕ) (names : List (List ℕ)) (place : ℕ) → place_of name names ≡ Some place → slice_get names place ≡ Some here → same_name name here ≡ true
named_here name here names place is at =
    subst (λ n. same_name name n ≡ true) (get_or_from_slice_get names place here [] at) (position-Some (same_name name) names place [] is).1

pub place_within : (name : List ℕ) (names : List (List ℕ)) (place : ℕ) → place_of name names ≡ Some place → place < length names
place_within name names place is = (position-Some (same_name name) names place [] is).0

-- no set before it does
pub unnamed_before : (name other : List ℕ) (names : List (List ℕ)) (place k : ℕ) → place_of name names ≡ Some place → slice_get names k ≡ Some other → k < place → same_name name other ≡ false
unnamed_before name other names place k is at lt =
    subst (λ n. same_name name n ≡ false) (get_or_from_slice_get names k other [] at)
    ((position-Some (same_name name) names place [] is).2 k lt)

-- nor behind it
pub unnamed_behind : (name here other : List ℕ) (names : List (List ℕ)) (place k : ℕ) → IsDistinct same_name names → place_of name names ≡ Some place → slice_get names place ≡ Some here → slice_get names k ≡ Some other → place < k → same_name name other ≡ false
unnamed_behind name here other names place k apart is at_here at_other lt =
    subst (λ n. same_name n other ≡ false) (sym (one_name name here (named_here name here names place is at_here)))
    (later_name names place k here other apart at_here at_other lt)
