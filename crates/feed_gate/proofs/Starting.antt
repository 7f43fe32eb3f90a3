-- Sets that are made of terms are apart, and without calls.
use Rattle.std.proofs.Common.{◌≡◌, ℕ, ◌≤◌, arith, All, List, [], ◌∷◌, map, length, take, zero, suc, false, refl, sym, ap, ◌∙◌, subst, ⊎_elim}
use Rattle.std.specs.List.{AllByRecursion, IsDistinct}
use Rattle.std.proofs.lemmas.Bool.{cases_lt}
use Rattle.std.proofs.lemmas.List.{length-map, length-take-le, take_all}
use Rattle.std.proofs.lemmas.List.Elements.{All-nil, All-cons}
use Rattle.feed_events.specs.CrifReader.SimmKinds.Order.{same_name}
use Rattle.feed_events.specs.SetCore.SimmRules.Params.{Params}
use Rattle.feed_events.specs.FeedReader.CsaTerms.Terms.{Agreements, AreTerms}
use Rattle.feed_events.specs.SetCore.Set.{Set, start}
use Rattle.feed_gate.specs.Sets.{AreApart}

same_terms : (p : Params) (agreements : List Agreements) → map (λ s. s.terms.collect.name) (map (start p) agreements) ≡ map (λ t. t.collect.name) agreements
same_terms p [] = refl
same_terms p (t ∷ ts) = ap (λ ns. t.collect.name ∷ ns) (same_terms p ts)

distinct_front : (i : ℕ) (n : List ℕ) (agreements : List Agreements) → AllByRecursion (λ m. same_name n m ≡ false) (map (λ t. t.collect.name) agreements) → AllByRecursion (λ m. same_name n m ≡ false) (map (λ t. t.collect.name) (take i agreements))
distinct_front zero n agreements h = tt
distinct_front (suc i) n [] h = tt
distinct_front (suc i) n (t ∷ ts) h = (h.0, distinct_front i n ts h.1)

front_distinct : (i : ℕ) (agreements : List Agreements) → IsDistinct same_name (map (λ t. t.collect.name) agreements) → IsDistinct same_name (map (λ t. t.collect.name) (take i agreements))
unfolding IsDistinct
front_distinct zero agreements h = tt
front_distinct (suc i) [] h = tt
front_distinct (suc i) (t ∷ ts) h = (distinct_front i t.collect.name ts h.0, front_distinct i ts h.1)

shorter : (i : ℕ) (agreements : List Agreements) → length (take i agreements) ≤ length agreements
shorter i agreements = ⊎_elim
    (λ lt. omega (arith, lt, length-take-le i agreements (omega (arith, lt))))
    (λ ge. omega (arith, ap length (take_all i agreements (omega (arith, ge)))))
    (cases_lt i (length agreements))

-- the sets of a front of the terms
pub apart_part : (p : Params) (i : ℕ) (agreements : List Agreements) (sets : List Set) → AreTerms agreements → sets ≡ map (start p) (take i agreements) → AreApart sets
apart_part p i agreements sets h e = subst AreApart (sym e) (record {
  few = omega (arith, h.few, length-map (take i agreements) (start p), shorter i agreements);
  different = subst (IsDistinct same_name) (sym (same_terms p (take i agreements))) (front_distinct i agreements h.different);
})

-- the sets of the terms have no calls yet
pub none_called : (p : Params) (agreements : List Agreements) → All (λ s. s.journal ≡ []) (map (start p) agreements)
none_called p [] = All-nil (λ (s : Set). s.journal ≡ [])
none_called p (t ∷ ts) = All-cons (λ (s : Set). s.journal ≡ []) (start p t) (map (start p) ts) refl (none_called p ts)
