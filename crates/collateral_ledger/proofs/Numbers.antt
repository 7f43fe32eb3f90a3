-- The outstanding calls of a map's entries by number: one more behind the others, and one less.
use Rattle.std.proofs.Common.{◌≡◌, ℕ, ◌+◌, ◌*◌, ◌<◌, ◌≤◌, ◌^◌, length-append, List, [], ◌∷◌, ◌++◌, map, length, Bool, false, not, ◌==◌, None, Some, is_some, Greater, ℤ, ◌+ℤ◌, ◌-ℤ◌, unsigned_abs, refl, sym, ap, ◌∙◌, subst, arith}
use Rattle.std.specs.List.{AllByRecursion, IsDistinct}
use Rattle.std.specs.Ordering.{nat_cmp, is_eq, eq_by_cmp}
use Rattle.std.specs.Cmp.{nat_cmp_total, eq_by_cmp_equiv, unsigned_tied, unsigned_ties}
use Rattle.std.specs.BTreeMap.{insert_entry, is_at}
use Rattle.std.specs.List.Sorted.{IsStrictlySortedBy}
use Rattle.std.specs.Map.{keys_of, lookup, remove_entry}
use Rattle.std.proofs.lemmas.Bool.Decides.{nat_tests}
use Rattle.std.proofs.lemmas.Int.{ints}
use Rattle.std.proofs.lemmas.List.{length-map, map-append}
use Rattle.std.proofs.lemmas.List.Elements.{filter_agree}
use Rattle.std.proofs.lemmas.Map.{lookup-none}
use Rattle.std.proofs.lemmas.Map.Keys.{IsDistinct-from_sorted}
use Rattle.csa_terms.specs.declared.flow.Flow.{Flow}
use Rattle.csa_terms.specs.declared.flow.Flow.TheVariants.{Delivery, Return}
use Rattle.collateral_ledger.specs.Holdings.{Call, IsCall, IsCallAmount, AreCalls}
use Rattle.collateral_ledger.specs.Booked.{total, settled, settled_at}
use Rattle.collateral_ledger.specs.Changes.{has_call, without_call}
use Rattle.collateral_ledger.specs.Kept.{Open, Called, call_at, settled_of, AreAdded}
use Rattle.collateral_ledger.proofs.Viewed.{each_push, each_weaker, each_removed, length-removed, list_any-view, map-filter, removed-filter}
use Rattle.collateral_ledger.proofs.Sums.{IsSmall, kept128, kept_is, sum_is, difference_is}
use Rattle.collateral_ledger.proofs.Totals.{total_of, total-inserted, total-removed, total_size, total-viewed}

abbrev pub calls_at : List (ℕ × Open) → List Call
calls_at es = map call_at es

pub total-calls_at : (es : List (ℕ × Open)) → total (map settled (calls_at es)) ≡ total_of settled_of es
total-calls_at = total-viewed call_at settled settled_of (λ e. refl)

pub has_call-calls_at : (number : ℕ) (es : List (ℕ × Open)) → is_some (lookup (is_at (nat_cmp number)) es) ≡ has_call number (calls_at es)
has_call-calls_at number = list_any-view (eq_by_cmp nat_cmp number) call_at (λ (call : Call). number == call.number) (λ e. unsigned_ties number e.0)

calls_at-removed : (number : ℕ) (es : List (ℕ × Open)) → IsStrictlySortedBy nat_cmp (keys_of es) → calls_at (remove_entry (is_at (nat_cmp number)) es) ≡ without_call number (calls_at es)
calls_at-removed number es sorted =
    ap calls_at (removed-filter (eq_by_cmp_equiv nat_cmp_total) number es (IsDistinct-from_sorted nat_cmp (keys_of es) sorted))
    ∙ ap calls_at (filter_agree (λ (e : ℕ × Open). not (eq_by_cmp nat_cmp number e.0)) (λ (e : ℕ × Open). not (number == e.0)) (λ e. ap not (unsigned_tied number e.0)) es)
    ∙ map-filter call_at (λ (call : Call). not (number == call.number)) es

above : (a b : ℕ) → b < a → nat_cmp a b ≡ Greater
above a b h = grind (arith, nat_tests)

abbrev pub IsAdded : ℕ → ℕ × Open → Type 0
IsAdded count e = IsCall count (call_at e)

-- a number above all others goes last
insert_last : (count number : ℕ) (call : Open) (es : List (ℕ × Open)) → AllByRecursion (IsAdded count) es → count < number → insert_entry nat_cmp es number call ≡ es ++ (number, call) ∷ []
insert_last count number call [] h high = refl
insert_last count number call (e ∷ es) h high = rw (above number e.0 (omega (arith, h.0.last))) (ap (λ fs. e ∷ fs) (insert_last count number call es h.1 high))

-- ---- what each call keeps

abbrev pub called : List (ℕ × Open) → ℕ → Called
called es added = record { calls = calls_at es; added = added }

later : (count : ℕ) (e : ℕ × Open) → IsAdded count e → IsAdded (count + 1) e
later count e h = record { first = h.first; last = omega (arith, h.last); amount = h.amount }

-- a number above all others is at no call
absent : (count number : ℕ) (es : List (ℕ × Open)) → AllByRecursion (IsAdded count) es → count < number → lookup (is_at (nat_cmp number)) es ≡ None
absent count number es h high =
    lookup-none (is_at (nat_cmp number)) es
    (each_weaker (IsAdded count) (λ e. is_eq (nat_cmp number e.0) ≡ false) (λ e is. ap is_eq (above number e.0 (omega (arith, is.last, high)))) es h)

-- ---- what is booked for the calls together

settled_small : (flow : Flow) (amount : ℤ) → IsCallAmount amount → unsigned_abs (settled_at flow amount) ≤ 10 ^ 18
settled_small Delivery amount h = omega (arith, ints, h.low, h.high)
settled_small Return amount h = omega (arith, ints, h.low, h.high)

sum_size : (count : ℕ) (sum : ℤ) (es : List (ℕ × Open)) → AreAdded count sum es → unsigned_abs sum ≤ 10 ^ 18 * length es
sum_size count sum es h =
    omega (arith, ap unsigned_abs h.settled, total_size settled_of (10 ^ 18) es (each_weaker (IsAdded count) (λ e. unsigned_abs (settled_of e.1) ≤ 10 ^ 18) (λ e is. settled_small e.1.flow e.1.amount is.amount) es h.each))

pub sum_small : (count : ℕ) (sum : ℤ) (es : List (ℕ × Open)) → AreAdded count sum es → count < 2 ^ 32 → IsSmall sum
sum_small count sum es h few = omega (arith, sum_size count sum es h, h.few, few)

-- as contracts see it
pub record IsSettled (held : Called) (read : ℤ) : Type 0 where
  pub value : read ≡ total (map settled held.calls)
  pub size : unsigned_abs read ≤ 10 ^ 18 * length held.calls
  pub few : length held.calls ≤ held.added
  pub fits : unsigned_abs read ≤ 2 ^ 126

pub settled_is : (count : ℕ) (sum : ℤ) (es : List (ℕ × Open)) (held : Called) → called es count ≡ held → AreAdded count sum es → count < 2 ^ 32 → IsSettled held (kept128 sum)
settled_is count sum es held seen h few =
    let is : kept128 sum ≡ sum = kept_is sum (sum_small count sum es h few) in
    subst (λ (b : Called). IsSettled b (kept128 sum)) seen (record {
      value = is ∙ h.settled ∙ sym (total-calls_at es);
      size = omega (arith, ap unsigned_abs is, sum_size count sum es h, length-map es call_at);
      few = omega (arith, length-map es call_at, h.few);
      fits = omega (arith, ap unsigned_abs is, sum_small count sum es h few);
    })

-- ---- the calls after a change of the map, as contracts see them

pub record Changed (es : List (ℕ × Open)) (count : ℕ) (sum : ℤ) (after : Called) : Type 0 where
  pub kept : AreAdded count sum es
  pub seen : called es count ≡ after

pub appended : (old new : List (ℕ × Open)) (count : ℕ) (sum more : ℤ) (given call : Open) (before : Called)
    → called old count ≡ before → AreAdded count sum old → count < 2 ^ 32 → IsCallAmount call.amount
    → given ≡ call → more ≡ settled_of given → unsigned_abs more ≤ 10 ^ 18 → new ≡ insert_entry nat_cmp old (count + 1) given
    → Changed new (count + 1) (kept128 (kept128 sum +ℤ kept128 more)) (record { calls = before.calls ++ record { number = before.added + 1; flow = call.flow; amount = call.amount } ∷ []; added = before.added + 1 })
appended old new count sum more given call before seen h few amount same counts size put =
    let entered : new ≡ insert_entry nat_cmp old (count + 1) call = put ∙ ap (insert_entry nat_cmp old (count + 1)) same in
    let counts_call : more ≡ settled_of call = counts ∙ ap settled_of same in
    let last : new ≡ old ++ (count + 1, call) ∷ [] = entered ∙ insert_last count (count + 1) call old h.each (omega arith) in
    let none : lookup (is_at (nat_cmp (count + 1))) old ≡ None = absent count (count + 1) old h.each (omega arith) in
    record {
      kept = record {
        few = omega (arith, ap length last, length-append old ((count + 1, call) ∷ []), h.few);
        each =
            subst (AllByRecursion (IsAdded (count + 1))) (sym last)
            (each_push (IsAdded (count + 1)) old (count + 1, call) (each_weaker (IsAdded count) (IsAdded (count + 1)) (later count) old h.each) (record { first = omega arith; last = omega arith; amount = amount }));
        settled = omega (arith, ints, sum_is sum more (sum_small count sum old h few) (omega (arith, size)), counts_call, h.settled, total-inserted settled_of nat_cmp (count + 1) call old none, ap (total_of settled_of) entered);
      };
      seen =
          ap (λ es. called es (count + 1)) last
          ∙ ap (λ (cs : List Call). record { calls = cs; added = count + 1 }) (map-append call_at old ((count + 1, call) ∷ []))
          ∙ ap (λ (b : Called). record { calls = b.calls ++ record { number = b.added + 1; flow = call.flow; amount = call.amount } ∷ []; added = b.added + 1 }) seen;
    }

pub closed : (old new : List (ℕ × Open)) (count number : ℕ) (sum less : ℤ) (call : Open) (before : Called)
    → called old count ≡ before → AreAdded count sum old → count < 2 ^ 32 → IsStrictlySortedBy nat_cmp (keys_of old)
    → lookup (is_at (nat_cmp number)) old ≡ Some call → less ≡ settled_of call → unsigned_abs less ≤ 10 ^ 18 → new ≡ remove_entry (is_at (nat_cmp number)) old
    → Changed new count (kept128 (kept128 sum -ℤ kept128 less)) (record before { calls = without_call number before.calls })
closed old new count number sum less call before seen h few sorted found counts size taken = record {
  kept = record {
    few = omega (arith, ap length taken, length-removed (is_at (nat_cmp number)) old, h.few);
    each = subst (AllByRecursion (IsAdded count)) (sym taken) (each_removed (IsAdded count) (is_at (nat_cmp number)) old h.each);
    settled = omega (arith, ints, difference_is sum less (sum_small count sum old h few) (omega (arith, size)), counts, h.settled, total-removed settled_of (is_at (nat_cmp number)) call old found, ap (total_of settled_of) taken);
  };
  seen =
      ap (λ es. called es count) taken
      ∙ ap (λ (cs : List Call). record { calls = cs; added = count }) (calls_at-removed number old sorted)
      ∙ ap (λ (b : Called). record b { calls = without_call number b.calls }) seen;
}

-- ---- the calls of what a map keeps

numbers_same : eq_by_cmp nat_cmp ≡ ◌==◌
numbers_same = λ i a b. unsigned_tied a b i

numbers-calls_at : (es : List (ℕ × Open)) → keys_of es ≡ map (λ (call : Call). call.number) (calls_at es)
numbers-calls_at [] = refl
numbers-calls_at (e ∷ es) = ap (λ ns. e.0 ∷ ns) (numbers-calls_at es)

calls_each : (count : ℕ) (es : List (ℕ × Open)) → AllByRecursion (IsAdded count) es → AllByRecursion (IsCall count) (calls_at es)
calls_each count [] h = tt
calls_each count (e ∷ es) h = (h.0, calls_each count es h.1)

pub are_calls : (count : ℕ) (sum : ℤ) (es : List (ℕ × Open)) → AreAdded count sum es → IsStrictlySortedBy nat_cmp (keys_of es) → AreCalls count (calls_at es)
are_calls count sum es h sorted = record {
  few = omega (arith, length-map es call_at, h.few);
  each = calls_each count es h.each;
  different = subst (λ ns. IsDistinct ◌==◌ ns) (numbers-calls_at es) (subst (λ (eq : ℕ → ℕ → Bool). IsDistinct eq (keys_of es)) numbers_same (IsDistinct-from_sorted nat_cmp (keys_of es) sorted));
}
