-- The lots of a map's entries: a look-up by the name, an entry more or less, and a value changed.
use Rattle.std.proofs.Common.{◌≡◌, ℕ, ◌+◌, ◌*◌, ◌^◌, ◌≤◌, ◌+ℤ◌, ◌-ℤ◌, List, [], ◌∷◌, ◌++◌, map, length, Bool, true, false, cond, not, None, Some, is_some, if◌then◌else◌, ℤ, ◌<◌, unsigned_abs, refl, sym, ap, ◌∙◌, subst, arith}
use Rattle.std.specs.List.{AllByRecursion, IsDistinct}
use Rattle.std.specs.List.Sorted.{IsPermutation, IsStrictlySortedBy}
use Rattle.std.specs.Map.{keys_of, lookup, remove_entry, set_value}
use Rattle.std.specs.BTreeMap.{insert_entry}
use Rattle.std.specs.Cmp.{IsEquivalence, eq_by_cmp_equiv}
use Rattle.std.specs.Cmp.Lexicographic.{nat_list_cmp_total}
use Rattle.std.proofs.lemmas.Int.{ints}
use Rattle.std.proofs.lemmas.List.{length-map, map-append}
use Rattle.std.proofs.lemmas.List.Sorted.{IsPermutation-map, length_permutation, list_any-IsPermutation}
use Rattle.std.proofs.lemmas.Map.{NonePasses, length-set_value}
use Rattle.std.proofs.lemmas.Map.Keys.{IsDistinct-tail, IsDistinct-from_sorted, IsDistinct-IsPermutation}
use Rattle.std.proofs.lemmas.Map.Entries.{none_past_head}
use Rattle.csa_terms.specs.SimmKinds.Order.{name_cmp, same_name}
use Rattle.collateral_ledger.specs.Holdings.{Lot, IsLot, IsLotValue, AreLots}
use Rattle.collateral_ledger.specs.Booked.{total, counted}
use Rattle.collateral_ledger.specs.Changes.{has_lot, with_value, without_lot}
use Rattle.collateral_ledger.specs.Sorting.{sorted_by}
use Rattle.collateral_ledger.specs.Kept.{Rated, IsRated, IsPlaced, AreRated, counted_of, lot_at, lots_at, place_at}
use Rattle.collateral_ledger.proofs.Viewed.{each_inserted, each_removed, each_weaker, length-inserted, length-removed, list_any-view, map-filter, none_found, removed-filter}
use Rattle.collateral_ledger.proofs.Sorted.{each_sorted, sorted-filter, sorted-insert_entry, sorted-map, sorted_moves}
use Rattle.collateral_ledger.proofs.Sums.{IsSmall, kept128, kept_is, sum_is, difference_is}
use Rattle.collateral_ledger.proofs.Totals.{total_of, total-inserted, total-removed, total-set_value, total_size, total-sorted, total-viewed}

abbrev pub Entry : Type 0
Entry = List ℕ × Rated

same_name_laws : IsEquivalence same_name
same_name_laws = eq_by_cmp_equiv nat_list_cmp_total

distinct : (es : List Entry) → IsStrictlySortedBy name_cmp (keys_of es) → IsDistinct same_name (keys_of es)
distinct es = IsDistinct-from_sorted name_cmp (keys_of es)

-- the lots in the order of putting are those of the entries
lots_move : (es : List Entry) → IsPermutation (map lot_at es) (lots_at es)
lots_move es = IsPermutation-map lot_at es (sorted_by place_at es) (sorted_moves place_at es)

pub length-lots_at : (es : List Entry) → length (lots_at es) ≡ length es
length-lots_at es = length_permutation (map lot_at es) (lots_at es) (lots_move es) ∙ length-map es lot_at

pub total-lots_at : (es : List Entry) → total (map counted (lots_at es)) ≡ total_of counted_of es
total-lots_at es = total-sorted place_at lot_at counted es ∙ total-viewed lot_at counted counted_of (λ e. refl) es

-- ---- a look-up

pub has_lot-lots_at : (name : List ℕ) (es : List Entry) → is_some (lookup (same_name name) es) ≡ has_lot name (lots_at es)
has_lot-lots_at name es =
    list_any-view (same_name name) lot_at (λ (lot : Lot). same_name name lot.name) (λ e. refl) es
    ∙ list_any-IsPermutation (λ (lot : Lot). same_name name lot.name) (map lot_at es) (lots_at es) (lots_move es)

absent : (name : List ℕ) (es : List Entry) → has_lot name (lots_at es) ≡ false → lookup (same_name name) es ≡ None
absent name es h = none_found (lookup (same_name name) es) (has_lot-lots_at name es ∙ h)

-- ---- an entry less

pub lots_at-removed : (name : List ℕ) (es : List Entry) → IsStrictlySortedBy name_cmp (keys_of es) → lots_at (remove_entry (same_name name) es) ≡ without_lot name (lots_at es)
lots_at-removed name es sorted =
    ap lots_at (removed-filter same_name_laws name es (distinct es sorted))
    ∙ ap (map lot_at) (sorted-filter place_at (λ (e : Entry). not (same_name name e.0)) es)
    ∙ map-filter lot_at (λ (lot : Lot). not (same_name name lot.name)) (sorted_by place_at es)

-- ---- a value changed

abbrev with_value_at : List ℕ → ℤ → Entry → Entry
with_value_at name value e = if same_name name e.0 then (e.0, record e.1 { value = value }) else e

keeps_place : (name : List ℕ) (value : ℤ) (e : Entry) → place_at (with_value_at name value e) ≡ place_at e
keeps_place name value e = by (same_name name e.0)
  where
    by : (b : Bool) → place_at (if b then (e.0, record e.1 { value = value }) else e) ≡ place_at e
    by true = refl
    by false = refl

map-with_value : (name : List ℕ) (value : ℤ) (es : List Entry) → map lot_at (map (with_value_at name value) es) ≡ with_value name value (map lot_at es)
map-with_value name value [] = refl
map-with_value name value (e ∷ es) = by (same_name name e.0) (map-with_value name value es)
  where
    by : (b : Bool) → map lot_at (map (with_value_at name value) es) ≡ with_value name value (map lot_at es)
        → lot_at (if b then (e.0, record e.1 { value = value }) else e) ∷ map lot_at (map (with_value_at name value) es) ≡ (if b then record (lot_at e) { value = value } else lot_at e) ∷ with_value name value (map lot_at es)
    by true rest = ap (λ ls. record (lot_at e) { value = value } ∷ ls) rest
    by false rest = ap (λ ls. lot_at e ∷ ls) rest

none_with_value : (name : List ℕ) (value : ℤ) (es : List Entry) → NonePasses (same_name name) es → map (with_value_at name value) es ≡ es
none_with_value name value [] h = refl
none_with_value name value (e ∷ es) h =
    ap (λ b. (if b then (e.0, record e.1 { value = value }) else e) ∷ map (with_value_at name value) es) h.0
    ∙ ap (λ fs. e ∷ fs) (none_with_value name value es h.1)

set_value-map : (name : List ℕ) (value : ℤ) (old new : Rated) (es : List Entry) → IsDistinct same_name (keys_of es) → lookup (same_name name) es ≡ Some old → new ≡ record old { value = value } → set_value (same_name name) es new ≡ map (with_value_at name value) es
set_value-map name value old new [] h found is = refl
set_value-map name value old new (e ∷ es) h found is = by (same_name name e.0) refl found (λ later. set_value-map name value old new es (IsDistinct-tail same_name e.0 (keys_of es) h) later is)
  where
    by : (b : Bool) → same_name name e.0 ≡ b → cond b (Some e.1) (lookup (same_name name) es) ≡ Some old
        → (lookup (same_name name) es ≡ Some old → set_value (same_name name) es new ≡ map (with_value_at name value) es)
        → cond b ((e.0, new) ∷ es) (e ∷ set_value (same_name name) es new) ≡ (if b then (e.0, record e.1 { value = value }) else e) ∷ map (with_value_at name value) es
    by true b-is found rest =
        let one : e.1 ≡ old = cc in
        ap (λ (l : Rated). (e.0, l) ∷ es) (is ∙ ap (λ (l : Rated). record l { value = value }) (sym one))
        ∙ ap (λ fs. (e.0, record e.1 { value = value }) ∷ fs) (sym (none_with_value name value es (none_past_head same_name_laws name e es h b-is)))
    by false b-is found rest = ap (λ fs. e ∷ fs) (rest found)

lots_at-set_value : (name : List ℕ) (value : ℤ) (old new : Rated) (es : List Entry) → IsStrictlySortedBy name_cmp (keys_of es) → lookup (same_name name) es ≡ Some old → new ≡ record old { value = value } → lots_at (set_value (same_name name) es new) ≡ with_value name value (lots_at es)
lots_at-set_value name value old new es sorted found is =
    ap lots_at (set_value-map name value old new es (distinct es sorted) found is)
    ∙ ap (map lot_at) (sorted-map place_at (with_value_at name value) (keeps_place name value) es)
    ∙ map-with_value name value (sorted_by place_at es)

-- ---- what each entry keeps

later : (next after : ℕ) → next ≤ after → (e : Entry) → IsPlaced next e → IsPlaced after e
later next after le e h = record { rated = h.rated; small = h.small; earlier = omega (arith, le, h.earlier) }

each_with_value : (test : List ℕ → Bool) (next : ℕ) (value : ℤ) (old new : Rated) (es : List Entry) → IsLotValue value → unsigned_abs (counted_of new) ≤ 10 ^ 15 → lookup test es ≡ Some old → new ≡ record old { value = value } → AllByRecursion (IsPlaced next) es → AllByRecursion (IsPlaced next) (set_value test es new)
each_with_value test next value old new [] v size found is h = tt
each_with_value test next value old new (e ∷ es) v size found is h = by (test e.0) found (λ more. each_with_value test next value old new es v size more is h.1)
  where
    by : (b : Bool) → cond b (Some e.1) (lookup test es) ≡ Some old → (lookup test es ≡ Some old → AllByRecursion (IsPlaced next) (set_value test es new)) → AllByRecursion (IsPlaced next) (cond b ((e.0, new) ∷ es) (e ∷ set_value test es new))
    by true found rest =
        let one : e.1 ≡ old = cc in
        let same : new ≡ record e.1 { value = value } = is ∙ ap (λ (l : Rated). record l { value = value }) (sym one) in
        let rated : IsRated new = subst IsRated (sym same) (record { in_range = v; small = h.0.rated.small }) in
        (record { rated = rated; small = size; earlier = subst (λ (l : Rated). l.place < next) (sym same) h.0.earlier }, h.1)
    by false found rest = (h.0, rest found)

-- ---- the lots of what a map keeps

names-lots_at : (es : List Entry) → keys_of es ≡ map (λ (lot : Lot). lot.name) (map lot_at es)
names-lots_at [] = refl
names-lots_at (e ∷ es) = ap (λ ns. e.0 ∷ ns) (names-lots_at es)

lots_each : (next : ℕ) (es : List Entry) → AllByRecursion (IsPlaced next) es → AllByRecursion IsLot (map lot_at es)
lots_each next [] h = tt
lots_each next (e ∷ es) h = (record { in_range = h.0.rated.in_range; small = h.0.rated.small }, lots_each next es h.1)

pub are_lots : (next : ℕ) (sum : ℤ) (es : List Entry) → AreRated next sum es → IsStrictlySortedBy name_cmp (keys_of es) → AreLots (lots_at es)
are_lots next sum es h sorted = record {
  few = omega (arith, length-lots_at es, h.few);
  each = lots_each next (sorted_by place_at es) (each_sorted place_at (IsPlaced next) es h.each);
  different =
      IsDistinct-IsPermutation same_name same_name_laws.symm
      (map (λ (lot : Lot). lot.name) (map lot_at es)) (map (λ (lot : Lot). lot.name) (lots_at es)) (IsPermutation-map (λ (lot : Lot). lot.name) (map lot_at es) (lots_at es) (lots_move es))
      (subst (λ ns. IsDistinct same_name ns) (names-lots_at es) (distinct es sorted));
}

-- ---- what the lots count for together

sum_size : (next : ℕ) (sum : ℤ) (es : List Entry) → AreRated next sum es → unsigned_abs sum ≤ 4096 * 10 ^ 15
sum_size next sum es h =
    omega (arith, ap unsigned_abs h.counted, total_size counted_of (10 ^ 15) es (each_weaker (IsPlaced next) (λ e. unsigned_abs (counted_of e.1) ≤ 10 ^ 15) (λ e is. is.small) es h.each), h.few)

pub sum_small : (next : ℕ) (sum : ℤ) (es : List Entry) → AreRated next sum es → IsSmall sum
sum_small next sum es h = omega (arith, sum_size next sum es h)

pub counted_is : (next : ℕ) (sum : ℤ) (es : List Entry) (held : List Lot) → lots_at es ≡ held → AreRated next sum es → kept128 sum ≡ total (map counted held)
counted_is next sum es held seen h = kept_is sum (sum_small next sum es h) ∙ h.counted ∙ sym (total-lots_at es) ∙ ap (λ ls. total (map counted ls)) seen

pub counted_size : (next : ℕ) (sum : ℤ) (es : List Entry) → AreRated next sum es → unsigned_abs (kept128 sum) ≤ 4096 * 10 ^ 15
counted_size next sum es h = subst (λ z. unsigned_abs z ≤ 4096 * 10 ^ 15) (sym (kept_is sum (sum_small next sum es h))) (sum_size next sum es h)

-- ---- the lots after a change of the map, as contracts see them

pub record Changed (next : ℕ) (sum : ℤ) (es : List Entry) (after : List Lot) : Type 0 where
  pub kept : AreRated next sum es
  pub seen : lots_at es ≡ after

-- a lot goes in at the next place
pub pushed : (old new : List Entry) (next after : ℕ) (sum more : ℤ) (name : List ℕ) (given lot : Rated) (before : List Lot)
    → lots_at old ≡ before → AreRated next sum old → has_lot name before ≡ false → length before < 4096
    → IsRated lot → lot.place ≡ next → after ≡ next + 1
    → given ≡ lot → more ≡ counted_of given → unsigned_abs more ≤ 10 ^ 15 → new ≡ insert_entry name_cmp old name given
    → Changed after (kept128 (kept128 sum +ℤ kept128 more)) new (before ++ lot_at (name, lot) ∷ [])
pushed old new next after sum more name given lot before seen h fresh room is place later_place same counts size put =
    let entered : new ≡ insert_entry name_cmp old name lot = put ∙ ap (insert_entry name_cmp old name) same in
    let counts_lot : more ≡ counted_of lot = counts ∙ ap counted_of same in
    let none : lookup (same_name name) old ≡ None = absent name old (ap (has_lot name) seen ∙ fresh) in
    let placed : IsPlaced after (name, lot) = record { rated = is; small = omega (arith, size, ap unsigned_abs counts_lot); earlier = omega (arith, place, later_place) } in
    let each : AllByRecursion (IsPlaced after) old = each_weaker (IsPlaced next) (IsPlaced after) (later next after (omega (arith, later_place))) old h.each in
    let below : AllByRecursion (λ (e : Entry). place_at e < place_at (name, lot)) old = each_weaker (IsPlaced next) (λ e. place_at e < lot.place) (λ e p. omega (arith, p.earlier, place)) old h.each in
    record {
      kept = record {
        few = omega (arith, ap length entered, length-inserted name_cmp name lot old, ap length seen, length-lots_at old);
        each = subst (AllByRecursion (IsPlaced after)) (sym entered) (each_inserted name_cmp name lot (IsPlaced after) old none placed each);
        counted = omega (arith, ints, sum_is sum more (sum_small next sum old h) (omega (arith, size)), counts_lot, h.counted, total-inserted counted_of name_cmp name lot old none, ap (total_of counted_of) entered);
      };
      seen =
          ap lots_at entered
          ∙ ap (map lot_at) (sorted-insert_entry place_at name_cmp name lot old none below)
          ∙ map-append lot_at (sorted_by place_at old) ((name, lot) ∷ [])
          ∙ ap (λ ls. ls ++ lot_at (name, lot) ∷ []) seen;
    }

-- a lot goes out
pub removed : (old new : List Entry) (next : ℕ) (sum less : ℤ) (name : List ℕ) (lot : Rated) (before : List Lot)
    → lots_at old ≡ before → AreRated next sum old → IsStrictlySortedBy name_cmp (keys_of old)
    → lookup (same_name name) old ≡ Some lot → less ≡ counted_of lot → unsigned_abs less ≤ 10 ^ 15 → new ≡ remove_entry (same_name name) old
    → Changed next (kept128 (kept128 sum -ℤ kept128 less)) new (without_lot name before)
removed old new next sum less name lot before seen h sorted found counts size taken = record {
  kept = record {
    few = omega (arith, ap length taken, length-removed (same_name name) old, h.few);
    each = subst (AllByRecursion (IsPlaced next)) (sym taken) (each_removed (IsPlaced next) (same_name name) old h.each);
    counted = omega (arith, ints, difference_is sum less (sum_small next sum old h) (omega (arith, size)), counts, h.counted, total-removed counted_of (same_name name) lot old found, ap (total_of counted_of) taken);
  };
  seen = ap lots_at taken ∙ lots_at-removed name old sorted ∙ ap (without_lot name) seen;
}

-- a lot takes another value
pub revalued : (old new : List Entry) (next : ℕ) (sum more : ℤ) (name : List ℕ) (value : ℤ) (was is : Rated) (before : List Lot)
    → lots_at old ≡ before → AreRated next sum old → IsStrictlySortedBy name_cmp (keys_of old)
    → IsLotValue value → lookup (same_name name) old ≡ Some was → is ≡ record was { value = value } → unsigned_abs (counted_of is) ≤ 10 ^ 15
    → more ≡ counted_of is -ℤ counted_of was → unsigned_abs more ≤ 2 * 10 ^ 15 → new ≡ set_value (same_name name) old is
    → Changed next (kept128 (kept128 sum +ℤ kept128 more)) new (with_value name value before)
revalued old new next sum more name value was is before seen h sorted v found changed small counts size set = record {
  kept = record {
    few = omega (arith, ap length set, length-set_value (same_name name) old is, h.few);
    each = subst (AllByRecursion (IsPlaced next)) (sym set) (each_with_value (same_name name) next value was is old v small found changed h.each);
    counted = omega (arith, ints, sum_is sum more (sum_small next sum old h) (omega (arith, size)), counts, h.counted, total-set_value counted_of (same_name name) was is old found, ap (total_of counted_of) set);
  };
  seen = ap lots_at set ∙ lots_at-set_value name value was is old sorted found changed ∙ ap (with_value name value) seen;
}
