-- The entries of a table, read one after another, and the names of the sets.
use Rattle.std.proofs.Common.{◌≡◌, ℕ, suc, ◌-◌, None, Bool, true, false, cond, ◌||◌, is_some, take, Less, subst, length-append, slice_range, ◌+◌, ◌<◌, ◌≤◌, List, [], ◌∷◌, ◌++◌, length, map, get_or, drop, Result, Ok, Err, Some, String, string_bytes, Global, refl, sym, ap, ◌∙◌, arith, append_assoc}
use Rattle.std.specs.List.{AllByRecursion, IsDistinct, list_any}
use Rattle.std.specs.List.Sorted.{IsStrictlySortedBy}
use Rattle.std.specs.Map.{keys_of}
use Rattle.std.specs.String.{string_cmp}
use Rattle.std.specs.Cmp.{IsEquivalence}
use Rattle.std.proofs.lemmas.Cmp.{eq_by_cmp_equiv, nat_list_cmp_total}
use Rattle.std.proofs.lemmas.Map.Keys.{IsDistinct-push}
use Rattle.std.proofs.Math.Seq.{drop-cons}
use Rattle.std.proofs.lemmas.List.{append-nil, drop_all, take_more}
use Rattle.toml.specs.Data.{as_table}
use Rattle.toml.specs.View.{view, items_view, members_view}
use Rattle.toml.specs.declared.value.Value.{Value}
use Rattle.toml.proofs.Views.{Entry}
use Rattle.toml_values.specs.SimmKinds.Order.{name_cmp, same_name}
use Rattle.csa_terms.specs.declared.fault.TermsFault.{TermsFault}
use Rattle.csa_terms.specs.declared.terms_path.TermsTable.{TermsTable}
use Rattle.csa_terms.specs.Terms.{Haircut, Agreements}
use Rattle.csa_terms.specs.Held.{classes, with_haircut}
use Rattle.toml_values.specs.Answers.{◌>>=◌, Unless}
use Rattle.toml_values.specs.Values.{items_count}
use Rattle.toml_values.proofs.Places.{with_front, with_none, regroup, Unless-from, fails_first}
use Rattle.csa_terms.specs.Grammar.{haircut_of_entry, haircuts_of, has_table, repeated}
use Rattle.csa_terms.proofs.Tables.{with-last}

pub has_table-view : (vs : List Value) → list_any (λ v. is_some (as_table (view v))) vs ≡ has_table (items_view vs)
has_table-view [] = refl
has_table-view (v ∷ vs) = ap (λ b. is_some (as_table (view v)) || b) (has_table-view vs)

pub has_table-some : (vs : List Value) → has_table (items_view vs) ≡ true → 0 < items_count (items_view vs)
has_table-some [] h = absurd cc
has_table-some (v ∷ vs) h = omega arith

-- ---- the entries of a set's haircuts

abbrev pub keys_in : List Entry → List (List ℕ)
keys_in es = map (λ (e : Entry). string_bytes e.0) es

pub record EntriesSoFar (at : TermsTable) (table : List Haircut) (left : List Entry) (total : Result (List Haircut) TermsFault) : Type 0 where
  pub value : with_front table (haircuts_of at (members_view left)) ≡ total
  pub room : length table + length left ≤ 256
  pub ascending : IsStrictlySortedBy name_cmp (classes table ++ keys_in left)

all_keys : (k : String Global) (es : List Entry) → AllByRecursion (λ y. string_cmp k y ≡ Less) (keys_of es) → AllByRecursion (λ b. name_cmp (string_bytes k) b ≡ Less) (keys_in es)
all_keys k [] all = tt
all_keys k (e ∷ es) all = (all.0, all_keys k es all.1)

pub keys_ascend : (es : List Entry) → IsStrictlySortedBy string_cmp (keys_of es) → IsStrictlySortedBy name_cmp (keys_in es)
unfolding IsStrictlySortedBy
keys_ascend [] sorted = tt
keys_ascend (e ∷ es) sorted = (all_keys e.0 es sorted.0, keys_ascend es sorted.1)

pub entries_begin : (at : TermsTable) (es : List Entry) → length es ≤ 256 → IsStrictlySortedBy string_cmp (keys_of es) → EntriesSoFar at [] es (haircuts_of at (members_view es))
entries_begin at es few sorted = record {
  value = with_none (haircuts_of at (members_view es));
  room = omega arith;
  ascending = keys_ascend es sorted;
}

classes-append : (hs : List Haircut) (h : Haircut) → classes (hs ++ h ∷ []) ≡ classes hs ++ h.class ∷ []
classes-append [] h = refl
classes-append (x ∷ xs) h = ap (λ l. x.class ∷ l) (classes-append xs h)

module _ (at : TermsTable) (table : List Haircut) (class : String Global) (value : Value) (left : List Entry) (total : Result (List Haircut) TermsFault)
    (so_far : EntriesSoFar at table ((class, value) ∷ left) total) where
  pub has_room : length table < 256
  has_room = let room = so_far.room in omega arith

  pub entry_ends : (b : Bool) (e : TermsFault) → Unless b (haircut_of_entry at (string_bytes class) (view value) ≡ Err e) → Unless b (total ≡ Err e)
  unfolding haircuts_of
  entry_ends b e h =
      Unless-from b (λ is. sym so_far.value ∙ is)
      (fails_first b e table (haircut_of_entry at (string_bytes class) (view value)) (λ x. haircuts_of at (members_view left) >>= (λ xs. Ok (x ∷ xs))) h)

  pub entry_goes_on : (h : Haircut) (new : List Haircut) → haircut_of_entry at (string_bytes class) (view value) ≡ Ok h → h.class ≡ string_bytes class
      → new ≡ with_haircut table h.class h.rate → EntriesSoFar at new left total
  unfolding haircuts_of
  entry_goes_on h new read same put =
      let keys : List (List ℕ) = keys_in left in
      let sorted : IsStrictlySortedBy name_cmp (classes table ++ h.class ∷ keys) = subst (λ (c : List ℕ). IsStrictlySortedBy name_cmp (classes table ++ c ∷ keys)) (sym same) so_far.ascending in
      let is : new ≡ table ++ h ∷ [] = put ∙ with-last table h keys sorted in
      let one : haircuts_of at (members_view ((class, value) ∷ left)) ≡ (haircuts_of at (members_view left) >>= (λ xs. Ok (h ∷ xs)))
      = ap (λ (r : Result Haircut TermsFault). r >>= (λ x. haircuts_of at (members_view left) >>= (λ xs. Ok (x ∷ xs)))) read in
      let room = so_far.room in
      let grown : classes (table ++ h ∷ []) ++ keys ≡ classes table ++ h.class ∷ keys = ap (λ l. l ++ keys) (classes-append table h) ∙ append_assoc (classes table) (h.class ∷ []) keys in
      rw is (record {
        value = sym (regroup table h (haircuts_of at (members_view left))) ∙ ap (with_front table) (sym one) ∙ so_far.value;
        room = simp length-append (omega arith);
        ascending = rw grown sorted;
      })

pub entries_done : (at : TermsTable) (table : List Haircut) (left : List Entry) (total : Result (List Haircut) TermsFault) → left ≡ [] → EntriesSoFar at table left total → total ≡ Ok table
unfolding haircuts_of
entries_done at table left total none so_far =
    sym so_far.value ∙ ap (λ (l : List Entry). with_front table (haircuts_of at (members_view l))) none ∙ ap Ok (append-nil table)

-- ---- names that stand once

abbrev pub names : List Agreements → List (List ℕ)
names sets = map (λ s. s.collect.name) sets

any-names : (name : List ℕ) (sets : List Agreements) → list_any (λ (s : Agreements). same_name name s.collect.name) sets ≡ list_any (same_name name) (names sets)
any-names name [] = refl
any-names name (s ∷ sets) = ap (λ b. same_name name s.collect.name || b) (any-names name sets)

pub record NoneSoFar (sets : List Agreements) (i : ℕ) : Type 0 where
  pub value : repeated (names (take i sets)) (drop i sets) ≡ repeated [] sets

names-push : (sets : List Agreements) (s : Agreements) → names (sets ++ s ∷ []) ≡ names sets ++ s.collect.name ∷ []
names-push [] s = refl
names-push (x ∷ xs) s = ap (λ l. x.collect.name ∷ l) (names-push xs s)

module _ (sets : List Agreements) (i : ℕ) (s : Agreements) (within : i < length sets) (is : s ≡ get_or sets i s) (so_far : NoneSoFar sets i) where
  next_name : repeated (names (take i sets)) (drop i sets) ≡ cond (list_any (same_name s.collect.name) (names (take i sets))) (Some s.collect.name) (repeated (names (take i sets) ++ s.collect.name ∷ []) (drop (i + 1) sets))
  next_name =
      let one : i + 1 ≡ suc i = omega arith in
      rw one (ap (repeated (names (take i sets))) (drop-cons sets i s within ∙ ap (λ x. x ∷ drop (suc i) sets) (sym is)))

  front_any : list_any (λ (x : Agreements). same_name s.collect.name x.collect.name) (slice_range sets 0 i) ≡ list_any (same_name s.collect.name) (names (take i sets))
  front_any = let e : i - 0 ≡ i = omega arith in ap (λ n. list_any (λ (x : Agreements). same_name s.collect.name x.collect.name) (take n sets)) e ∙ any-names s.collect.name (take i sets)

  pub is_repeated : true ≡ list_any (λ (x : Agreements). same_name s.collect.name x.collect.name) (slice_range sets 0 i) → Some s.collect.name ≡ repeated [] sets
  is_repeated there = sym (rw (sym (there ∙ front_any)) at next_name) ∙ so_far.value

  pub is_new : false ≡ list_any (λ (x : Agreements). same_name s.collect.name x.collect.name) (slice_range sets 0 i) → NoneSoFar sets (i + 1)
  is_new there =
      let next : take (i + 1) sets ≡ take i sets ++ s ∷ [] = take_more sets i s within ∙ ap (λ x. take i sets ++ x ∷ []) (sym is) in
      let grown : names (take (i + 1) sets) ≡ names (take i sets) ++ s.collect.name ∷ [] = ap names next ∙ names-push (take i sets) s in
      record { value = rw grown (sym (rw (sym (there ∙ front_any)) at next_name) ∙ so_far.value) }

pub none_repeated : (sets : List Agreements) (i : ℕ) → length sets ≤ i → NoneSoFar sets i → None ≡ repeated [] sets
none_repeated sets i past so_far = sym (ap (repeated (names (take i sets))) (drop_all i sets past)) ∙ so_far.value

name_laws : IsEquivalence same_name
name_laws = eq_by_cmp_equiv nat_list_cmp_total

distinct-next : (b : Bool) (before : List (List ℕ)) (s : Agreements) (sets : List Agreements) → list_any (same_name s.collect.name) before ≡ b
    → (IsDistinct same_name (before ++ s.collect.name ∷ []) → None ≡ repeated (before ++ s.collect.name ∷ []) sets → IsDistinct same_name ((before ++ s.collect.name ∷ []) ++ names sets))
    → IsDistinct same_name before → None ≡ cond b (Some s.collect.name) (repeated (before ++ s.collect.name ∷ []) sets) → IsDistinct same_name (before ++ s.collect.name ∷ names sets)
distinct-next true before s sets e later distinct none = absurd cc
distinct-next false before s sets e later distinct none =
    subst (IsDistinct same_name) (append_assoc before (s.collect.name ∷ []) (names sets)) (later (IsDistinct-push name_laws before s.collect.name distinct e) none)

distinct-behind : (before : List (List ℕ)) (sets : List Agreements) → IsDistinct same_name before → None ≡ repeated before sets → IsDistinct same_name (before ++ names sets)
distinct-behind before [] distinct none = subst (IsDistinct same_name) (sym (append-nil before)) distinct
distinct-behind before (s ∷ sets) distinct none =
    distinct-next (list_any (same_name s.collect.name) before) before s sets refl (distinct-behind (before ++ s.collect.name ∷ []) sets) distinct none

pub names_differ : (sets : List Agreements) → None ≡ repeated [] sets → IsDistinct same_name (names sets)
unfolding IsDistinct
names_differ sets none = distinct-behind [] sets tt none
