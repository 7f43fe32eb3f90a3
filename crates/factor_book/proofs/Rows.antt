-- From rows to their sensitivities, and loops over rows.
use Rattle.std.proofs.Common.{◌≡◌, ℕ, zero, suc, ◌+◌, ◌^◌, ◌<◌, ◌≤◌, List, [], ◌∷◌, ◌++◌, map, length, true, sym, ap, ◌∙◌, subst, refl, ℤ, ◌+ℤ◌, unsigned_abs, arith, take, drop, get_or, append_assoc, append-nil, add-one, drop-cons}
use Rattle.std.specs.Prelude.{nat_le}
use Rattle.std.specs.List.{list_all, sum_by, AllByRecursion}
use Rattle.std.specs.List.Sorted.{IsPermutation}
use Rattle.std.proofs.lemmas.Bool.{and_parts, and_from, leb-true, le-leb}
use Rattle.std.proofs.lemmas.List.{length-append, take_more, drop_all}
use Rattle.std.proofs.lemmas.List.Concat.{flat_map-append}
use Rattle.std.proofs.lemmas.List.Sorted.{sum_by-IsPermutation}
use Rattle.std.proofs.lemmas.List.Sums.{sum_by-cons}
use Rattle.simm_rules.specs.SimmKinds.declared.key.FactorKey.{FactorKey}
use Rattle.simm_rules.specs.SimmKinds.declared.row.CrifRow.{CrifRow}
use Rattle.simm_rules.specs.SimmKinds.declared.row.CrifRow.TheVariants as row
use Rattle.simm_rules.specs.SimmKinds.Batch.{is_in_range}
use Rattle.simm_rules.specs.Sums.{total_by}
use Rattle.simm_rules.specs.Net.{Sensitivity, sensitivity, sensitivities, keys_of}
use Rattle.factor_book.specs.declared.holding.Holding.{Holding}
use Rattle.factor_book.specs.Factors.{factor_of, factors_in, factors_of, count_of, IsWithin, IsBook, HasRoom, AreHeld}
use Rattle.factor_book.specs.Filing.{AreSmall, AreNetted, HasRoomFor, Holds}
use Rattle.factor_book.proofs.Sums.{total_by-IsPermutation}
use Rattle.factor_book.proofs.Held.{of_key, size_in, come_to_alike, same_factors, sum-append, count-append, net_size, size_size, count_below}
use Rattle.factor_book.proofs.Books.{taken_before, swapped_factors, small-append, small_left, small_right, small_first}

pub sensitivities-append : (xs ys : List CrifRow) → sensitivities (xs ++ ys) ≡ sensitivities xs ++ sensitivities ys
sensitivities-append xs ys = flat_map-append sensitivity xs ys

three-append : (xs ys zs : List CrifRow) → sensitivities (xs ++ ys ++ zs) ≡ sensitivities xs ++ sensitivities ys ++ sensitivities zs
three-append xs ys zs = sensitivities-append (xs ++ ys) zs ∙ ap (λ ss. ss ++ sensitivities zs) (sensitivities-append xs ys)

-- ---- amounts

pub small_row : (r : CrifRow) → is_in_range r ≡ true → AreSmall (sensitivity r)
small_row (row.Sensitivity key amount) h = (leb-true _ _ h, tt)
small_row (row.Notional qualifier amount) h = tt
small_row (row.FixedAmount amount) h = tt
small_row (row.NotionalFactor qualifier factor) h = tt
small_row (row.Multiplier product factor) h = tt

pub small_rows : (rows : List CrifRow) → list_all is_in_range rows ≡ true → AreSmall (sensitivities rows)
small_rows [] h = tt
small_rows (r ∷ rows) h =
    let both = and_parts (is_in_range r) (list_all is_in_range rows) h in
    small-append (sensitivity r) (sensitivities rows) (small_row r both.0) (small_rows rows both.1)

-- rows of these sensitivities
rows_for : List Sensitivity → List CrifRow
rows_for [] = []
rows_for (s ∷ ss) = row.Sensitivity s.key (record { 0 = s.amount }) ∷ rows_for ss

sensitivities-rows_for : (ss : List Sensitivity) → sensitivities (rows_for ss) ≡ ss
unfolding rows_for
sensitivities-rows_for [] = refl
sensitivities-rows_for (s ∷ ss) = ap (λ rest. s ∷ rest) (sensitivities-rows_for ss)

in_range-rows_for : (ss : List Sensitivity) → AreSmall ss → list_all is_in_range (rows_for ss) ≡ true
unfolding rows_for
in_range-rows_for [] h = refl
in_range-rows_for (s ∷ ss) h = and_from (nat_le (unsigned_abs s.amount) (10 ^ 15)) (list_all is_in_range (rows_for ss)) (le-leb _ _ h.0) (in_range-rows_for ss h.1)

pub is_book : (factors : List (FactorKey × Holding)) → AreNetted factors → IsBook factors
is_book factors n = record {
  held = rows_for n.held;
  are = n.are ∙ sym (ap factors_in (sensitivities-rows_for n.held));
  amounts = in_range-rows_for n.held n.amounts;
}

-- ---- rows that are held

pub holds_rows : (factors : List (FactorKey × Holding)) (taken : List CrifRow) → AreHeld taken factors → Holds (sensitivities taken) factors
holds_rows factors taken h =
    let first : factors_of (h.before ++ taken ++ h.after) ≡ factors_in (sensitivities taken ++ (sensitivities h.before ++ sensitivities h.after)) =
    ap factors_in (three-append h.before taken h.after) ∙ taken_before (sensitivities h.before) (sensitivities taken) (sensitivities h.after) in
    record {
      others = sensitivities h.before ++ sensitivities h.after;
      are = h.are ∙ first;
      amounts = small_first (sensitivities h.before) (sensitivities taken) (sensitivities h.after)
          (subst AreSmall (three-append h.before taken h.after) (small_rows (h.before ++ taken ++ h.after) h.amounts));
    }

-- what taking them does
pub rows_taken : (old new : List (FactorKey × Holding)) (rows : List CrifRow) → ((rest : List Sensitivity) → old ≡ factors_in (sensitivities rows ++ rest) → new ≡ factors_in rest)
    → (before after : List CrifRow) → old ≡ factors_of (before ++ rows ++ after) → new ≡ factors_of (before ++ after)
rows_taken old new rows take before after e =
    take (sensitivities before ++ sensitivities after) (e ∙ ap factors_in (three-append before rows after) ∙ taken_before (sensitivities before) (sensitivities rows) (sensitivities after))
    ∙ sym (ap factors_in (sensitivities-append before after))

-- ---- rows taken one by one

-- the rows that are left begin with the row
pub next_left : (rows : List CrifRow) (i : ℕ) (r : CrifRow) → i < length rows → r ≡ get_or rows i r → sensitivities (drop i rows) ≡ sensitivity r ++ sensitivities (drop (i + 1) rows)
next_left rows i r below is =
    let next : drop i rows ≡ r ∷ drop (i + 1) rows = rw (add-one, drop-cons rows i r) (ap (λ x. x ∷ drop (suc i) rows) (sym is)) in
    ap sensitivities next

next_rest : (rows : List CrifRow) (i : ℕ) (r : CrifRow) (rest : List Sensitivity) → i < length rows → r ≡ get_or rows i r
    → sensitivities (drop i rows) ++ rest ≡ sensitivity r ++ (sensitivities (drop (i + 1) rows) ++ rest)
next_rest rows i r rest below is = ap (λ ss. ss ++ rest) (next_left rows i r below is) ∙ append_assoc (sensitivity r) (sensitivities (drop (i + 1) rows)) rest

small_drop : (rows : List CrifRow) (i : ℕ) → AreSmall (sensitivities rows) → AreSmall (sensitivities (drop i rows))
small_drop rows zero h = h
small_drop [] (suc i) h = tt
small_drop (r ∷ rows) (suc i) h = small_drop rows i (small_right (sensitivity r) (sensitivities rows) h)

-- the first of the rows that are left is held
pub left_held : (first now : List (FactorKey × Holding)) (rows : List CrifRow) (i : ℕ) (r : CrifRow) → Holds (sensitivities rows) first → i < length rows → r ≡ get_or rows i r
    → ((rest : List Sensitivity) → first ≡ factors_in (sensitivities rows ++ rest) → now ≡ factors_in (sensitivities (drop i rows) ++ rest)) → Holds (sensitivity r) now
left_held first now rows i r h below is left = record {
  others = sensitivities (drop (i + 1) rows) ++ h.others;
  are = left h.others h.are ∙ ap factors_in (next_rest rows i r h.others below is);
  amounts = subst AreSmall (next_rest rows i r h.others below is)
      (small-append (sensitivities (drop i rows)) h.others (small_drop rows i (small_left (sensitivities rows) h.others h.amounts)) (small_right (sensitivities rows) h.others h.amounts));
}

pub left_less : (first now next : List (FactorKey × Holding)) (rows : List CrifRow) (i : ℕ) (r : CrifRow) → i < length rows → r ≡ get_or rows i r
    → ((rest : List Sensitivity) → first ≡ factors_in (sensitivities rows ++ rest) → now ≡ factors_in (sensitivities (drop i rows) ++ rest))
    → ((rest : List Sensitivity) → now ≡ factors_in (sensitivity r ++ rest) → next ≡ factors_in rest)
    → (rest : List Sensitivity) → first ≡ factors_in (sensitivities rows ++ rest) → next ≡ factors_in (sensitivities (drop (i + 1) rows) ++ rest)
left_less first now next rows i r below is left less rest e =
    less (sensitivities (drop (i + 1) rows) ++ rest) (left rest e ∙ ap factors_in (next_rest rows i r rest below is))

pub all_taken : (first now : List (FactorKey × Holding)) (rows : List CrifRow) (i : ℕ) → length rows ≤ i
    → ((rest : List Sensitivity) → first ≡ factors_in (sensitivities rows ++ rest) → now ≡ factors_in (sensitivities (drop i rows) ++ rest))
    → (rest : List Sensitivity) → first ≡ factors_in (sensitivities rows ++ rest) → now ≡ factors_in rest
all_taken first now rows i end left rest e = left rest e ∙ ap (λ xs. factors_in (sensitivities xs ++ rest)) (drop_all i rows end)

-- ---- rows added one by one

-- what adding these rows does
abbrev pub Adds : List (FactorKey × Holding) → List (FactorKey × Holding) → List CrifRow → Type 0
Adds first now rows = (ss : List Sensitivity) → first ≡ factors_in ss → now ≡ factors_in (ss ++ sensitivities rows)

pub adds_none : (first : List (FactorKey × Holding)) → Adds first first []
adds_none first ss e = e ∙ sym (ap factors_in (append-nil ss))

pub adds_more : (first now next : List (FactorKey × Holding)) (rows : List CrifRow) (i : ℕ) (r : CrifRow) → i < length rows → r ≡ get_or rows i r → Adds first now (take i rows)
    → ((ss : List Sensitivity) → now ≡ factors_in ss → next ≡ factors_in (ss ++ sensitivity r)) → Adds first next (take (i + 1) rows)
adds_more first now next rows i r below is a add ss e =
    let more : sensitivities (take (i + 1) rows) ≡ sensitivities (take i rows) ++ sensitivity r =
    ap sensitivities (take_more rows i r below ∙ ap (λ x. take i rows ++ x ∷ []) (sym is)) ∙ sensitivities-append (take i rows) (r ∷ []) ∙ ap (λ xs. sensitivities (take i rows) ++ xs) (append-nil (sensitivity r)) in
    add (ss ++ sensitivities (take i rows)) (a ss e) ∙ ap factors_in (append_assoc ss (sensitivities (take i rows)) (sensitivity r) ∙ ap (λ xs. ss ++ xs) (sym more))

-- what it does to the factors of rows
pub rows_added : (first now : List (FactorKey × Holding)) (rows : List CrifRow) → Adds first now rows → (held : List CrifRow) → first ≡ factors_of held → now ≡ factors_of (held ++ rows)
rows_added first now rows a held e = a (sensitivities held) e ∙ sym (ap factors_in (sensitivities-append held rows))

pub length-sensitivities : (rows : List CrifRow) → length (sensitivities rows) ≤ length rows
length-sensitivities [] = omega arith
length-sensitivities (r ∷ rows) = omega (arith, length-append (sensitivity r) (sensitivities rows), length-sensitivities rows, at_most r)
  where
    at_most : (r : CrifRow) → length (sensitivity r) ≤ 1
    at_most (row.Sensitivity key amount) = omega arith
    at_most (row.Notional qualifier amount) = omega arith
    at_most (row.FixedAmount amount) = omega arith
    at_most (row.NotionalFactor qualifier factor) = omega arith
    at_most (row.Multiplier product factor) = omega arith

-- room for one row more
pub room_left : (first now : List (FactorKey × Holding)) (rows : List CrifRow) (i : ℕ) (r : CrifRow) → i < length rows → r ≡ get_or rows i r → HasRoom first (length rows) → Adds first now (take i rows) → HasRoomFor (sensitivity r) now
room_left first now rows i r below is room a = record {
  held = sensitivities room.held ++ sensitivities (take i rows);
  are = a (sensitivities room.held) room.are;
  few = omega (arith, length-append (sensitivities room.held) (sensitivities (take i rows)), length-sensitivities room.held, length-sensitivities (take i rows), length-take_le i rows, length-sensitivities (r ∷ []), length-append (sensitivity r) [], room.few);
}
  where
    length-take_le : (n : ℕ) (xs : List CrifRow) → length (take n xs) ≤ n
    length-take_le zero xs = omega arith
    length-take_le (suc n) [] = omega arith
    length-take_le (suc n) (x ∷ xs) = omega (arith, length-take_le n xs)

-- the rows added so far are held
pub front_held : (first now : List (FactorKey × Holding)) (rows : List CrifRow) → IsBook first → AreSmall (sensitivities rows) → Adds first now rows → Holds (sensitivities rows) now
front_held first now rows b small a = record {
  others = sensitivities b.held;
  are = a (sensitivities b.held) b.are ∙ swapped_factors (sensitivities b.held) (sensitivities rows);
  amounts = small-append (sensitivities rows) (sensitivities b.held) small (small_rows b.held b.amounts);
}

-- and taking them gives the book of before
pub front_taken : (first now last : List (FactorKey × Holding)) (rows : List CrifRow) → IsBook first → Adds first now rows
    → ((rest : List Sensitivity) → now ≡ factors_in (sensitivities rows ++ rest) → last ≡ factors_in rest) → last ≡ first
front_taken first now last rows b a back =
    back (sensitivities b.held) (a (sensitivities b.held) b.are ∙ swapped_factors (sensitivities b.held) (sensitivities rows)) ∙ sym b.are

pub small_at : (rows : List CrifRow) (i : ℕ) (d : CrifRow) → i < length rows → list_all is_in_range rows ≡ true → is_in_range (get_or rows i d) ≡ true
small_at [] i d below h = absurd (omega arith)
small_at (r ∷ rows) zero d below h = (and_parts (is_in_range r) (list_all is_in_range rows) h).0
small_at (r ∷ rows) (suc i) d below h = small_at rows i d (omega arith) (and_parts (is_in_range r) (list_all is_in_range rows) h).1

-- the next row's amount is one that a batch can have, and so are those of the rows before
pub next_small : (rows : List CrifRow) (i : ℕ) (r : CrifRow) → i < length rows → r ≡ get_or rows i r → list_all is_in_range rows ≡ true → AreSmall (sensitivity r)
next_small rows i r below is h = small_row r (ap is_in_range is ∙ small_at rows i r below h)

pub front_small : (rows : List CrifRow) (i : ℕ) → list_all is_in_range rows ≡ true → AreSmall (sensitivities (take i rows))
front_small rows i h = small_take rows i (small_rows rows h)
  where
    small_take : (rows : List CrifRow) (i : ℕ) → AreSmall (sensitivities rows) → AreSmall (sensitivities (take i rows))
    small_take rows zero h = tt
    small_take [] (suc i) h = tt
    small_take (r ∷ rows) (suc i) h = small-append (sensitivity r) (sensitivities (take i rows)) (small_left (sensitivity r) (sensitivities rows) h) (small_take rows i (small_right (sensitivity r) (sensitivities rows) h))

pub unmoved : (before part after : List CrifRow) → factors_of (before ++ part ++ after) ≡ factors_of (before ++ after ++ part)
unmoved before part after =
    ap factors_in (three-append before part after)
    ∙ taken_before (sensitivities before) (sensitivities part) (sensitivities after)
    ∙ swapped_factors (sensitivities part) (sensitivities before ++ sensitivities after)
    ∙ sym (ap factors_in (three-append before after part))

-- ---- rows in another order

module _ (xs ys : List CrifRow) (h : IsPermutation xs ys) where
  summed_rows : (f : Sensitivity → ℤ) (k : FactorKey) (rows : List CrifRow) → total_by f (of_key k (sensitivities rows)) ≡ total_by (λ r. total_by f (of_key k (sensitivity r))) rows
  summed_rows f k [] = refl
  summed_rows f k (r ∷ rows) = sum-append f (sensitivity r) (sensitivities rows) k ∙ ap (λ z. total_by f (of_key k (sensitivity r)) +ℤ z) (summed_rows f k rows)

  counted_rows : (k : FactorKey) (rows : List CrifRow) → count_of (sensitivities rows) k ≡ sum_by (λ r. count_of (sensitivity r) k) rows
  counted_rows k [] = refl
  counted_rows k (r ∷ rows) = omega (arith, count-append (sensitivity r) (sensitivities rows) k, counted_rows k rows, sum_by-cons (λ x. count_of (sensitivity x) k) r rows)

  same_sums : (f : Sensitivity → ℤ) (k : FactorKey) → total_by f (of_key k (sensitivities xs)) ≡ total_by f (of_key k (sensitivities ys))
  same_sums f k = summed_rows f k xs ∙ total_by-IsPermutation (λ r. total_by f (of_key k (sensitivity r))) xs ys h ∙ sym (summed_rows f k ys)

  same_counts : (k : FactorKey) → count_of (sensitivities xs) k ≡ count_of (sensitivities ys) k
  same_counts k = counted_rows k xs ∙ sym (sum_by-IsPermutation (λ r. count_of (sensitivity r) k) xs ys h) ∙ sym (counted_rows k ys)

  pub permuted : factors_of xs ≡ factors_of ys
  permuted =
      same_factors (sensitivities xs) (sensitivities ys)
      (λ k. come_to_alike (sensitivities xs) (sensitivities ys) k (same_sums (λ s. s.amount) k) (same_sums size_in k) (same_counts k))

-- what rows come to at a key, which need not be theirs
within : (rows : List CrifRow) (k : FactorKey) → AreSmall (sensitivities rows) → IsWithin (length rows) (factor_of (sensitivities rows) k).1
within rows k small = record {
  net = omega (arith, net_size (sensitivities rows) k small, count_below (sensitivities rows) k, length-sensitivities rows);
  size = omega (arith, size_size (sensitivities rows) k small, count_below (sensitivities rows) k, length-sensitivities rows);
  rows = omega (arith, count_below (sensitivities rows) k, length-sensitivities rows);
}

pub all_within : (rows : List CrifRow) → list_all is_in_range rows ≡ true → AllByRecursion (λ f. IsWithin (length rows) f.1) (factors_of rows)
all_within rows h = each (keys_of (sensitivities rows))
  where
    each : (ks : List FactorKey) → AllByRecursion (λ f. IsWithin (length rows) f.1) (map (factor_of (sensitivities rows)) ks)
    each [] = tt
    each (k ∷ ks) = (within rows k (small_rows rows h), each ks)
