-- What the sums of rows are, as rows come and go.
use Rattle.std.proofs.Common.{◌≡◌, ℕ, zero, suc, ◌+◌, ◌-◌, List, [], ◌∷◌, ◌++◌, map, length, filter, Bool, true, false, cond, Option, Some, None, refl, sym, ap, ◌∙◌, ℤ, pos, ◌+ℤ◌, ◌-ℤ◌, unsigned_abs, arith, length-append}
use Rattle.std.specs.Prelude.{◌==◌}
use Rattle.std.specs.List.{flat_map}
use Rattle.std.specs.FinMap.{get, find, get-from_entries}
use Rattle.std.proofs.lemmas.Bool.Decides.{nat_tests}
use Rattle.std.proofs.lemmas.Cmp.{nat_list_cmp_total}
use Rattle.std.proofs.lemmas.Grind.{flat_map-append}
use Rattle.std.proofs.lemmas.Int.{ints}
use Rattle.std.proofs.lemmas.List.Elements.{filter-append}
use Rattle.simm_params.specs.SimmKinds.declared.row.CrifRow.{CrifRow}
use Rattle.simm_params.specs.SimmKinds.declared.row.CrifRow.TheVariants as row
use Rattle.simm_params.specs.SimmKinds.Order.{name_cmp, same_name}
use Rattle.simm_params.specs.MhUnits.declared.quantities.Cents.{Cents}
use Rattle.simm_params.specs.SimmRules.Parts.{cents}
use Rattle.simm_params.specs.SimmRules.Risks.{Amount}
use Rattle.simm_params.specs.SimmRules.Sums.{total_by}
use Rattle.simm_params.specs.SimmRules.AddOns.{fixed_amount, fixed_amounts, notional, notional_of}
use Rattle.class_combine.specs.declared.notional_sum.NotionalSum.{NotionalSum}
use Rattle.class_combine.specs.Summed.{grown, shrunk, size_in, with_left}
use Rattle.class_combine.specs.Sums.{count_of, sum_of, notionals_of, sums_of}
use Rattle.class_combine.proofs.Adding.{total-append}
use Rattle.class_combine.proofs.InRange.{size_of, notional_in, by_row}
use Rattle.class_combine.proofs.Tables.{same_name-refl, same_name-equal, same_name-sym, same_table, get-left}

-- what so many notionals of a size come to
abbrev pub summed : ℤ → ℕ → Option NotionalSum
summed n zero = None
summed n (suc c) = Some (record { size = n; rows = suc c })

-- what those of a qualifier come to
abbrev pub sum_at : List CrifRow → List ℕ → Option NotionalSum
sum_at rows name = summed (notional_of rows name) (count_of rows name)

-- ---- a look-up

module _ (f : List ℕ → NotionalSum) (name : List ℕ) where
  abbrev found : ℕ → Option NotionalSum
  found zero = None
  found (suc n) = Some (f name)

  find-each : (amounts : List (Amount (List ℕ))) → find name_cmp name (map (λ a. (a.of, f a.of)) amounts) ≡ found (length (filter (λ a. same_name a.of name) amounts))
  find-each [] = refl
  find-each (a ∷ amounts) =
      ap (λ t. cond t (Some (f a.of)) (find name_cmp name (map (λ b. (b.of, f b.of)) amounts))) (same_name-sym name a.of)
      ∙ ap (cond (same_name a.of name) (Some (f a.of))) (find-each amounts) ∙ by (same_name a.of name) refl
    where
      by : (t : Bool) → same_name a.of name ≡ t → cond t (Some (f a.of)) (found (length (filter (λ b. same_name b.of name) amounts))) ≡ found (length (cond t (a ∷ filter (λ b. same_name b.of name) amounts) (filter (λ b. same_name b.of name) amounts)))
      by true e = ap (λ k. Some (f k)) (same_name-equal a.of name e)
      by false e = refl

pub get-notionals : (rows : List CrifRow) (name : List ℕ) → get (notionals_of rows) name ≡ sum_at rows name
get-notionals rows name =
    get-from_entries nat_list_cmp_total (map (λ a. sum_of rows a.of) (flat_map notional rows)) name ∙ find-each its name (flat_map notional rows) ∙ by (count_of rows name) refl
  where
    its : List ℕ → NotionalSum
    its q = record { size = notional_of rows q; rows = count_of rows q }

    by : (c : ℕ) → count_of rows name ≡ c → found its name c ≡ summed (notional_of rows name) c
    by zero e = refl
    by (suc c) e = ap (λ n. Some (record { size = notional_of rows name; rows = n })) e

-- ---- in another order

pub same_sums : (xs ys : List CrifRow) → fixed_amounts xs ≡ fixed_amounts ys → ((name : List ℕ) → notional_of xs name ≡ notional_of ys name) → ((name : List ℕ) → count_of xs name ≡ count_of ys name) → sums_of xs ≡ sums_of ys
same_sums xs ys fixed sizes counts =
    let tables : notionals_of xs ≡ notionals_of ys =
    same_table (notionals_of xs) (notionals_of ys) (λ name. get-notionals xs name ∙ (λ i. summed (sizes name i) (counts name i)) ∙ sym (get-notionals ys name)) in
    λ i. record { fixed = cents (fixed i); notionals = tables i }

notional-append : (xs ys : List CrifRow) (name : List ℕ) → notional_of (xs ++ ys) name ≡ notional_of xs name +ℤ notional_of ys name
notional-append xs ys name = by_row (xs ++ ys) name ∙ total-append (notional_in name) xs ys ∙ (λ i. sym (by_row xs name) i +ℤ sym (by_row ys name) i)

count-append : (xs ys : List CrifRow) (name : List ℕ) → count_of (xs ++ ys) name ≡ count_of xs name + count_of ys name
count-append xs ys name =
    let named : Amount (List ℕ) → Bool = λ a. same_name a.of name in
    ap (λ amounts. length (filter named amounts)) (flat_map-append notional xs ys) ∙ ap length (filter-append named (flat_map notional xs) (flat_map notional ys))
    ∙ length-append (filter named (flat_map notional xs)) (filter named (flat_map notional ys))

pub swapped_sums : (xs ys : List CrifRow) → sums_of (xs ++ ys) ≡ sums_of (ys ++ xs)
swapped_sums xs ys =
    same_sums (xs ++ ys) (ys ++ xs)
    (omega (arith, ints, total-append fixed_amount xs ys, total-append fixed_amount ys xs))
    (λ name. omega (arith, ints, notional-append xs ys name, notional-append ys xs name))
    (λ name. omega (arith, count-append xs ys name, count-append ys xs name))

pub taken_before : (before taken after : List CrifRow) → sums_of (before ++ taken ++ after) ≡ sums_of (taken ++ (before ++ after))
taken_before before taken after =
    same_sums (before ++ taken ++ after) (taken ++ (before ++ after))
    (omega (arith, ints, total-append fixed_amount (before ++ taken) after, total-append fixed_amount before taken, total-append fixed_amount taken (before ++ after), total-append fixed_amount before after))
    (λ name. omega (arith, ints, notional-append (before ++ taken) after name, notional-append before taken name, notional-append taken (before ++ after) name, notional-append before after name))
    (λ name. omega (arith, count-append (before ++ taken) after name, count-append before taken name, count-append taken (before ++ after) name, count-append before after name))

pub unmoved_sums : (before part after : List CrifRow) → sums_of (before ++ part ++ after) ≡ sums_of (before ++ after ++ part)
unmoved_sums before part after = taken_before before part after ∙ swapped_sums part (before ++ after)

-- ---- one notional more, one less

abbrev sum_rows : ℤ → ℕ → Option NotionalSum
sum_rows n c = Some (record { size = n; rows = c })

two : (n m : ℤ) (c d : ℕ) → n ≡ m → c ≡ d → sum_rows n c ≡ sum_rows m d
two n m c d e f = λ i. sum_rows (e i) (f i)

one_more : (c : ℕ) → (suc (suc c) == 1) ≡ false
one_more c = grind (arith, nat_tests)

grown_sum : (n a b : ℤ) (c : ℕ) → b ≡ pos (unsigned_abs a) → (c ≡ 0 → n ≡ pos 0) → Some (grown (summed n c) a) ≡ summed (b +ℤ n) (suc c)
grown_sum n a b zero e f = two (pos (unsigned_abs a)) (b +ℤ n) 1 1 (sym e ∙ omega (arith, ints, f refl)) refl
grown_sum n a b (suc c) e f = two (n +ℤ pos (unsigned_abs a)) (b +ℤ n) (suc c + 1) (suc (suc c)) (ap (λ z. n +ℤ z) (sym e) ∙ omega (arith, ints)) (omega arith)

shrunk_sum : (n a b : ℤ) (c : ℕ) → b ≡ pos (unsigned_abs a) → shrunk (summed (b +ℤ n) (suc c)) a ≡ summed n c
shrunk_sum n a b zero e = refl
shrunk_sum n a b (suc c) e =
    ap (λ t. cond t None (sum_rows ((b +ℤ n) -ℤ pos (unsigned_abs a)) (suc (suc c) - 1))) (one_more c)
    ∙ two ((b +ℤ n) -ℤ pos (unsigned_abs a)) n (suc (suc c) - 1) (suc c) (ap (λ z. (b +ℤ n) -ℤ z) (sym e) ∙ omega (arith, ints)) (omega arith)

total-none : (amounts : List (Amount (List ℕ))) → length amounts ≡ 0 → total_by size_of amounts ≡ pos 0
total-none [] e = refl
total-none (a ∷ amounts) e = absurd (omega arith)

none_of : (rows : List CrifRow) (name : List ℕ) → count_of rows name ≡ 0 → notional_of rows name ≡ pos 0
none_of rows name e = total-none (filter (λ a. same_name a.of name) (flat_map notional rows)) e

size_in-summed : (n : ℤ) (c : ℕ) → (c ≡ 0 → n ≡ pos 0) → size_in (summed n c) ≡ n
size_in-summed n zero f = sym (f refl)
size_in-summed n (suc c) f = refl

pub size_in-sum : (rows : List CrifRow) (name : List ℕ) → size_in (sum_at rows name) ≡ notional_of rows name
size_in-sum rows name = size_in-summed (notional_of rows name) (count_of rows name) (none_of rows name)

module _ (key : List ℕ) (amount : Cents) (rest : List CrifRow) where
  -- what those of a qualifier come to, by whether it is the one
  abbrev at_test : Bool → List ℕ → Option NotionalSum
  at_test t name =
      let kept : List (Amount (List ℕ)) = filter (λ a. same_name a.of name) (flat_map notional rest) in
      let all : List (Amount (List ℕ)) = cond t (record { of = key; amount = amount.0 } ∷ kept) kept in
      summed (total_by size_of all) (length all)

  pub at_key : sum_at (row.Notional key amount ∷ rest) key ≡ summed (pos (unsigned_abs amount.0) +ℤ notional_of rest key) (suc (count_of rest key))
  at_key = ap (λ t. at_test t key) (same_name-refl key)

  at_other : (name : List ℕ) → same_name key name ≡ false → sum_at (row.Notional key amount ∷ rest) name ≡ sum_at rest name
  at_other name e = ap (λ t. at_test t name) e

  at_more : (name : List ℕ) → cond (same_name key name) (Some (grown (sum_at rest key) amount.0)) (sum_at rest name) ≡ sum_at (row.Notional key amount ∷ rest) name
  at_more name = by (same_name key name) refl
    where
      by : (t : Bool) → same_name key name ≡ t → cond t (Some (grown (sum_at rest key) amount.0)) (sum_at rest name) ≡ sum_at (row.Notional key amount ∷ rest) name
      by true e =
          grown_sum (notional_of rest key) amount.0 (pos (unsigned_abs amount.0)) (count_of rest key) refl (none_of rest key)
          ∙ sym at_key ∙ ap (sum_at (row.Notional key amount ∷ rest)) (same_name-equal key name e)
      by false e = sym (at_other name e)

  at_less : (name : List ℕ) → cond (same_name key name) (shrunk (sum_at (row.Notional key amount ∷ rest) key) amount.0) (sum_at (row.Notional key amount ∷ rest) name) ≡ sum_at rest name
  at_less name = by (same_name key name) refl
    where
      by : (t : Bool) → same_name key name ≡ t → cond t (shrunk (sum_at (row.Notional key amount ∷ rest) key) amount.0) (sum_at (row.Notional key amount ∷ rest) name) ≡ sum_at rest name
      by true e =
          ap (λ o. shrunk o amount.0) at_key ∙ shrunk_sum (notional_of rest key) amount.0 (pos (unsigned_abs amount.0)) (count_of rest key) refl
          ∙ ap (sum_at rest) (same_name-equal key name e)
      by false e = at_other name e

  pub notional_more : with_left (notionals_of rest) key (Some (grown (get (notionals_of rest) key) amount.0)) ≡ notionals_of (row.Notional key amount ∷ rest)
  notional_more =
      same_table (with_left (notionals_of rest) key (Some (grown (get (notionals_of rest) key) amount.0))) (notionals_of (row.Notional key amount ∷ rest))
      (λ name. get-left (notionals_of rest) key (Some (grown (get (notionals_of rest) key) amount.0)) name
      ∙ (λ i. cond (same_name key name) (Some (grown (get-notionals rest key i) amount.0)) (get-notionals rest name i))
      ∙ at_more name ∙ sym (get-notionals (row.Notional key amount ∷ rest) name))

  pub notional_less : with_left (notionals_of (row.Notional key amount ∷ rest)) key (shrunk (get (notionals_of (row.Notional key amount ∷ rest)) key) amount.0) ≡ notionals_of rest
  notional_less =
      let all = row.Notional key amount ∷ rest in
      same_table (with_left (notionals_of all) key (shrunk (get (notionals_of all) key) amount.0)) (notionals_of rest)
      (λ name. get-left (notionals_of all) key (shrunk (get (notionals_of all) key) amount.0) name
      ∙ (λ i. cond (same_name key name) (shrunk (get-notionals all key i) amount.0) (get-notionals all name i))
      ∙ at_less name ∙ sym (get-notionals rest name))

-- ---- one row more, one less: its fixed amount, and its notional

pub fixed_more : (a : Cents) (rest : List CrifRow) → record { fixed = cents (fixed_amounts rest +ℤ a.0); notionals = notionals_of rest } ≡ sums_of (row.FixedAmount a ∷ rest)
fixed_more a rest = let e : fixed_amounts rest +ℤ a.0 ≡ a.0 +ℤ fixed_amounts rest = omega (arith, ints) in λ i. record { fixed = cents (e i); notionals = notionals_of rest }

pub from_nothing : (z : ℤ) → z ≡ pos 0 +ℤ z
from_nothing z = omega (arith, ints)

-- a row that neither is
pub nothing_more : (r : CrifRow) (rest : List CrifRow) → notional r ≡ [] → fixed_amount r ≡ pos 0 → sums_of rest ≡ sums_of (r ∷ rest)
nothing_more r rest none zero_amount = same_sums rest (r ∷ rest) (from_nothing (fixed_amounts rest) ∙ ap (λ z. z +ℤ fixed_amounts rest) (sym zero_amount)) (λ name. ap (λ amounts. total_by size_of (filter (λ a. same_name a.of name) (amounts ++ flat_map notional rest))) (sym none)) (λ name. ap (λ amounts. length (filter (λ a. same_name a.of name) (amounts ++ flat_map notional rest))) (sym none))
