-- What rows in range add to fixed amounts and to notionals.
use Rattle.std.proofs.Common.{◌≡◌, ℕ, ◌*◌, ◌^◌, ◌≤◌, List, [], ◌∷◌, ◌++◌, length, Bool, true, false, cond, filter, ℤ, pos, ◌+ℤ◌, ◌≤ℤ◌, int_le, unsigned_abs, refl, sym, ap, ◌∙◌, subst, arith, mul-le-mul_right}
use Rattle.std.specs.List.{flat_map, list_all, AllByRecursion}
use Rattle.std.proofs.lemmas.Bool.{leb-true, and_parts}
use Rattle.std.proofs.lemmas.Int.{ints}
use Rattle.std.proofs.lemmas.List.Elements.{filter-append}
use Rattle.simm_params.specs.SimmKinds.declared.row.CrifRow.{CrifRow}
use Rattle.simm_params.specs.SimmKinds.declared.row.CrifRow.TheVariants as row
use Rattle.simm_params.specs.SimmKinds.Batch.{is_in_range, is_amount}
use Rattle.simm_params.specs.SimmKinds.Order.{same_name}
use Rattle.simm_params.proofs.Compared.{le_from}
use Rattle.simm_params.specs.SimmRules.Risks.{Amount}
use Rattle.simm_params.specs.SimmRules.Sums.{total_by}
use Rattle.simm_params.specs.SimmRules.AddOns.{fixed_amount, fixed_amounts, notional, notional_factor, notional_of}
use Rattle.class_combine.specs.Notionals.{IsFactor}
use Rattle.class_combine.specs.Whole.{IsAddOn}
use Rattle.class_combine.proofs.Adding.{AreLow, Adds, adds_start, total_low, total_most, total-flat_map}

-- what holds of each row in range holds of each row of a list in range
pub each_row : (P : CrifRow → Type 0) → ((r : CrifRow) → is_in_range r ≡ true → P r) → (rows : List CrifRow) → list_all is_in_range rows ≡ true → AllByRecursion P rows
each_row P holds [] h = tt
each_row P holds (r ∷ rows) h =
    let parts = and_parts (is_in_range r) (list_all is_in_range rows) h in (holds r parts.0, each_row P holds rows parts.1)

-- a sum over rows of a book of which each adds at most 10^15 cents
sum_most : (f : CrifRow → ℤ) (rows : List CrifRow) → length rows ≤ 200000 → AllByRecursion (λ r. f r ≤ℤ pos (10 ^ 15)) rows → total_by f rows ≤ℤ pos (2 * 10 ^ 20)
sum_most f rows few each =
    let most : length rows * 10 ^ 15 ≤ 200000 * 10 ^ 15 = mul-le-mul_right (10 ^ 15) few in omega (arith, ints, total_most f (10 ^ 15) rows each, most)

-- ---- fixed amounts

pub fixed_low : (r : CrifRow) → is_in_range r ≡ true → pos 0 ≤ℤ fixed_amount r
fixed_low (row.Sensitivity key amount) h = omega (arith, ints)
fixed_low (row.Notional qualifier amount) h = omega (arith, ints)
fixed_low (row.FixedAmount amount) h = le_from (pos 0) amount.0 (and_parts (int_le (pos 0) amount.0) (is_amount amount.0) h).0
fixed_low (row.NotionalFactor qualifier factor) h = omega (arith, ints)
fixed_low (row.Multiplier product factor) h = omega (arith, ints)

pub fixed_most : (r : CrifRow) → is_in_range r ≡ true → fixed_amount r ≤ℤ pos (10 ^ 15)
fixed_most (row.Sensitivity key amount) h = omega (arith, ints)
fixed_most (row.Notional qualifier amount) h = omega (arith, ints)
fixed_most (row.FixedAmount amount) h =
    let size : unsigned_abs amount.0 ≤ 10 ^ 15 = leb-true (unsigned_abs amount.0) (10 ^ 15) (and_parts (int_le (pos 0) amount.0) (is_amount amount.0) h).1 in omega (arith, ints, size)
fixed_most (row.NotionalFactor qualifier factor) h = omega (arith, ints)
fixed_most (row.Multiplier product factor) h = omega (arith, ints)

pub fixed_each : (rows : List CrifRow) → list_all is_in_range rows ≡ true → AreLow fixed_amount rows
fixed_each = each_row (λ r. pos 0 ≤ℤ fixed_amount r) fixed_low

pub fixed_sum_low : (rows : List CrifRow) → list_all is_in_range rows ≡ true → pos 0 ≤ℤ fixed_amounts rows
fixed_sum_low rows h = total_low fixed_amount rows (fixed_each rows h)

fixed_small : (rows : List CrifRow) → length rows ≤ 200000 → list_all is_in_range rows ≡ true → fixed_amounts rows ≤ℤ pos (2 * 10 ^ 20)
fixed_small rows few h = sum_most fixed_amount rows few (each_row (λ r. fixed_amount r ≤ℤ pos (10 ^ 15)) fixed_most rows h)

pub fixed_range : (rows : List CrifRow) → length rows ≤ 200000 → list_all is_in_range rows ≡ true → IsAddOn (fixed_amounts rows)
fixed_range rows few h = record { low = fixed_sum_low rows h; size = omega (arith, ints, fixed_small rows few h) }

-- ---- notionals

abbrev pub size_of : Amount (List ℕ) → ℤ
size_of a = pos (unsigned_abs a.amount)

pub sizes_low : (amounts : List (Amount (List ℕ))) → AreLow size_of amounts
sizes_low [] = tt
sizes_low (a ∷ amounts) = (omega (arith, ints), sizes_low amounts)

-- the amounts of a row's notionals, of all qualifiers
abbrev pub notional_size : CrifRow → ℤ
notional_size r = total_by size_of (notional r)

notional_most : (r : CrifRow) → is_in_range r ≡ true → notional_size r ≤ℤ pos (10 ^ 15)
notional_most (row.Sensitivity key amount) h = omega (arith, ints)
notional_most (row.Notional qualifier amount) h = let size : unsigned_abs amount.0 ≤ 10 ^ 15 = leb-true (unsigned_abs amount.0) (10 ^ 15) h in omega (arith, ints, size)
notional_most (row.FixedAmount amount) h = omega (arith, ints)
notional_most (row.NotionalFactor qualifier factor) h = omega (arith, ints)
notional_most (row.Multiplier product factor) h = omega (arith, ints)

-- all notionals of a book
pub notionals_small : (rows : List CrifRow) → length rows ≤ 200000 → list_all is_in_range rows ≡ true → total_by size_of (flat_map notional rows) ≤ℤ pos (2 * 10 ^ 20)
notionals_small rows few h =
    subst (λ z. z ≤ℤ pos (2 * 10 ^ 20)) (sym (total-flat_map size_of notional rows)) (sum_most notional_size rows few (each_row (λ r. notional_size r ≤ℤ pos (10 ^ 15)) notional_most rows h))

-- ---- one qualifier

filter-flat_map : {A B : Type 0} (p : B → Bool) (g : A → List B) (xs : List A) → filter p (flat_map g xs) ≡ flat_map (λ x. filter p (g x)) xs
filter-flat_map p g [] = refl
filter-flat_map p g (x ∷ xs) = filter-append p (g x) (flat_map g xs) ∙ ap (λ ys. filter p (g x) ++ ys) (filter-flat_map p g xs)

-- the size that a row adds to the notional of a qualifier
abbrev pub notional_in : List ℕ → CrifRow → ℤ
notional_in name r = total_by size_of (filter (λ a. same_name a.of name) (notional r))

-- the notional of a qualifier, row by row
pub by_row : (rows : List CrifRow) (name : List ℕ) → notional_of rows name ≡ total_by (notional_in name) rows
by_row rows name =
    ap (total_by size_of) (filter-flat_map (λ a. same_name a.of name) notional rows) ∙ total-flat_map size_of (λ r. filter (λ a. same_name a.of name) (notional r)) rows

pub notionals_each : (name : List ℕ) (rows : List CrifRow) → AreLow (notional_in name) rows
notionals_each name [] = tt
notionals_each name (r ∷ rows) = (total_low size_of (filter (λ a. same_name a.of name) (notional r)) (sizes_low (filter (λ a. same_name a.of name) (notional r))), notionals_each name rows)

pub notional_start : (rows : List CrifRow) (name : List ℕ) → Adds (notional_in name) (notional_of rows name) rows (pos 0)
notional_start rows name =
    subst (λ z. Adds (notional_in name) z rows (pos 0)) (sym (by_row rows name)) (adds_start (notional_in name) rows (notionals_each name rows))

kept_le : (p : Amount (List ℕ) → Bool) (amounts : List (Amount (List ℕ))) → total_by size_of (filter p amounts) ≤ℤ total_by size_of amounts
kept_le p [] = omega (arith, ints)
kept_le p (a ∷ amounts) = by (p a) (kept_le p amounts)
  where
    by : (t : Bool) → total_by size_of (filter p amounts) ≤ℤ total_by size_of amounts → total_by size_of (cond t (a ∷ filter p amounts) (filter p amounts)) ≤ℤ (size_of a +ℤ total_by size_of amounts)
    by true h = omega (arith, ints, h)
    by false h = omega (arith, ints, h)

pub notional_low : (rows : List CrifRow) (name : List ℕ) → pos 0 ≤ℤ notional_of rows name
notional_low rows name = total_low size_of (filter (λ a. same_name a.of name) (flat_map notional rows)) (sizes_low (filter (λ a. same_name a.of name) (flat_map notional rows)))

pub notional_small : (rows : List CrifRow) (name : List ℕ) → length rows ≤ 200000 → list_all is_in_range rows ≡ true → notional_of rows name ≤ℤ pos (2 * 10 ^ 20)
notional_small rows name few h = omega (arith, ints, kept_le (λ a. same_name a.of name) (flat_map notional rows), notionals_small rows few h)

-- ---- factors

pub factor_row : (r : CrifRow) → is_in_range r ≡ true → AllByRecursion (λ f. IsFactor f.amount) (notional_factor r)
factor_row (row.Sensitivity key amount) h = tt
factor_row (row.Notional qualifier amount) h = tt
factor_row (row.FixedAmount amount) h = tt
factor_row (row.NotionalFactor qualifier factor) h =
    let parts = and_parts (int_le (pos 0) factor.0) (int_le factor.0 (pos 1000000)) h in
    (record { low = le_from (pos 0) factor.0 parts.0; high = le_from factor.0 (pos 1000000) parts.1 }, tt)
factor_row (row.Multiplier product factor) h = tt

each-append : {A : Type 0} (P : A → Type 0) (xs ys : List A) → AllByRecursion P xs → AllByRecursion P ys → AllByRecursion P (xs ++ ys)
each-append P [] ys h g = g
each-append P (x ∷ xs) ys h g = (h.0, each-append P xs ys h.1 g)

pub factors_each : (rows : List CrifRow) → list_all is_in_range rows ≡ true → AllByRecursion (λ f. IsFactor f.amount) (flat_map notional_factor rows)
factors_each [] h = tt
factors_each (r ∷ rows) h =
    let parts = and_parts (is_in_range r) (list_all is_in_range rows) h in each-append (λ f. IsFactor f.amount) (notional_factor r) (flat_map notional_factor rows) (factor_row r parts.0) (factors_each rows parts.1)
