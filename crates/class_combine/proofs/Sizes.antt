-- How large the sums of rows are, and so what can be added to them and taken.
use Rattle.std.proofs.Common.{◌≡◌, ℕ, zero, suc, ◌+◌, ◌*◌, ◌^◌, ◌<◌, ◌≤◌, List, [], ◌∷◌, ◌++◌, length, filter, Bool, true, false, cond, IfSome, IsSomeAnd, refl, sym, ap, ◌∙◌, subst, ℤ, pos, negsuc, ◌+ℤ◌, ◌-ℤ◌, ◌≤ℤ◌, unsigned_abs, FitsSigned, arith, lit≤, mul-le-mul_right}
use Rattle.std.specs.Int.{w128}
use Rattle.std.specs.List.{flat_map, list_all, AllByRecursion}
use Rattle.std.proofs.lemmas.Bool.{and_parts, leb-true}
use Rattle.std.proofs.lemmas.Int.{ints, fits_signed_from_abs}
use Rattle.simm_params.proofs.MhUnits.Integers.{same128}
use Rattle.simm_params.specs.MhUnits.declared.quantities.Cents.{Cents}
use Rattle.simm_params.specs.SimmKinds.declared.row.CrifRow.{CrifRow}
use Rattle.simm_params.specs.SimmKinds.declared.row.CrifRow.TheVariants as row
use Rattle.simm_params.specs.SimmKinds.Batch.{is_in_range}
use Rattle.simm_params.specs.SimmKinds.Order.{same_name}
use Rattle.simm_params.specs.SimmRules.Risks.{Amount}
use Rattle.simm_params.specs.SimmRules.AddOns.{fixed_amount, fixed_amounts, notional, notional_of}
use Rattle.class_combine.specs.Summed.{CanGrow, CanShrink}
use Rattle.class_combine.specs.Sums.{count_of}
use Rattle.class_combine.proofs.Adding.{total_most}
use Rattle.class_combine.proofs.InRange.{each_row, fixed_low, fixed_most, fixed_sum_low, notional_low, size_of}
use Rattle.class_combine.proofs.Products.{passed, Added, added}
use Rattle.class_combine.proofs.Held.{summed, sum_at, at_key}

-- ---- fixed amounts

-- those of fewer than 2^32 rows
fixed_sum_size : (rows : List CrifRow) → list_all is_in_range rows ≡ true → length rows < 2 ^ 32 → unsigned_abs (fixed_amounts rows) ≤ 2 ^ 32 * 10 ^ 15
fixed_sum_size rows h few =
    let count : length rows ≤ 2 ^ 32 = omega arith in
    let most : length rows * 10 ^ 15 ≤ 2 ^ 32 * 10 ^ 15 = mul-le-mul_right (10 ^ 15) count in
    omega (arith, ints, fixed_sum_low rows h, total_most fixed_amount (10 ^ 15) rows (each_row (λ r. fixed_amount r ≤ℤ pos (10 ^ 15)) fixed_most rows h), most)

fixed_row_size : (a : Cents) → is_in_range (row.FixedAmount a) ≡ true → unsigned_abs a.0 ≤ 10 ^ 15
fixed_row_size a h =
    let low : pos 0 ≤ℤ a.0 = fixed_low (row.FixedAmount a) h in
    let most : a.0 ≤ℤ pos (10 ^ 15) = fixed_most (row.FixedAmount a) h in
    omega (arith, ints)

-- the sum with one more
pub fixed_room : (sum : ℤ) (rows : List CrifRow) (a : Cents) → sum ≡ fixed_amounts rows → list_all is_in_range rows ≡ true → length rows + 1 < 2 ^ 32 → is_in_range (row.FixedAmount a) ≡ true → Added sum sum a.0 (2 ^ 32 * 10 ^ 15 + 10 ^ 15)
fixed_room sum rows a is h few g =
    let size : unsigned_abs sum ≤ 2 ^ 32 * 10 ^ 15 = subst (λ z. unsigned_abs z ≤ 2 ^ 32 * 10 ^ 15) (sym is) (fixed_sum_size rows h (omega arith)) in
    added sum sum a.0 (2 ^ 32 * 10 ^ 15) (10 ^ 15) refl size (fixed_row_size a g) (lit≤ tt)

abbrev pub minus : ℤ → ℤ → ℤ
minus a b = passed a -ℤ passed b

-- the sum with one less
pub record Less (sum a : ℤ) : Type 0 where
  pub fits : FitsSigned w128 (minus sum a)
  pub answer : passed (minus sum a) ≡ sum -ℤ a

smaller_fits : (y z : ℤ) → pos 0 ≤ℤ z → FitsSigned w128 z → unsigned_abs y ≤ unsigned_abs z → FitsSigned w128 y
smaller_fits y (pos n) low fits h =
    let most : n < 2 ^ 127 = fits.sfits in
    let below : unsigned_abs y < 2 ^ 127 = omega (arith, h, most) in
    fits_signed_from_abs w128 y below
smaller_fits y (negsuc n) low fits h = absurd low.le

pub fixed_less : (sum : ℤ) (a : Cents) (others : List CrifRow) → FitsSigned w128 sum → sum ≡ a.0 +ℤ fixed_amounts others → is_in_range (row.FixedAmount a) ≡ true → list_all is_in_range others ≡ true → Less sum a.0
fixed_less sum a others fits_sum is g h =
    let size : unsigned_abs a.0 ≤ 10 ^ 15 = fixed_row_size a g in
    let one_low : pos 0 ≤ℤ a.0 = fixed_low (row.FixedAmount a) g in
    let low : pos 0 ≤ℤ fixed_amounts others = fixed_sum_low others h in
    let smaller : unsigned_abs (sum -ℤ a.0) ≤ unsigned_abs sum = omega (arith, ints, is, low, one_low) in
    let fits : FitsSigned w128 (sum -ℤ a.0) = smaller_fits (sum -ℤ a.0) sum (omega (arith, ints, is, low, one_low)) fits_sum smaller in
    let minus_is : minus sum a.0 ≡ sum -ℤ a.0 = (λ i. same128 sum fits_sum i -ℤ same128 a.0 (fits_signed_from_abs w128 a.0 (omega (arith, size))) i) in
    record { fits = subst (FitsSigned w128) (sym minus_is) fits; answer = ap passed minus_is ∙ same128 (sum -ℤ a.0) fits }

-- ---- notionals of a qualifier

abbrev named : List ℕ → Amount (List ℕ) → Bool
named name a = same_name a.of name

notional_row_size : (q : List ℕ) (a : Cents) → is_in_range (row.Notional q a) ≡ true → unsigned_abs a.0 ≤ 10 ^ 15
notional_row_size q a h = leb-true (unsigned_abs a.0) (10 ^ 15) h

module _ (p : Amount (List ℕ) → Bool) where
  abbrev AreSmall : List (Amount (List ℕ)) → Type 0
  AreSmall amounts = AllByRecursion (λ a. size_of a ≤ℤ pos (10 ^ 15)) amounts

  small_more : (r : CrifRow) (rest : List (Amount (List ℕ))) → is_in_range r ≡ true → AreSmall (filter p rest) → AreSmall (filter p (notional r ++ rest))
  small_more (row.Sensitivity key amount) rest h i = i
  small_more (row.Notional q amount) rest h i = by (p (record { of = q; amount = amount.0 }))
    where
      by : (t : Bool) → AreSmall (cond t (record { of = q; amount = amount.0 } ∷ filter p rest) (filter p rest))
      by true = (omega (arith, ints, notional_row_size q amount h), i)
      by false = i
  small_more (row.FixedAmount amount) rest h i = i
  small_more (row.NotionalFactor q factor) rest h i = i
  small_more (row.Multiplier product factor) rest h i = i

  small_kept : (rows : List CrifRow) → list_all is_in_range rows ≡ true → AreSmall (filter p (flat_map notional rows))
  small_kept [] h = tt
  small_kept (r ∷ rows) h =
      let parts = and_parts (is_in_range r) (list_all is_in_range rows) h in small_more r (flat_map notional rows) parts.0 (small_kept rows parts.1)

  one_at_most : (r : CrifRow) (rest : List (Amount (List ℕ))) (n : ℕ) → length (filter p rest) ≤ n → length (filter p (notional r ++ rest)) ≤ suc n
  one_at_most (row.Sensitivity key amount) rest n h = omega arith
  one_at_most (row.Notional q amount) rest n h = by (p (record { of = q; amount = amount.0 }))
    where
      by : (t : Bool) → length (cond t (record { of = q; amount = amount.0 } ∷ filter p rest) (filter p rest)) ≤ suc n
      by true = omega arith
      by false = omega arith
  one_at_most (row.FixedAmount amount) rest n h = omega arith
  one_at_most (row.NotionalFactor q factor) rest n h = omega arith
  one_at_most (row.Multiplier product factor) rest n h = omega arith

  kept_at_most : (rows : List CrifRow) → length (filter p (flat_map notional rows)) ≤ length rows
  kept_at_most [] = omega arith
  kept_at_most (r ∷ rows) = one_at_most r (flat_map notional rows) (length rows) (kept_at_most rows)

count_below : (rows : List CrifRow) (name : List ℕ) → count_of rows name ≤ length rows
count_below rows name = kept_at_most (named name) rows

size_most : (rows : List CrifRow) (name : List ℕ) → list_all is_in_range rows ≡ true → notional_of rows name ≤ℤ pos (count_of rows name * 10 ^ 15)
size_most rows name h = total_most size_of (10 ^ 15) (filter (named name) (flat_map notional rows)) (small_kept (named name) rows h)

pub can_grow : (rows : List CrifRow) (name : List ℕ) → list_all is_in_range rows ≡ true → length rows + 1 < 2 ^ 32 → IfSome (sum_at rows name) CanGrow
can_grow rows name h few = by (count_of rows name) refl
  where
    by : (c : ℕ) → count_of rows name ≡ c → IfSome (summed (notional_of rows name) c) CanGrow
    by zero e = tt
    by (suc c) e =
        let most : notional_of rows name ≤ℤ pos (suc c * 10 ^ 15) = subst (λ n. notional_of rows name ≤ℤ pos (n * 10 ^ 15)) e (size_most rows name h) in
        record { size = omega (arith, ints, notional_low rows name, most); few = omega (arith, count_below rows name, e, few) }

pub can_shrink : (rows : List CrifRow) (name : List ℕ) (a : Cents) → list_all is_in_range (row.Notional name a ∷ rows) ≡ true → IsSomeAnd (sum_at (row.Notional name a ∷ rows) name) CanShrink
can_shrink rows name a h =
    let parts = and_parts (is_in_range (row.Notional name a)) (list_all is_in_range rows) h in
    let one : unsigned_abs a.0 ≤ 10 ^ 15 = notional_row_size name a parts.0 in
    let most : notional_of rows name ≤ℤ pos (count_of rows name * 10 ^ 15) = size_most rows name parts.1 in
    let low : pos 0 ≤ℤ notional_of rows name = notional_low rows name in
    let size : unsigned_abs (pos (unsigned_abs a.0) +ℤ notional_of rows name) ≤ suc (count_of rows name) * 10 ^ 15 = omega (arith, ints, one, most, low) in
    subst (λ o. IsSomeAnd o CanShrink) (sym (at_key name a rows)) record { size = size; some = omega arith }
