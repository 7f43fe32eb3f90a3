-- Sums of what rows add, front by front: none is larger than all amounts.
use Rattle.std.proofs.Common.{◌≡◌, ℕ, ◌+◌, ◌<◌, ◌≤◌, ◌^◌, length, get_or, drop, List, [], ◌∷◌, Bool, true, false, cond, ℤ, pos, ◌+ℤ◌, ◌≤ℤ◌, unsigned_abs, to_z, of_z, refl, sym, ap, ◌∙◌, subst, arith}
use Rattle.std.specs.Int.{w128}
use Rattle.std.specs.List.{filter}
use Rattle.std.proofs.lemmas.Int.{ints, fits_signed_from_abs}
use Rattle.std.proofs.lemmas.List.{drop_more}
use Rattle.std.proofs.lemmas.List.Sums.{sum_by-cons}
use Rattle.simm_rules.specs.Sums.{total_by}
use Rattle.simm_rules.proofs.MhUnits.Integers.{same128}
use Rattle.schedule_im.specs.declared.row.ScheduleRow.{ScheduleRow}
use Rattle.schedule_im.specs.Rule.{sizes, most_sizes}

-- a number as it is passed on
abbrev pub passed : ℤ → ℤ
passed z = to_z w128 (of_z w128 z)

-- and it is the same where it isn't large
pub same_small : (z : ℤ) → unsigned_abs z ≤ 10 ^ 36 → passed z ≡ z
same_small z h = same128 z (fits_signed_from_abs w128 z (omega arith))

-- what is 0 where a test fails adds up to the sum over those that pass it
pub total_kept : {A : Type 0} (f : A → ℤ) (t : A → Bool) (xs : List A) → total_by (λ x. cond (t x) (f x) (pos 0)) xs ≡ total_by f (filter t xs)
total_kept f t [] = refl
total_kept f t (x ∷ xs) = by (t x) (total_kept f t xs)
  where
    by : (b : Bool) → total_by (λ y. cond (t y) (f y) (pos 0)) xs ≡ total_by f (filter t xs) → cond b (f x) (pos 0) +ℤ total_by (λ y. cond (t y) (f y) (pos 0)) xs ≡ total_by f (cond b (x ∷ filter t xs) (filter t xs))
    by true rest = ap (λ z. f x +ℤ z) rest
    by false rest = omega (arith, ints, rest)

module _ (f : ScheduleRow → ℤ) where
  -- a sum so far, which with what is left comes to the whole
  pub record Adds (rows left : List ScheduleRow) (sum : ℤ) : Type 0 where
    pub value : sum +ℤ total_by f left ≡ total_by f rows
    pub size : unsigned_abs sum + sizes left ≤ sizes rows

  pub next : (rows all left : List ScheduleRow) (row : ScheduleRow) (sum z : ℤ) → sizes rows ≤ most_sizes → all ≡ row ∷ left → z ≡ f row → unsigned_abs z ≤ unsigned_abs row.amount → Adds rows all sum → Adds rows left (sum +ℤ z)
  next rows all left row sum z small are is size so_far =
      let here : Adds rows (row ∷ left) sum = subst (λ (xs : List ScheduleRow). Adds rows xs sum) are so_far in
      let room = sum_by-cons (λ (r : ScheduleRow). unsigned_abs r.amount) row left in
      record { value = omega (arith, ints, here.value, is); size = omega (arith, ints, here.size, room, size) }

  -- one row more, where no row takes away
  pub record Grown (rows left : List ScheduleRow) (sum z : ℤ) : Type 0 where
    pub own : passed z ≡ z
    pub both : passed (sum +ℤ z) ≡ sum +ℤ z
    pub adds : Adds rows left (sum +ℤ z)
    pub low : pos 0 ≤ℤ (sum +ℤ z)

  pub grows : (rows : List ScheduleRow) (i : ℕ) (row : ScheduleRow) (sum z : ℤ) → sizes rows ≤ most_sizes → i < length rows → row ≡ get_or rows i row
      → z ≡ f row → unsigned_abs z ≤ unsigned_abs row.amount → pos 0 ≤ℤ z → pos 0 ≤ℤ sum → Adds rows (drop i rows) sum → Grown rows (drop (i + 1) rows) sum z
  grows rows i row sum z small inside there is size low sum_low so_far =
      let are : drop i rows ≡ row ∷ drop (i + 1) rows = drop_more rows i row inside ∙ ap (λ x. x ∷ drop (i + 1) rows) (sym there) in
      let adds = next rows (drop i rows) (drop (i + 1) rows) row sum z small are is size so_far in
      record {
        own = same_small z (omega (arith, ints, adds.size));
        both = same_small (sum +ℤ z) (omega (arith, adds.size));
        adds = adds;
        low = omega (arith, ints);
      }

  -- with nothing left the sum is the whole
  pub ends : (rows left : List ScheduleRow) (sum : ℤ) → left ≡ [] → Adds rows left sum → sum ≡ total_by f rows
  ends rows left sum none so_far =
      let there : Adds rows [] sum = subst (λ (xs : List ScheduleRow). Adds rows xs sum) none so_far in
      omega (arith, ints, there.value)
