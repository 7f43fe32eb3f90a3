-- What rows add one by one comes to the sums of the rule over the present values.
use Rattle.std.proofs.Common.{◌≡◌, [], ◌∷◌, List, Bool, true, false, cond, not, pos, ◌+ℤ◌, refl, ap, arith}
use Rattle.std.specs.Int.{int_max}
use Rattle.std.proofs.lemmas.Int.{ints}
use Rattle.simm_rules.specs.Sums.{total_by}
use Rattle.schedule_im.specs.declared.row.ScheduleRow.{ScheduleRow}
use Rattle.schedule_im.specs.Classes.{is_notional}
use Rattle.schedule_im.specs.Parts.{cost, gain}
use Rattle.schedule_im.specs.Rule.{present_values, present_value, gross_cost}

pub total-cost : (rows : List ScheduleRow) → total_by cost rows ≡ present_value rows
total-cost [] = refl
total-cost (r ∷ rs) = by (is_notional r.kind) (total-cost rs)
  where
    by : (b : Bool) → total_by cost rs ≡ present_value rs → cond b (pos 0) r.amount +ℤ total_by cost rs ≡ total_by (λ (row : ScheduleRow). row.amount) (cond (not b) (r ∷ present_values rs) (present_values rs))
    by true rest = omega (arith, ints, rest)
    by false rest = ap (λ z. r.amount +ℤ z) rest

pub total-gain : (rows : List ScheduleRow) → total_by gain rows ≡ gross_cost rows
total-gain [] = refl
total-gain (r ∷ rs) = by (is_notional r.kind) (total-gain rs)
  where
    by : (b : Bool) → total_by gain rs ≡ gross_cost rs → int_max (cond b (pos 0) r.amount) (pos 0) +ℤ total_by gain rs ≡ total_by (λ (row : ScheduleRow). int_max row.amount (pos 0)) (cond (not b) (r ∷ present_values rs) (present_values rs))
    by true rest = omega (arith, ints, rest)
    by false rest = ap (λ z. int_max r.amount (pos 0) +ℤ z) rest
