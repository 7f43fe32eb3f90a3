-- The standard schedule: margin of trades by their notionals and present values.
-- (BCBS-IOSCO, Margin requirements for non-centrally cleared derivatives, appendix A: the table of rates by asset class and
-- duration, and 0.4 and 0.6 times the ratio of net to gross replacement cost. Bands by year, month and day, rounding upwards to
-- the cent, and the whole gross where no cost is positive are this program's.)
use Rattle.std.specs.Prelude.{ℕ, ◌*◌, ◌==◌, Bool, ◌&&◌, not, List, Option, Some, None, sum_by, ◌^◌, ℤ, pos, ◌+ℤ◌, ◌*ℤ◌, unsigned_abs, if◌then◌else◌}
use Rattle.std.specs.List.{filter}
use Rattle.std.specs.Int.{int_max}
use Rattle.iso_dates.specs.declared.date.DateNumbers.{DateNumbers}
use Rattle.simm_rules.specs.MhUnits.Rounding.{up}
use Rattle.simm_rules.specs.Sums.{total_by}
use Rattle.schedule_im.specs.declared.class.ScheduleClass.{ScheduleClass}
use Rattle.schedule_im.specs.declared.class.ScheduleClass.TheVariants as class
use Rattle.schedule_im.specs.declared.row.ScheduleRow.{ScheduleRow}
use Rattle.schedule_im.specs.Classes.{same_class, is_notional}
use Rattle.schedule_im.specs.EndDates.{is_up_to}

-- ---- the table, in percent of the notional

-- by the end: up to two years after the day, above two and up to five, above five; the last without an end, which no row lacks
-- whose rate hangs on it
abbrev pub rate_by_end : ℕ → ℕ → ℕ → DateNumbers → Option DateNumbers → ℕ
rate_by_end short middle long day None = long
rate_by_end short middle long day (Some end) = if is_up_to end day 2 then short else if is_up_to end day 5 then middle else long

abbrev pub rate : ScheduleClass → DateNumbers → Option DateNumbers → ℕ
rate class.Rates day end = rate_by_end 1 2 4 day end
rate class.Credit day end = rate_by_end 2 5 10 day end
rate class.Equity day end = 15
rate class.Commodity day end = 15
rate class.Fx day end = 6
rate class.Other day end = 15

-- ---- the gross margin, in cents

-- a notional's part, upwards to the cent
abbrev pub charge : DateNumbers → ScheduleRow → ℤ
charge day row = up (pos (unsigned_abs row.amount * rate row.class day row.end)) (pos 100)

abbrev pub is_notional_of : ScheduleClass → ScheduleRow → Bool
is_notional_of c row = same_class row.class c && is_notional row.kind

abbrev pub gross_of : DateNumbers → List ScheduleRow → ScheduleClass → ℤ
gross_of day rows c = total_by (charge day) (filter (is_notional_of c) rows)

abbrev pub gross : DateNumbers → List ScheduleRow → ℤ
gross day rows =
    gross_of day rows class.Rates +ℤ gross_of day rows class.Credit +ℤ gross_of day rows class.Equity
    +ℤ gross_of day rows class.Commodity +ℤ gross_of day rows class.Fx +ℤ gross_of day rows class.Other

-- ---- the replacement cost, in cents

abbrev pub present_values : List ScheduleRow → List ScheduleRow
present_values rows = filter (λ row. not (is_notional row.kind)) rows

abbrev pub gross_cost : List ScheduleRow → ℤ
gross_cost rows = total_by (λ row. int_max row.amount (pos 0)) (present_values rows)

abbrev pub present_value : List ScheduleRow → ℤ
present_value rows = total_by (λ row. row.amount) (present_values rows)

abbrev pub net_cost : List ScheduleRow → ℤ
net_cost rows = int_max (present_value rows) (pos 0)

-- ---- the margin

-- 0.4 of the gross margin, and 0.6 of it times net over gross cost
abbrev pub ratio_of : ℤ → ℤ → ℤ → ℤ
ratio_of gross net_cost gross_cost = up (gross *ℤ (pos 4 *ℤ gross_cost +ℤ pos 6 *ℤ net_cost)) (pos 10 *ℤ gross_cost)

-- all of it where no cost is positive
abbrev pub margin_of : ℤ → ℤ → ℤ → ℤ
margin_of gross net_cost gross_cost =
    if unsigned_abs gross_cost == 0 then gross else ratio_of gross net_cost gross_cost

-- ---- the range

abbrev pub sizes : List ScheduleRow → ℕ
sizes rows = sum_by (λ row. unsigned_abs row.amount) rows

abbrev pub most_sizes : ℕ
most_sizes = 10 ^ 17
