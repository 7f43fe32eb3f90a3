-- What each row adds to the sums of the rule, row by row.
use Rattle.std.specs.Prelude.{Bool, ◌&&◌, ◌||◌, not, is_some, Option, ℤ, pos, if◌then◌else◌}
use Rattle.std.specs.Int.{int_max}
use Rattle.iso_dates.specs.declared.date.DateNumbers.{DateNumbers}
use Rattle.schedule_im.specs.declared.class.ScheduleClass.{ScheduleClass}
use Rattle.schedule_im.specs.declared.class.ScheduleClass.TheVariants as class
use Rattle.schedule_im.specs.declared.class.ScheduleKind.{ScheduleKind}
use Rattle.schedule_im.specs.declared.row.ScheduleRow.{ScheduleRow}
use Rattle.schedule_im.specs.Classes.{same_class, is_notional}
use Rattle.schedule_im.specs.Rule.{charge, is_notional_of}

-- the rate of the class hangs on the end
abbrev pub hangs_on_end : ScheduleClass → Bool
hangs_on_end c = same_class c class.Rates || same_class c class.Credit

-- and then a notional has one
abbrev pub has_end : ScheduleClass → ScheduleKind → Option DateNumbers → Bool
has_end c kind end = not (is_notional kind && hangs_on_end c) || is_some end

abbrev pub is_ended : ScheduleRow → Bool
is_ended row = has_end row.class row.kind row.end

-- to the gross margin of a class
abbrev pub share : DateNumbers → ScheduleClass → ScheduleRow → ℤ
share day c row = if is_notional_of c row then charge day row else pos 0

-- to the sum of present values, and of those that are positive
abbrev pub cost : ScheduleRow → ℤ
cost row = if is_notional row.kind then pos 0 else row.amount

abbrev pub gain : ScheduleRow → ℤ
gain row = int_max (cost row) (pos 0)
