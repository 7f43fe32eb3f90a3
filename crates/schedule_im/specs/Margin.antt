-- The margin of a portfolio under the schedule with its parts, or that its amounts are too large.
use Rattle.std.specs.Prelude.{◌≡◌, ◌≤◌, ◌*◌, ◌^◌, true, List, length, nat_lt, Result, Ok, Err, ℤ, pos, ◌≤ℤ◌, ◌+ℤ◌, unsigned_abs, if◌then◌else◌}
use Rattle.std.specs.List.{list_all}
use Rattle.iso_dates.specs.declared.date.DateNumbers.{DateNumbers}
use Rattle.schedule_im.specs.declared.class.ScheduleClass.{ScheduleClass}
use Rattle.schedule_im.specs.declared.class.ScheduleClass.TheVariants as class
use Rattle.schedule_im.specs.declared.gross.ClassGross.{ClassGross}
use Rattle.schedule_im.specs.declared.margin.ScheduleMargin.{ScheduleMargin}
use Rattle.schedule_im.specs.declared.margin.ScheduleRange.{ScheduleRange}
use Rattle.schedule_im.specs.declared.row.ScheduleRow.{ScheduleRow}
use Rattle.schedule_im.specs.Parts.{is_ended}
use Rattle.schedule_im.specs.Rule.{gross_of, gross, net_cost, gross_cost, margin_of, sizes, most_sizes}

-- at most 100,000 rows, with an end on each notional whose rate hangs on it
pub record AreScheduled (rows : List ScheduleRow) : Type 0 where
  pub few : length rows ≤ 100000
  pub ended : list_all is_ended rows ≡ true

-- the gross margin of a class, or a cost: not more than all amounts
pub record IsShare (cents : ℤ) : Type 0 where
  pub low : pos 0 ≤ℤ cents
  pub size : unsigned_abs cents ≤ most_sizes

-- a gross margin or a cost of amounts in range
pub record IsPart (cents : ℤ) : Type 0 where
  pub low : pos 0 ≤ℤ cents
  pub size : unsigned_abs cents ≤ 6 * 10 ^ 17

-- the gross margin of each class is at most as large as all amounts
pub record AreParts (classes : ClassGross) : Type 0 where
  pub rates : IsShare classes.rates
  pub credit : IsShare classes.credit
  pub equity : IsShare classes.equity
  pub commodity : IsShare classes.commodity
  pub fx : IsShare classes.fx
  pub other : IsShare classes.other

-- the gross margin of a class
abbrev pub class_gross : ClassGross → ScheduleClass → ℤ
class_gross classes class.Rates = classes.rates
class_gross classes class.Credit = classes.credit
class_gross classes class.Equity = classes.equity
class_gross classes class.Commodity = classes.commodity
class_gross classes class.Fx = classes.fx
class_gross classes class.Other = classes.other

abbrev pub class_total : ClassGross → ℤ
class_total classes =
    classes.rates +ℤ classes.credit +ℤ classes.equity +ℤ classes.commodity +ℤ classes.fx +ℤ classes.other

abbrev pub gross_by_class : DateNumbers → List ScheduleRow → ClassGross
gross_by_class day rows = record {
  rates = gross_of day rows class.Rates;
  credit = gross_of day rows class.Credit;
  equity = gross_of day rows class.Equity;
  commodity = gross_of day rows class.Commodity;
  fx = gross_of day rows class.Fx;
  other = gross_of day rows class.Other;
}

abbrev pub margin_by_rule : DateNumbers → List ScheduleRow → ScheduleMargin
margin_by_rule day rows = record {
  classes = gross_by_class day rows;
  gross = gross day rows;
  net_cost = net_cost rows;
  gross_cost = gross_cost rows;
  margin = margin_of (gross day rows) (net_cost rows) (gross_cost rows);
}

-- where the sizes of all amounts come to at most ten to the 17th cents
unfoldable pub schedule_margin : List ScheduleRow → DateNumbers → Result ScheduleMargin ScheduleRange
schedule_margin rows day =
    if nat_lt most_sizes (sizes rows) then Err (record { value = pos (sizes rows) }) else Ok (margin_by_rule day rows)
