-- The row of a record of the schedule: its tests in order, the first fault ends them.
use Rattle.std.specs.Prelude.{◌≡◌, ℕ, List, length, true, ◌&&◌, nat_lt, ℤ, codes, ok_or, Option, Some, None, option_map, Result, Ok, Err, if◌then◌else◌}
use Rattle.std.specs.List.{find}
use Rattle.std.specs.Result.{result_map_both}
use Rattle.crif_records.specs.Binds.{◌>>=◌}
use Rattle.crif_records.specs.Fields.{usd_text}
use Rattle.crif_records.specs.MhUnits.Numeral.{cents_of}
use Rattle.crif_records.specs.SimmKinds.NameText.{is_full_name, IsName}
use Rattle.crif_records.specs.SimmKinds.Words.{is_word}
use Rattle.schedule_im.specs.IsoDates.declared.date.DateNumbers.{DateNumbers}
use Rattle.schedule_im.specs.declared.class.ScheduleClass.{ScheduleClass}
use Rattle.schedule_im.specs.declared.class.ScheduleKind.{ScheduleKind}
use Rattle.schedule_im.specs.declared.class.ScheduleKind.TheVariants as kind
use Rattle.schedule_im.specs.declared.row.ScheduleRow.{ScheduleRow}
use Rattle.schedule_im.specs.Classes.{class_word, each_class, is_notional}
use Rattle.schedule_im.specs.EndDates.{end_date_of}
use Rattle.schedule_im.specs.Parts.{hangs_on_end, has_end}
use Rattle.schedule_reader.specs.declared.columns.Columns.{Columns}
use Rattle.schedule_reader.specs.declared.fault.ScheduleRowFault.{ScheduleRowFault}
use Rattle.schedule_reader.specs.declared.fault.ScheduleRowFault.TheVariants as fault
use Rattle.schedule_reader.specs.declared.row.Entry.{Entry}
use Rattle.schedule_reader.specs.Fields.{Texts, texts_of, are_text}

-- ---- its parts

abbrev pub kind_of : Texts → Result ScheduleKind ScheduleRowFault
kind_of t =
    if is_word (codes "Notional") t.risk_type then Ok kind.Notional
    else if is_word (codes "PV") t.risk_type then Ok kind.Pv
    else Err fault.RiskType

abbrev pub trade_of : Texts → Result (List ℕ) ScheduleRowFault
trade_of t = if is_full_name t.trade_id then Ok t.trade_id else Err fault.Trade

abbrev pub class_named : List ℕ → Option ScheduleClass
class_named text = find (λ class. is_word (class_word class) text) each_class

abbrev pub class_of : Texts → Result ScheduleClass ScheduleRowFault
class_of t = ok_or (class_named t.product_class) fault.Class

-- in cents
abbrev pub amount_of : Texts → Result ℤ ScheduleRowFault
amount_of t =
    result_map_both (λ cents. cents.0) (λ e. fault.Amount e) (cents_of (usd_text t.amount_usd t.amount_currency t.amount))

-- the end is read on a notional whose rate hangs on it
abbrev pub end_of : ScheduleClass → ScheduleKind → Texts → Result (Option DateNumbers) ScheduleRowFault
end_of class kind t =
    if is_notional kind && hangs_on_end class
    then ok_or (option_map (λ end. Some end) (end_date_of t.end_date)) fault.EndDate else Ok None

unfoldable pub scheduled_of : Texts → Result ScheduleRow ScheduleRowFault
scheduled_of t = do
  kind ← kind_of t
  trade ← trade_of t
  class ← class_of t
  amount ← amount_of t
  end ← end_of class kind t
  Ok (record { trade = trade; class = class; kind = kind; amount = amount; end = end })

-- ---- the way of a record

-- a record of another margin model is passed over
abbrev pub model_of : Texts → Result (Option ScheduleRow) ScheduleRowFault
model_of t = if is_word (codes "Schedule") t.im_model then (scheduled_of t >>= λ row. Ok (Some row)) else Ok None

abbrev pub text_row_of : Texts → Result (Option ScheduleRow) ScheduleRowFault
text_row_of t = if are_text t then model_of t else Err fault.NotUtf8

-- a record has at most as many fields as the header
abbrev pub row_of : Columns → List (List ℕ) → Result (Option ScheduleRow) ScheduleRowFault
row_of columns fields =
    if nat_lt columns.count (length fields) then Err fault.FieldCount else text_row_of (texts_of columns fields)

-- ---- a row as it is read

abbrev pub entry_row : Entry → ScheduleRow
entry_row e = record { trade = e.trade.now; class = e.class; kind = e.kind; amount = e.amount; end = e.end }

pub record IsGoodEntry (e : Entry) : Type 0 where
  pub name : IsName e.trade.now
  pub ended : has_end e.class e.kind e.end ≡ true
