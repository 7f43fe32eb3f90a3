-- The printed text of a reply: fields parted by one tab, without the end of the line.
use Rattle.std.specs.Prelude.{ℕ, List, [], ◌++◌, codes, decimal, ℤ}
use Rattle.std.specs.Fmt.{signed_decimal}
use Rattle.collateral_ledger.specs.MhUnits.Money.{money_text}
use Rattle.bucket_cache.specs.SimmRules.RangeNumber.{range_number}
use Rattle.collateral_ledger.specs.CsaTerms.Moments.{day_text}
use Rattle.collateral_ledger.specs.CsaTerms.declared.flow.Flow.{Flow}
use Rattle.collateral_ledger.specs.CsaTerms.declared.flow.Flow.TheVariants as flow
use Rattle.set_core.specs.declared.call_note.CallNote.{CallNote}
use Rattle.set_core.specs.declared.reply.Reply.{Reply}
use Rattle.set_core.specs.declared.reply.Reply.TheVariants as reply
use Rattle.set_core.specs.declared.refusal.Refusal.{Refusal}
use Rattle.set_core.specs.declared.refusal.Refusal.TheVariants as refusal

-- the number of each refusal
abbrev pub refusal_number : Refusal → ℕ
refusal_number (refusal.UnknownTrade place) = 1
refusal_number (refusal.BucketUnknown trade row) = 2
refusal_number (refusal.Range f) = 3
refusal_number refusal.LotKnown = 4
refusal_number refusal.LotUnknown = 5
refusal_number refusal.ClassUnknown = 6
refusal_number refusal.CallUnknown = 7
refusal_number (refusal.LotRange value) = 8
refusal_number (refusal.LotsFull count) = 9
refusal_number (refusal.DayRange day) = 10

-- what follows a refusal's number: a place; the places of a trade and of its row; a kind, a value and a limit as whole numbers; an amount; a count; a day's number
abbrev pub refusal_fields : Refusal → List ℕ
refusal_fields (refusal.UnknownTrade place) = codes "\t" ++ decimal place
refusal_fields (refusal.BucketUnknown trade row) = codes "\t" ++ decimal trade ++ codes "\t" ++ decimal row
refusal_fields (refusal.Range f) =
    codes "\t" ++ decimal (range_number f.which) ++ codes "\t" ++ signed_decimal f.value ++ codes "\t" ++ signed_decimal f.limit
refusal_fields (refusal.LotRange value) = codes "\t" ++ money_text value
refusal_fields (refusal.LotsFull count) = codes "\t" ++ decimal count
refusal_fields (refusal.DayRange day) = codes "\t" ++ signed_decimal day
refusal_fields _ = []

abbrev pub refusal_text : Refusal → List ℕ
refusal_text why = codes "REFUSED\t" ++ decimal (refusal_number why) ++ refusal_fields why

abbrev pub flow_text : Flow → List ℕ
flow_text flow.Delivery = codes "DELIVERY"
flow_text flow.Return = codes "RETURN"

-- the margin, and what was booked
abbrev pub basis_text : ℤ → ℤ → List ℕ
basis_text margin booked = codes "\t" ++ money_text margin ++ codes "\t" ++ money_text booked

-- a call's number, and its amount
abbrev pub call_text : CallNote → List ℕ
call_text note = flow_text note.flow ++ codes "\t" ++ decimal note.number ++ codes "\t" ++ money_text note.amount

-- then the day on which it is due, the margin, and what was booked
abbrev pub note_text : CallNote → List ℕ
note_text note = call_text note ++ (codes "\t" ++ day_text note.due) ++ basis_text note.margin note.booked

-- of a margin its total alone
abbrev pub reply_text : Reply → List ℕ
reply_text reply.Accepted = codes "OK"
reply_text (reply.Refused why) = refusal_text why
reply_text (reply.Margin b) = codes "MARGIN\t" ++ money_text b.total.0
reply_text (reply.Called note) = note_text note
reply_text (reply.NoCall excess margin booked) =
    codes "NOCALL\t" ++ money_text excess ++ basis_text margin booked
