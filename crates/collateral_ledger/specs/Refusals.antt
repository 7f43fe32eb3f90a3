-- Why a change is refused: the first reason in the order of the tests, where there is one.
use Rattle.std.specs.Prelude.{ℕ, ◌^◌, ◌≡◌, List, length, Bool, ◌&&◌, not, nat_le, Option, Some, None, is_some, if◌then◌else◌, ℤ, pos, int_le}
use Rattle.csa_terms.specs.Terms.{haircut_of}
use Rattle.collateral_ledger.specs.declared.fault.LedgerFault.{LedgerFault}
use Rattle.collateral_ledger.specs.declared.fault.LedgerFault.TheVariants as fault
use Rattle.collateral_ledger.specs.Holdings.{Lot, Holdings}
use Rattle.collateral_ledger.specs.Changes.{has_lot, has_call}

-- a fault's own number among the faults of a ledger; want of memory has none
abbrev pub ledger_fault_number : LedgerFault → Option ℕ
ledger_fault_number fault.LotKnown = Some 1
ledger_fault_number fault.LotUnknown = Some 2
ledger_fault_number fault.ClassUnknown = Some 3
ledger_fault_number fault.CallUnknown = Some 4
ledger_fault_number (fault.LotRange value) = Some 5
ledger_fault_number (fault.LotsFull count) = Some 6
ledger_fault_number fault.Memory = None

-- from 0 to ten thousand billion dollars, in cents
abbrev pub is_lot_value : ℤ → Bool
is_lot_value value = int_le (pos 0) value && int_le value (pos (10 ^ 15))

-- 4,096 lots are there
abbrev pub is_full : List Lot → Bool
is_full lots = nat_le 4096 (length lots)

abbrev pub put_refusal : Holdings → List ℕ → List ℕ → ℤ → Option LedgerFault
put_refusal holdings lot class value =
    if has_lot lot holdings.lots then Some fault.LotKnown
    else (if not (is_some (haircut_of holdings.terms class)) then Some fault.ClassUnknown
    else (if not (is_lot_value value) then Some (fault.LotRange value)
    else (if is_full holdings.lots then Some (fault.LotsFull 4096) else None)))

abbrev pub take_refusal : Holdings → List ℕ → Option LedgerFault
take_refusal holdings lot = if has_lot lot holdings.lots then None else Some fault.LotUnknown

abbrev pub mark_refusal : Holdings → List ℕ → ℤ → Option LedgerFault
mark_refusal holdings lot value =
    if not (has_lot lot holdings.lots) then Some fault.LotUnknown
    else (if not (is_lot_value value) then Some (fault.LotRange value) else None)

abbrev pub close_refusal : Holdings → ℕ → Option LedgerFault
close_refusal holdings number = if has_call number holdings.calls then None else Some fault.CallUnknown

-- a fault is the reason to refuse, and want of memory comes only where there is none
abbrev pub IsCause : Option LedgerFault → LedgerFault → Type 0
IsCause refusal fault.Memory = refusal ≡ None
IsCause refusal cause = refusal ≡ Some cause
