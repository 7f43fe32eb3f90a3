-- Lots and calls by their names and numbers, and what a change leaves of them.
use Rattle.std.specs.Prelude.{ℕ, List, Bool, ◌==◌, not, filter, map, ℤ, if◌then◌else◌}
use Rattle.std.specs.List.{list_any}
use Rattle.csa_terms.specs.SimmKinds.Order.{same_name}
use Rattle.collateral_ledger.specs.Holdings.{Lot, Call}

abbrev pub has_lot : List ℕ → List Lot → Bool
has_lot name lots = list_any (λ (lot : Lot). same_name name lot.name) lots

abbrev pub without_lot : List ℕ → List Lot → List Lot
without_lot name lots = filter (λ (lot : Lot). not (same_name name lot.name)) lots

-- the lot of this name has the value, the others stay
abbrev pub with_value : List ℕ → ℤ → List Lot → List Lot
with_value name value lots = map (λ (lot : Lot). if same_name name lot.name then record lot { value = value } else lot) lots

abbrev pub has_call : ℕ → List Call → Bool
has_call number calls = list_any (λ (call : Call). number == call.number) calls

abbrev pub without_call : ℕ → List Call → List Call
without_call number calls = filter (λ (call : Call). not (number == call.number)) calls
