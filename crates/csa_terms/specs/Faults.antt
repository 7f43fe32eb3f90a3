-- The faults of a terms file: their numbers, and what a reader answers beside what the grammar gives.
use Rattle.std.specs.Prelude.{ℕ, Bool, true, false, Option, Some, None, Result}
use Rattle.std.specs.Result.{result_map_both}
use Rattle.toml_values.specs.declared.fault.ValueFault.{ValueFault}
use Rattle.toml_values.specs.declared.fault.ValueFault.TheVariants as value
use Rattle.toml_values.specs.Answers.{Answers}
use Rattle.csa_terms.specs.declared.fault.TermsFault.{TermsFault}
use Rattle.csa_terms.specs.declared.fault.TermsFault.TheVariants as fault

-- a fault's number in print; want of memory has none
abbrev pub terms_fault_number : TermsFault → Option ℕ
terms_fault_number fault.Toml = Some 1
terms_fault_number (fault.Missing path) = Some 2
terms_fault_number (fault.BadNumber path) = Some 3
terms_fault_number (fault.OutOfRange path n) = Some 4
terms_fault_number (fault.DuplicateSet name) = Some 5
terms_fault_number (fault.BadDate path) = Some 6
terms_fault_number (fault.TooManySets count) = Some 7
terms_fault_number (fault.BadName path) = Some 8
terms_fault_number fault.Memory = None

-- the fault of the file at a value's fault
abbrev pub fault_of_value : ValueFault → TermsFault
fault_of_value (value.Missing path) = fault.Missing path
fault_of_value (value.BadNumber path) = fault.BadNumber path
fault_of_value (value.OutOfRange path n) = fault.OutOfRange path n
fault_of_value value.Memory = fault.Memory

abbrev pub of_value : {A : Type 0} → Result A ValueFault → Result A TermsFault
of_value read = result_map_both (λ x. x) fault_of_value read

abbrev pub is_memory : TermsFault → Bool
is_memory fault.Memory = true
is_memory _ = false

-- What is answered, seen by view, is what the grammar gives, unless memory ran out.
abbrev pub Gives : {X Y : Type 0} → (X → Y) → Result X TermsFault → Result Y TermsFault → Type 0
Gives view answer read = Answers is_memory view answer read
