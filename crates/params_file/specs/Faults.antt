-- The faults of a parameter file: their numbers, and what a reader answers beside what the grammar gives.
use Rattle.std.specs.Prelude.{◌≡◌, ℕ, Bool, true, false, Option, Some, None, Result, Ok, Err}
use Rattle.std.specs.Result.{result_map_both}
use Rattle.simm_params.specs.TomlValues.declared.fault.ValueFault.{ValueFault}
use Rattle.simm_params.specs.TomlValues.declared.fault.ValueFault.TheVariants as value
use Rattle.simm_params.specs.TomlValues.Answers.{Unless, Answers}
use Rattle.params_file.specs.declared.fault.ParamFault.{ParamFault}
use Rattle.params_file.specs.declared.fault.ParamFault.TheVariants as fault

-- a fault's number in print; want of memory has none
abbrev pub param_fault_number : ParamFault → Option ℕ
param_fault_number fault.Toml = Some 1
param_fault_number (fault.Missing path) = Some 2
param_fault_number (fault.BadNumber path) = Some 3
param_fault_number (fault.OutOfRange path n) = Some 4
param_fault_number (fault.NotSymmetric path) = Some 5
param_fault_number (fault.ThinThreshold path weight threshold) = Some 6
param_fault_number fault.Memory = None

-- the fault of the file at a value's fault
abbrev pub fault_of_value : ValueFault → ParamFault
fault_of_value (value.Missing path) = fault.Missing path
fault_of_value (value.BadNumber path) = fault.BadNumber path
fault_of_value (value.OutOfRange path n) = fault.OutOfRange path n
fault_of_value value.Memory = fault.Memory

abbrev pub of_value : {A : Type 0} → Result A ValueFault → Result A ParamFault
of_value read = result_map_both (λ x. x) fault_of_value read

abbrev pub is_memory : ParamFault → Bool
is_memory fault.Memory = true
is_memory _ = false

-- What is answered, seen by view, is what the grammar gives, unless memory ran out.
abbrev pub Gives : {X Y : Type 0} → (X → Y) → Result X ParamFault → Result Y ParamFault → Type 0
Gives view answer read = Answers is_memory view answer read

-- What was found, or that there is nothing, unless memory ran out.
abbrev pub Finds : {A : Type 0} → Result A ParamFault → Option A → Type 0
Finds (Ok x) found = found ≡ Some x
Finds (Err e) found = Unless (is_memory e) (found ≡ None)
