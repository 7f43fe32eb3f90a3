-- The line of a parameter file's fault.
use Rattle.std.specs.Prelude.{ℕ, List, ◌++◌, codes, decimal}
use Rattle.std.specs.Fmt.{signed_decimal}
use Rattle.params_file.specs.declared.fault.ParamFault.{ParamFault}
use Rattle.params_file.specs.declared.fault.ParamFault.TheVariants as params
use Rattle.params_file.specs.Faults.{param_fault_number}
use Rattle.fault_text.specs.Fields.{field, last_field, fault_line}

-- a fault's number, its path, and the value there, or a threshold behind its weight
abbrev pub params_fields : ℕ → ParamFault → List ℕ
params_fields number (params.Missing path) = field (decimal number) ++ last_field path
params_fields number (params.BadNumber path) = field (decimal number) ++ last_field path
params_fields number (params.OutOfRange path value) = field (decimal number) ++ field path ++ last_field (signed_decimal value)
params_fields number (params.ThinThreshold path weight threshold) =
    field (decimal number) ++ field path ++ field (signed_decimal weight) ++ last_field (signed_decimal threshold)
params_fields number (params.NotSymmetric path) = field (decimal number) ++ last_field path
params_fields number params.Toml = last_field (decimal number)
params_fields number params.Memory = last_field (decimal number)

abbrev pub params_fault : ParamFault → List ℕ
params_fault e = fault_line (codes "PARAMS") (param_fault_number e) (λ number. params_fields number e)
