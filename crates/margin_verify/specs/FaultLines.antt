-- The line of an audit file that has no verdict.
use Rattle.std.specs.Prelude.{ℕ, List, ◌++◌, codes, decimal}
use Rattle.fault_text.specs.Fields.{field, last_field, fault_line}
use Rattle.audit_file.specs.declared.answer.AuditFault.{AuditFault}
use Rattle.audit_file.specs.declared.answer.AuditFault.TheVariants as fault
use Rattle.audit_file.specs.Faults.{audit_fault_number}

-- the number of a fault, and its line, its set and entry, or how many bytes were taken
abbrev pub audit_fields : ℕ → AuditFault → List ℕ
audit_fields code (fault.NotAudit line) = field (decimal code) ++ last_field (decimal line)
audit_fields code (fault.Full set entry) = field (decimal code) ++ field (decimal set) ++ last_field (decimal entry)
audit_fields code (fault.Long line) = field (decimal code) ++ last_field (decimal line)
audit_fields code (fault.TooLong taken) = field (decimal code) ++ last_field (decimal taken)
audit_fields code fault.ReadFault = last_field (decimal code)
audit_fields code fault.Memory = last_field (decimal code)

abbrev pub audit_line : AuditFault → List ℕ
audit_line f = fault_line (codes "AUDIT") (audit_fault_number f) (λ code. audit_fields code f)
