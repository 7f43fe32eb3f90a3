-- The number of each fault of an audit file, in print. Want of memory has none.
use Rattle.std.specs.Prelude.{ℕ, Option, Some, None}
use Rattle.audit_file.specs.declared.answer.AuditFault.{AuditFault}
use Rattle.audit_file.specs.declared.answer.AuditFault.TheVariants as fault

abbrev pub audit_fault_number : AuditFault → Option ℕ
audit_fault_number (fault.NotAudit line) = Some 1
audit_fault_number (fault.Full set entry) = Some 2
audit_fault_number (fault.Long line) = Some 3
audit_fault_number (fault.TooLong taken) = Some 4
audit_fault_number fault.ReadFault = Some 5
audit_fault_number fault.Memory = None
