use Rattle.audit_file.proofs.EventsTold.{event_holds, event_writes}
use Rattle.audit_file.proofs.law.events_can_be_told.Goals as goal

pub returns-clause-holds : goal.returns-clause-holds
returns-clause-holds c = event_holds

pub returns-clause-writes : goal.returns-clause-writes
returns-clause-writes c = event_writes
