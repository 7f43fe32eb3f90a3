use Rattle.std.proofs.Common.{inl, inr, sym}
use Rattle.margin_verify.proofs.CompleteLemmas.{verifies_well}
use Rattle.margin_verify.proofs.command.verify.Goals as goal

pub returns-in-Ok-clause-ends : goal.returns-in-Ok-clause-ends
returns-in-Ok-clause-ends g c =
    inl (record { agreements = c.in-Ok.judged.terms; v = c.in-Ok.judged.verdict; verified = c.in-Ok.ensures.ends; printed = c.print_verdict.ensures.printed })

pub returns-in-Ok-clause-complete : goal.returns-in-Ok-clause-complete
returns-in-Ok-clause-complete g c w =
    verifies_well w c.print_verdict.result
    (inl (record { agreements = c.in-Ok.judged.terms; v = c.in-Ok.judged.verdict; verified = c.in-Ok.ensures.ends; printed = c.print_verdict.ensures.printed }))

pub returns-in-Err-clause-ends : goal.returns-in-Err-clause-ends
returns-in-Err-clause-ends g c =
    inr (record { f = c.in-Err.fault; cause = c.in-Err.ensures.ends; status = sym c.end_at_fault.ensures.status; printed = c.end_at_fault.ensures.printed })

pub returns-in-Err-clause-complete : goal.returns-in-Err-clause-complete
returns-in-Err-clause-complete g c w =
    verifies_well w c.end_at_fault.result
    (inr (record { f = c.in-Err.fault; cause = c.in-Err.ensures.ends; status = sym c.end_at_fault.ensures.status; printed = c.end_at_fault.ensures.printed }))
