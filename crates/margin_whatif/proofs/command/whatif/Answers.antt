use Rattle.std.proofs.Common.{inl, inr, sym, subst}
use Rattle.margin_whatif.specs.Words.{words_in}
use Rattle.margin_whatif.specs.WhatIf.{HasWhatIf}
use Rattle.margin_whatif.proofs.Complete.{ends_well}
use Rattle.margin_whatif.proofs.command.whatif.Goals as goal

pub returns-in-Ok-clause-ends : goal.returns-in-Ok-clause-ends
returns-in-Ok-clause-ends g c =
    let files = c.args.files in
    inl (record { text = c.as_slice.result.now; has = subst (HasWhatIf files.params.now files.crif.now files.candidate.now (words_in files.names.now) _ _) (sym c.as_slice.ensures) c.in-Ok.ensures.ends; printed = c.print_text.ensures.printed })

pub returns-in-Ok-clause-complete : goal.returns-in-Ok-clause-complete
returns-in-Ok-clause-complete g c w =
    let files = c.args.files in
    ends_well files.params.now files.crif.now files.candidate.now (words_in files.names.now) _ _ _ _ c.print_text.result
    (inl (record { text = c.as_slice.result.now; has = subst (HasWhatIf files.params.now files.crif.now files.candidate.now (words_in files.names.now) _ _) (sym c.as_slice.ensures) c.in-Ok.ensures.ends; printed = c.print_text.ensures.printed })) w

pub returns-in-Err-clause-ends : goal.returns-in-Err-clause-ends
returns-in-Err-clause-ends g c =
    inr (record { f = c.in-Err.fault; cause = c.in-Err.ensures.ends; status = sym c.end_at_fault.ensures.status; printed = c.end_at_fault.ensures.printed })

pub returns-in-Err-clause-complete : goal.returns-in-Err-clause-complete
returns-in-Err-clause-complete g c w =
    let files = c.args.files in
    ends_well files.params.now files.crif.now files.candidate.now (words_in files.names.now) _ _ _ _ c.end_at_fault.result
    (inr (record { f = c.in-Err.fault; cause = c.in-Err.ensures.ends; status = sym c.end_at_fault.ensures.status; printed = c.end_at_fault.ensures.printed })) w
