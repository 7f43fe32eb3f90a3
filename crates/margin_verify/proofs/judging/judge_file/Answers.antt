use Rattle.std.proofs.Common.{ap, map, Ok, Err, sym, subst}
use Rattle.audit_file.specs.Replays.{rule_of}
use Rattle.audit_file.specs.Verdict.{Answers}
use Rattle.margin_verify.proofs.Judgings.{not_found, verdict_means, counts_kept, untouched, has_verdict, no_verdict}
use Rattle.margin_verify.proofs.judging.judge_file.Goals as goal

pub returns-in_err-source-clause-ends : goal.returns-in_err-source-clause-ends
returns-in_err-source-clause-ends g c =
    not_found g.row.F-Src.Denot c.args.inputs.now.params c.args.inputs.now.terms _ _ c.args.name.now c.in_err-source.field-0.0 c.from_residual.result c.from_residual.ensures.1 c.in_err-source.ensures.told (λ e. c.in_err-source.ensures.failed (ap Err e))

pub returns-in-Err-clause-counts : goal.returns-in-Err-clause-counts
returns-in-Err-clause-counts g c =
    counts_kept g.F.Src.Source.seen c.args.inputs.now.params c.args.inputs.now.terms _ _ _ c.args.name.now c.in_ok-source.source c.in-Err.memory.back c.in_ok-source.ensures c.done.ensures

pub returns-in-Err-clause-ends : goal.returns-in-Err-clause-ends
returns-in-Err-clause-ends g c =
    untouched g.F.Src.Source.seen c.args.inputs.now.params c.args.inputs.now.terms _ _ _ c.args.name.now c.in_ok-source.source c.in-Err.memory.back c.in_ok-source.ensures c.done.ensures c.in-Err.ensures.memory

pub returns-in-Ok-answer-clause-counts : goal.returns-in-Ok-answer-clause-counts
returns-in-Ok-answer-clause-counts g c =
    counts_kept g.F.Src.Source.seen c.args.inputs.now.params c.args.inputs.now.terms _ _ _ c.args.name.now c.in_ok-source.source c.give_back.result c.in_ok-source.ensures c.done-2.ensures

pub returns-in-Ok-answer-clause-ends : goal.returns-in-Ok-answer-clause-ends
returns-in-Ok-answer-clause-ends g c =
    let seen = g.F.Src.Source.seen in
    let p = c.args.inputs.now.params in
    let agreements = c.args.inputs.now.terms in
    let last = c.verify-answer.new.lines in
    let v = c.in-Ok-answer.verdict in
    has_verdict seen p agreements _ _ _ c.args.name.now c.in_ok-source.source c.give_back.result c.in_ok-source.ensures c.done-2.ensures last (sym c.give_back.ensures) v
    (λ taken ended. verdict_means c.yes_means_legal.ensures.legal c.yes_means_legal.ensures.sets p agreements taken ended v)
    (subst (λ first. Answers seen (rule_of (record { params = p; terms = agreements })) (map (λ t. t.collect.name) agreements) first last (Ok v)) c.in-Ok.ensures.ok c.in-Ok-answer.ensures)

pub returns-in-Err-answer-clause-counts : goal.returns-in-Err-answer-clause-counts
returns-in-Err-answer-clause-counts g c =
    counts_kept g.F.Src.Source.seen c.args.inputs.now.params c.args.inputs.now.terms _ _ _ c.args.name.now c.in_ok-source.source c.give_back.result c.in_ok-source.ensures c.done-2.ensures

pub returns-in-Err-answer-clause-ends : goal.returns-in-Err-answer-clause-ends
returns-in-Err-answer-clause-ends g c =
    let seen = g.F.Src.Source.seen in
    let p = c.args.inputs.now.params in
    let agreements = c.args.inputs.now.terms in
    let last = c.verify-answer.new.lines in
    let f = c.in-Err-answer.fault in
    no_verdict seen p agreements _ _ _ c.args.name.now c.in_ok-source.source c.give_back.result c.in_ok-source.ensures c.done-2.ensures last (sym c.give_back.ensures) f
    (subst (λ first. Answers seen (rule_of (record { params = p; terms = agreements })) (map (λ t. t.collect.name) agreements) first last (Err f)) c.in-Ok.ensures.ok c.in-Err-answer.ensures)
    c.file_fault.result c.file_fault.ensures
