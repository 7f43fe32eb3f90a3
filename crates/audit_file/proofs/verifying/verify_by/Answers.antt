use Rattle.std.proofs.Common.{◌+◌, ◌∷◌, [], ap, ◌∙◌}
use Rattle.mh_io.specs.Lines.{Whole}
use Rattle.audit_file.proofs.Readings.{goes_on, line_ends, lines_stop, answers, fault_answers, stopped_short}
use Rattle.audit_file.proofs.verifying.verify_by.Goals as goal

pub loop-lines-preserved : goal.loop-lines-preserved
loop-lines-preserved g c =
    let rule = g.M.Replay.rule (g.M.Replay.base c.args.machine.now) in
    let given = rw c.in-Ok-Line.field-0-is at c.in-Ok-Line.ensures.gave in
    let steps = rw (c.as_slice.ensures, c.loop-lines.invariant.base) at c.in-Ok.ensures.steps in
    record {
      comes = goes_on g.S.Source.seen rule c.args.names.now c.given-n.result c.next_line.new.line c.loop-lines.invariant.comes given c.given-n.ensures.value steps;
      sound = rw c.given-n.ensures.value at c.in-Ok.ensures.sound;
      base = c.in-Ok.ensures.base ∙ c.loop-lines.invariant.base;
    }

pub returns-in-Err-Ends : goal.returns-in-Err-Ends
returns-in-Err-Ends g c =
    let rule = g.M.Replay.rule (g.M.Replay.base c.args.machine.now) in
    let given = rw c.in-Ok-Line.field-0-is at c.in-Ok-Line.ensures.gave in
    let ends = rw c.in-Err-Ends.field-0-is at c.in-Err-Ends.ensures.steps in
    let steps = rw (c.as_slice.ensures, c.loop-lines.invariant.base) at ends in
    rw c.in-Err-Ends.answer-is (answers g.S.Source.seen rule c.args.names.now c.in-Err-Ends.answer
    (line_ends g.S.Source.seen rule c.args.names.now c.given-n.result c.next_line.new.line c.in-Err-Ends.answer c.loop-lines.invariant.comes given c.given-n.ensures.value steps))

pub returns-in-Ok-End : goal.returns-in-Ok-End
returns-in-Ok-End g c =
    let rule = g.M.Replay.rule (g.M.Replay.base c.args.machine.now) in
    let given = rw c.in-Ok-End.field-0-is at c.in-Ok-End.ensures.gave in
    let over = rw c.in-Ok-End.field-0-is at c.in-Ok-End.ensures.comes in
    rw (c.at_end.ensures, c.given.ensures.value) (answers g.S.Source.seen rule c.args.names.now _ (lines_stop g.S.Source.seen rule c.args.names.now Whole c.loop-lines.invariant.comes given over))

pub returns-in-Err : goal.returns-in-Err
returns-in-Err g c =
    rw c.line_fault.ensures (fault_answers g.S.Source.seen (g.M.Replay.rule (g.M.Replay.base c.args.machine.now)) c.args.names.now c.in-Err.fault _ c.loop-lines.invariant.comes c.in-Err.ensures.gave c.in-Err.ensures.comes (ap (λ n. n + 1) c.given-in-Err.ensures.value))

pub returns-in-Err-Memory : goal.returns-in-Err-Memory
returns-in-Err-Memory g c =
    let given = rw c.in-Ok-Line.field-0-is at c.in-Ok-Line.ensures.gave in
    stopped_short g.S.Source.seen (g.M.Replay.rule (g.M.Replay.base c.args.machine.now)) c.args.names.now (c.next_line.new.line ∷ []) c.loop-lines.invariant.comes given
