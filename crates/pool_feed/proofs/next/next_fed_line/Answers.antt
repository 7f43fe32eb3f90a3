use Rattle.std.proofs.Common.{Ok, ap, ◌∙◌}
use Rattle.pool_feed.specs.Requests.{request_of}
use Rattle.pool_feed.proofs.FedAnswers.{line_answer, end_answer, faulted}
use Rattle.pool_feed.proofs.next.next_fed_line.Goals as goal

pub returns-in_err-skip_to_line-clause-answers : goal.returns-in_err-skip_to_line-clause-answers
returns-in_err-skip_to_line-clause-answers g c =
    faulted g.S.Source.seen c.args.lines.now c.skip_to_line.new.lines c.skip_to_line.new.line c.in_err-skip_to_line.field-0.0 c.from_residual.result c.from_residual.ensures.1
    c.in_err-skip_to_line.ensures.skips c.in_err-skip_to_line.ensures.comes

pub returns-in-Line-clause-answers : goal.returns-in-Line-clause-answers
returns-in-Line-clause-answers g c =
    line_answer g.S.Source.seen c.args.lines.now c.skip_to_line.new.lines c.skip_to_line.new.line c.given.result c.read_request.result
    (rw c.in-Line.is at c.in_ok-skip_to_line.ensures.skips)
    (c.in_ok-skip_to_line.ensures.full (ap (λ step. Ok step) c.in-Line.is))
    c.given.ensures.value (c.read_request.ensures.value ∙ ap request_of c.as_slice.ensures)

pub returns-in-End-clause-answers : goal.returns-in-End-clause-answers
returns-in-End-clause-answers g c =
    end_answer g.S.Source.seen c.args.lines.now c.skip_to_line.new.lines c.skip_to_line.new.line
    (rw c.in-End.is at c.in_ok-skip_to_line.ensures.skips) (rw c.in-End.is at c.in_ok-skip_to_line.ensures.comes)
