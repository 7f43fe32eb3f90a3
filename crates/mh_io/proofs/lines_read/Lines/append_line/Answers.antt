use Rattle.std.proofs.Common.{◌≡◌, ◌<◌, length, Err, sym, ap, ◌∙◌, subst, arith}
use Rattle.std.proofs.Math.Seq.{drop-append_seam}
use Rattle.std.proofs.lemmas.Bool.Decides.{nat_tests}
use Rattle.std.proofs.lemmas.Result.{err_from_is_err_and}
use Rattle.mh_io.specs.declared.lines_answer.LineFault.{LineFault}
use Rattle.mh_io.specs.Lines.{Whole}
use Rattle.mh_io.specs.Lined.{Lined, IsStopped, answer_at}
use Rattle.mh_io.proofs.LinesGiven.{line_now, last_now, line_wanted, line_not_stopped, same_stop, fault_comes, fault_again, gave_line, gave_last}
use Rattle.mh_io.proofs.LinesStops.{ended_stop, no_bytes}
use Rattle.mh_io.proofs.lines_read.Lines.append_line.Goals as goal

pub returns-in_err-count-clause-comes : goal.returns-in_err-count-clause-comes
returns-in_err-count-clause-comes g c =
    let p = err_from_is_err_and c.from_residual.result c.from_residual.ensures.1 in
    rw (p.1, p.2) (fault_comes c.reach.new.self c.in_err-count.field-0.0 c.in_err-count.ensures.reached)

pub returns-in_err-count-clause-again : goal.returns-in_err-count-clause-again
returns-in_err-count-clause-again g c stop is_stopped =
    let p = err_from_is_err_and c.from_residual.result c.from_residual.ensures.1 in
    let same = c.in_err-count.ensures.again stop is_stopped in
    let here : IsStopped c.reach.new.self stop = subst (λ (h : Lined g.row.S.Denot). IsStopped h stop) (sym same) is_stopped in
    (same, p.1 ∙ (ap (λ (f : LineFault). Err f) p.2 ∙ fault_again c.reach.new.self c.in_err-count.field-0.0 stop c.in_err-count.ensures.reached here))

pub returns-in_err-give_line-in-Line-clause-comes : goal.returns-in_err-give_line-in-Line-clause-comes
returns-in_err-give_line-in-Line-clause-comes g c =
    let p = err_from_is_err_and c.from_residual-in_err-give_line-in-Line.result c.from_residual-in_err-give_line-in-Line.ensures.1 in
    let begins = rw c.in-Line.is at c.in_ok-count.ensures.reached in
    let now = line_now c.reach.new.self c.in-Line.count begins in
    rw (p.1, p.2, c.in_err-give_line-in-Line.ensures.err.0) (line_wanted c.reach.new.self now)

pub returns-in_err-give_line-in-Line-clause-again : goal.returns-in_err-give_line-in-Line-clause-again
returns-in_err-give_line-in-Line-clause-again g c stop is_stopped =
    let begins = rw c.in-Line.is at c.in_ok-count.ensures.reached in
    let now = line_now c.reach.new.self c.in-Line.count begins in
    let here : IsStopped c.reach.new.self stop = subst (λ (h : Lined g.row.S.Denot). IsStopped h stop) (sym (c.in_ok-count.ensures.again stop is_stopped)) is_stopped in
    absurd (line_not_stopped c.reach.new.self stop now here)

pub returns-in_ok-give_line-in-Line-clause-again : goal.returns-in_ok-give_line-in-Line-clause-again
returns-in_ok-give_line-in-Line-clause-again g c stop is_stopped =
    let begins = rw c.in-Line.is at c.in_ok-count.ensures.reached in
    let now = line_now c.reach.new.self c.in-Line.count begins in
    let here : IsStopped c.reach.new.self stop = subst (λ (h : Lined g.row.S.Denot). IsStopped h stop) (sym (c.in_ok-count.ensures.again stop is_stopped)) is_stopped in
    absurd (line_not_stopped c.reach.new.self stop now here)

pub returns-in_err-give_last-in-Last-2-clause-comes : goal.returns-in_err-give_last-in-Last-2-clause-comes
returns-in_err-give_last-in-Last-2-clause-comes g c =
    let p = err_from_is_err_and c.from_residual-in_err-give_last-in-Last-2.result c.from_residual-in_err-give_last-in-Last-2.ensures.1 in
    let part = rw c.in-Last-2.is at c.in_ok-count.ensures.reached in
    let pending : c.bytes.result.now ≡ c.reach.new.self.pending = c.bytes.ensures.value ∙ ap (λ h. h.pending) c.self.view_is in
    let some : 0 < length c.reach.new.self.pending = rw (← pending) (grind (arith, nat_tests, c.is_empty.ensures, c.if-is_empty.false)) in
    let now = last_now c.reach.new.self part.0 part.1 some in
    rw (p.1, p.2, c.in_err-give_last-in-Last-2.ensures.err.0) (line_wanted c.reach.new.self now)

pub returns-in_err-give_last-in-Last-2-clause-again : goal.returns-in_err-give_last-in-Last-2-clause-again
returns-in_err-give_last-in-Last-2-clause-again g c stop is_stopped =
    let part = rw c.in-Last-2.is at c.in_ok-count.ensures.reached in
    let pending : c.bytes.result.now ≡ c.reach.new.self.pending = c.bytes.ensures.value ∙ ap (λ h. h.pending) c.self.view_is in
    let some : 0 < length c.reach.new.self.pending = rw (← pending) (grind (arith, nat_tests, c.is_empty.ensures, c.if-is_empty.false)) in
    let now = last_now c.reach.new.self part.0 part.1 some in
    let here : IsStopped c.reach.new.self stop = subst (λ (h : Lined g.row.S.Denot). IsStopped h stop) (sym (c.in_ok-count.ensures.again stop is_stopped)) is_stopped in
    absurd (line_not_stopped c.reach.new.self stop now here)

pub returns-in_ok-give_last-in-Last-2-clause-again : goal.returns-in_ok-give_last-in-Last-2-clause-again
returns-in_ok-give_last-in-Last-2-clause-again g c stop is_stopped =
    let part = rw c.in-Last-2.is at c.in_ok-count.ensures.reached in
    let pending : c.bytes.result.now ≡ c.reach.new.self.pending = c.bytes.ensures.value ∙ ap (λ h. h.pending) c.self.view_is in
    let some : 0 < length c.reach.new.self.pending = rw (← pending) (grind (arith, nat_tests, c.is_empty.ensures, c.if-is_empty.false)) in
    let now = last_now c.reach.new.self part.0 part.1 some in
    let here : IsStopped c.reach.new.self stop = subst (λ (h : Lined g.row.S.Denot). IsStopped h stop) (sym (c.in_ok-count.ensures.again stop is_stopped)) is_stopped in
    absurd (line_not_stopped c.reach.new.self stop now here)

pub returns-in_ok-give_line-in-Line-clause-gave : goal.returns-in_ok-give_line-in-Line-clause-gave
returns-in_ok-give_line-in-Line-clause-gave g c =
    let begins = rw c.in-Line.is at c.in_ok-count.ensures.reached in
    rw (c.in_ok-give_line-in-Line.ensures.ok.0, c.in_ok-give_line-in-Line.ensures.ok.1, drop-append_seam) (gave_line g.S.Source.seen c.in-Line.count c.in_ok-count.ensures.took begins)

pub returns-in_ok-give_last-in-Last-2-clause-gave : goal.returns-in_ok-give_last-in-Last-2-clause-gave
returns-in_ok-give_last-in-Last-2-clause-gave g c =
    let part = rw c.in-Last-2.is at c.in_ok-count.ensures.reached in
    let pending : c.bytes.result.now ≡ c.reach.new.self.pending = c.bytes.ensures.value ∙ ap (λ h. h.pending) c.self.view_is in
    let some : 0 < length c.reach.new.self.pending = rw (← pending) (grind (arith, nat_tests, c.is_empty.ensures, c.if-is_empty.false)) in
    rw (c.in_ok-give_last-in-Last-2.ensures.ok.0, c.in_ok-give_last-in-Last-2.ensures.ok.1, drop-append_seam) (gave_last g.S.Source.seen c.in_ok-count.ensures.took part.0 part.1 some)

pub returns-in-Last-clause-comes : goal.returns-in-Last-clause-comes
returns-in-Last-clause-comes g c =
    let part = rw c.in-Last.is at c.in_ok-count.ensures.reached in
    let pending : c.bytes.result.now ≡ c.reach.new.self.pending = c.bytes.ensures.value ∙ ap (λ h. h.pending) c.self.view_is in
    let none : length c.bytes.result.now ≡ 0 = grind (arith, nat_tests, c.is_empty.ensures, c.if-is_empty.true) in
    let over = ended_stop c.reach.new.self part.0 part.1 (sym pending ∙ no_bytes c.bytes.result.now none) in
    over

pub returns-in-Last-clause-again : goal.returns-in-Last-clause-again
returns-in-Last-clause-again g c stop is_stopped =
    let part = rw c.in-Last.is at c.in_ok-count.ensures.reached in
    let pending : c.bytes.result.now ≡ c.reach.new.self.pending = c.bytes.ensures.value ∙ ap (λ h. h.pending) c.self.view_is in
    let none : length c.bytes.result.now ≡ 0 = grind (arith, nat_tests, c.is_empty.ensures, c.if-is_empty.true) in
    let over = ended_stop c.reach.new.self part.0 part.1 (sym pending ∙ no_bytes c.bytes.result.now none) in
    let same = c.in_ok-count.ensures.again stop is_stopped in
    let here : IsStopped c.reach.new.self stop = subst (λ (h : Lined g.row.S.Denot). IsStopped h stop) (sym same) is_stopped in
    (same, ap answer_at (same_stop c.reach.new.self Whole stop over here))
