use Rattle.std.proofs.Common.{◌≡◌, ◌++◌, ◌∷◌, [], Ok, Err, true, refl, sym, ap, ◌∙◌, subst}
use Rattle.std.proofs.lemmas.Result.{err_from_is_err_and}
use Rattle.mh_io.specs.Lined.{Lined, IsStopped}
use Rattle.mh_io.specs.declared.lines_answer.LineStep.TheVariants.{Line}
use Rattle.feed_reader.proofs.FeedTakings.{gave_none, then_gave}
use Rattle.feed_reader.specs.Line.{is_passed_over}
use Rattle.feed_reader.proofs.FeedLines.{no_lines_passed, one_more_passed, then_skips, no_line_at, line_of}
use Rattle.feed_reader.proofs.block.skip_to_line.Goals as goal

pub loop-step-init : goal.loop-step-init
loop-step-init g c = record {
  passed = ([], no_lines_passed, gave_none g.S.Source.seen c.args.lines.now);
  again = λ _ _. refl;
}

pub loop-step-preserved : goal.loop-step-preserved
loop-step-preserved g c =
    let line = c.next_line.new.line in
    let so_far = c.loop-step.invariant.passed in
    let is : c.in_ok-step.step ≡ Line = line_of c.in_ok-step.step (sym c.if-eq.false ∙ c.eq.ensures) in
    let next = rw is at c.in_ok-step.ensures.gave in
    let over : is_passed_over line ≡ true = sym (ap is_passed_over c.as_slice.ensures) ∙ (sym c.is_passed_over.ensures ∙ c.if-not-is_passed_over.false) in
    record {
      passed = (so_far.0 ++ line ∷ [], one_more_passed so_far.0 line so_far.1 over, then_gave g.S.Source.seen so_far.2 next);
      again = λ stop is_stopped.
          let here : IsStopped c.loop-step.lines stop = subst (λ (h : Lined g.row.S.Denot). IsStopped h stop) (sym (c.loop-step.invariant.again stop is_stopped)) is_stopped in
          absurd (no_line_at stop (rw is at (c.in_ok-step.ensures.again stop here).1));
    }

pub returns-then-eq-clause-skips : goal.returns-then-eq-clause-skips
returns-then-eq-clause-skips g c =
    then_skips g.S.Source.seen (Ok c.in_ok-step.step) c.next_line.new.line c.loop-step.invariant.passed c.in_ok-step.ensures.gave

pub returns-in_err-step-clause-skips : goal.returns-in_err-step-clause-skips
returns-in_err-step-clause-skips g c =
    let p = err_from_is_err_and c.from_residual.result c.from_residual.ensures.1 in
    rw p.1 (then_skips g.S.Source.seen (Err p.0) c.next_line.new.line c.loop-step.invariant.passed c.in_err-step.ensures.gave)
