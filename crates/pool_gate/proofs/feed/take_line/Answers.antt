use Rattle.std.proofs.Common.{Ok, refl, sym, ap, ◌∙◌, subst}
use Rattle.pool_feed.specs.Answers.{Answers}
use Rattle.pool_gate.specs.Ends.{end_at, EndsAt}
use Rattle.pool_gate.proofs.SeatSteps.{stays_so}
use Rattle.pool_gate.proofs.Feeds.{takes, goes_forward, ends_whole, ends_at_fault}
use Rattle.pool_gate.proofs.feed.take_line.Goals as goal

pub returns-in-Ok-Some-clause-takes : goal.returns-in-Ok-Some-clause-takes
returns-in-Ok-Some-clause-takes g c first told so_far =
    let answers = subst (λ o. Answers g.S.Source.seen c.args.job.now.lines c.next_fed_line.new.lines (Ok o)) c.in-Ok-Some.field-0-is c.in-Ok-Some.ensures.answers in
    takes g.S.Source.seen c.args.terms.now first told c.in-Ok-Some.item c.args.job.now (record c.args.job.now { lines = c.next_fed_line.new.lines; room = c.next_fed_line.new.room }) c.meet.new.job c.meet.result so_far answers refl refl refl c.meet.ensures

pub returns-in-Ok-Some-clause-forward : goal.returns-in-Ok-Some-clause-forward
returns-in-Ok-Some-clause-forward g c =
    let answers = subst (λ o. Answers g.S.Source.seen c.args.job.now.lines c.next_fed_line.new.lines (Ok o)) c.in-Ok-Some.field-0-is c.in-Ok-Some.ensures.answers in
    goes_forward g.S.Source.seen c.args.terms.now c.in-Ok-Some.item c.args.job.now (record c.args.job.now { lines = c.next_fed_line.new.lines; room = c.next_fed_line.new.room }) c.meet.new.job c.meet.result answers c.meet.ensures

pub returns-in-Ok-None-clause-takes : goal.returns-in-Ok-None-clause-takes
returns-in-Ok-None-clause-takes g c first told so_far = record {
  ends = ends_whole g.S.Source.seen first c.args.job.now.lines c.next_fed_line.new.lines told so_far (rw c.in-Ok-None.field-0-is at c.in-Ok-None.ensures.answers);
  number = refl;
  seat = stays_so c.args.job.now.seat;
  text = refl;
  refused = refl;
}

pub returns-in-Err-clause-takes : goal.returns-in-Err-clause-takes
returns-in-Err-clause-takes g c first told so_far =
    let why = c.end_at.ensures ∙ ap (end_at c.in-Err.fault) c.given.ensures.value in
    record {
      ends = subst (λ w. EndsAt g.S.Source.seen w first c.next_fed_line.new.lines told) (sym why)
          (ends_at_fault g.S.Source.seen first c.args.job.now.lines c.next_fed_line.new.lines told c.in-Err.fault so_far c.in-Err.ensures.answers);
      number = refl;
      seat = stays_so c.args.job.now.seat;
      text = refl;
      refused = refl;
    }
