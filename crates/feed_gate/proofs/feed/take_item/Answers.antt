use Rattle.std.proofs.Common.{Some, Ok, Err, refl, subst}
use Rattle.feed_events.specs.FeedReader.Feed.{Sent, BadAt}
use Rattle.feed_events.specs.FeedReader.Answers.{Answers, Follows, StopsLines}
use Rattle.feed_gate.specs.declared.report.RefusedMessage.TheVariants as refused
use Rattle.feed_gate.specs.Run.{Reports}
use Rattle.feed_gate.proofs.EachSet.{all_see_self}
use Rattle.feed_gate.proofs.ManyFeeds.{takes, bad_line_met}
use Rattle.feed_gate.proofs.feed.take_item.Goals as goal

pub returns-in-Ok-Some-clause-takes : goal.returns-in-Ok-Some-clause-takes
returns-in-Ok-Some-clause-takes g c first told so_far =
    let follows = subst (λ o. Follows g.S.Source.seen first c.next_message.new.lines told (Ok o)) c.in-Ok-Some.field-0-is (c.in-Ok-Some.ensures.follows first told so_far) in
    takes g.S.Source.seen c.args.names.now first told (Sent c.in-Ok-Some.fed) c.args.job.now c.next_message.new.lines c.take_message.new.job c.take_message.result follows c.take_message.ensures.lines c.take_message.ensures.meets

pub returns-in-Err-BadLine-clause-takes : goal.returns-in-Err-BadLine-clause-takes
returns-in-Err-BadLine-clause-takes g c first told so_far =
    let follows = subst (λ e. Follows g.S.Source.seen first c.next_message.new.lines told (Err e)) c.in-Err-BadLine.field-0-is (c.in-Err-BadLine.ensures.follows first told so_far) in
    let reported = subst (λ l. Reports c.args.job.now.report c.take_bad_line.new.report l (Some (refused.BadLine l)) c.take_bad_line.result) c.in-Err-BadLine.line-is c.take_bad_line.ensures in
    takes g.S.Source.seen c.args.names.now first told (BadAt c.in-Err-BadLine.line) c.args.job.now c.next_message.new.lines (record c.args.job.now { lines = c.next_message.new.lines; report = c.take_bad_line.new.report }) c.take_bad_line.result follows refl
    (bad_line_met g.S.Source.seen c.args.names.now c.in-Err-BadLine.line (record c.args.job.now { lines = c.next_message.new.lines }) c.take_bad_line.new.report c.take_bad_line.result reported)

pub returns-in-Ok-None-clause-takes : goal.returns-in-Ok-None-clause-takes
returns-in-Ok-None-clause-takes g c first told so_far = record {
  ends = (rw c.in-Ok-None.field-0-is at (c.in-Ok-None.ensures.follows first told so_far), (rw c.in-Ok-None.field-0-is at c.in-Ok-None.ensures.stops).1);
  sees = all_see_self c.args.job.now.seats.items;
  report = refl;
}

pub returns-in-Err-Cut-clause-takes : goal.returns-in-Err-Cut-clause-takes
returns-in-Err-Cut-clause-takes g c first told so_far =
    let follows = subst (λ e. Follows g.S.Source.seen first c.next_message.new.lines told (Err e)) c.in-Err-Cut.field-0-is (c.in-Err-Cut.ensures.follows first told so_far) in
    let stops = subst (λ e. StopsLines (Err e) c.next_message.new.lines) c.in-Err-Cut.field-0-is c.in-Err-Cut.ensures.stops in
    rw c.in-Err-Cut.line-is (record { ends = (follows, stops.1); sees = all_see_self c.args.job.now.seats.items; report = refl })

pub returns-in-Err-LineLong-clause-takes : goal.returns-in-Err-LineLong-clause-takes
returns-in-Err-LineLong-clause-takes g c first told so_far =
    let follows = subst (λ e. Follows g.S.Source.seen first c.next_message.new.lines told (Err e)) c.in-Err-LineLong.field-0-is (c.in-Err-LineLong.ensures.follows first told so_far) in
    rw c.in-Err-LineLong.line-is (record { ends = follows; sees = all_see_self c.args.job.now.seats.items; report = refl })

pub returns-in-Err-TooLong-clause-takes : goal.returns-in-Err-TooLong-clause-takes
returns-in-Err-TooLong-clause-takes g c first told so_far =
    let follows = subst (λ e. Follows g.S.Source.seen first c.next_message.new.lines told (Err e)) c.in-Err-TooLong.field-0-is (c.in-Err-TooLong.ensures.follows first told so_far) in
    let answers = subst (λ e. Answers g.S.Source.seen c.args.job.now.lines c.next_message.new.lines (Err e)) c.in-Err-TooLong.field-0-is c.in-Err-TooLong.ensures.answers in
    rw c.in-Err-TooLong.taken-is (record { ends = (follows, answers.1); sees = all_see_self c.args.job.now.seats.items; report = refl })

pub returns-in-Err-ReadFault-clause-takes : goal.returns-in-Err-ReadFault-clause-takes
returns-in-Err-ReadFault-clause-takes g c first told so_far =
    let follows = subst (λ e. Follows g.S.Source.seen first c.next_message.new.lines told (Err e)) c.in-Err-ReadFault.field-0-is (c.in-Err-ReadFault.ensures.follows first told so_far) in
    let stops = subst (λ e. StopsLines (Err e) c.next_message.new.lines) c.in-Err-ReadFault.field-0-is c.in-Err-ReadFault.ensures.stops in
    (record { ends = (follows, stops.1); sees = all_see_self c.args.job.now.seats.items; report = refl })

pub returns-in-Err-Memory-clause-takes : goal.returns-in-Err-Memory-clause-takes
returns-in-Err-Memory-clause-takes g c first told so_far =
    let follows = subst (λ e. Follows g.S.Source.seen first c.next_message.new.lines told (Err e)) c.in-Err-Memory.field-0-is (c.in-Err-Memory.ensures.follows first told so_far) in
    rw c.in-Err-Memory.line-is (record { ends = follows; sees = all_see_self c.args.job.now.seats.items; report = refl })
