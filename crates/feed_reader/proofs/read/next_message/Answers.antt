use Rattle.std.proofs.Common.{◌≡◌, ◌+◌, [], ◌∷◌, ◌++◌, None, Ok, Err, length, sym, ap, ◌∙◌, subst, arith, append_assoc, length-append}
use Rattle.mh_io.specs.Lined.{Lined, Gave}
use Rattle.feed_reader.proofs.FeedTakings.{then_gave}
use Rattle.feed_reader.specs.Steps.{Means, feed_fault}
use Rattle.feed_reader.proofs.FeedLines.{no_line_at}
use Rattle.feed_reader.proofs.FeedAnswers.{Owed, follows, told, ended_outside, fault_outside, end_again, fault_again}
use Rattle.feed_reader.proofs.read.next_message.Goals as goal

pub returns-in-Ok-Line : goal.returns-in-Ok-Line
returns-in-Ok-Line g c =
    let s = rw c.in-Ok-Line.field-0-is at c.in-Ok-Line.ensures.skips in
    let t = rw c.as_slice.ensures at c.read_message.ensures.tells in
    let line = c.skip_to_line.new.line in
    let given : Gave g.S.Source.seen c.args.lines.now c.read_message.new.lines (s.passed ++ line ∷ t.further) =
    subst (Gave g.S.Source.seen c.args.lines.now c.read_message.new.lines) (append_assoc s.passed (line ∷ []) t.further) (then_gave g.S.Source.seen s.lines t.lines) in
    let number : c.skip_to_line.new.lines.given ≡ c.args.lines.now.given + 1 + length s.passed = omega (arith, s.lines.count, length-append s.passed (line ∷ [])) in
    let owed = told g.S.Source.seen c.read_message.result s.passed line t.further given s.over (subst (λ n. Means n (line ∷ t.further) c.read_message.new.lines c.read_message.result) number t.means) in
    record {
      answers = owed.answers;
      follows = λ first items so_far. follows g.S.Source.seen first c.args.lines.now c.read_message.new.lines items c.read_message.result so_far owed.answers;
      stops = owed.stops;
      placed = owed.placed;
      bounded = c.read_message.ensures.bounded;
      again = λ stop is_stopped. absurd (no_line_at stop (rw c.in-Ok-Line.field-0-is at (c.in-Ok-Line.ensures.again stop is_stopped).1));
    }

pub returns-in-Ok-End : goal.returns-in-Ok-End
returns-in-Ok-End g c =
    let s = rw c.in-Ok-End.field-0-is at c.in-Ok-End.ensures.skips in
    let over = rw c.in-Ok-End.field-0-is at c.in-Ok-End.ensures.comes in
    let owed = ended_outside g.S.Source.seen s.passed s.lines s.over over in
    record {
      answers = owed.answers;
      follows = λ first items so_far. follows g.S.Source.seen first c.args.lines.now c.skip_to_line.new.lines items (Ok None) so_far owed.answers;
      stops = owed.stops;
      placed = owed.placed;
      bounded = c.in-Ok-End.ensures.bounded;
      again = λ stop is_stopped. ((c.in-Ok-End.ensures.again stop is_stopped).0, end_again c.args.lines.now.given stop (rw c.in-Ok-End.field-0-is at (c.in-Ok-End.ensures.again stop is_stopped).1));
    }

pub returns : goal.returns
returns g c =
    let s = c.in-Err.ensures.skips in
    let fault = c.in-Err.fault in
    let after = c.skip_to_line.new.lines in
    let owed = fault_outside g.S.Source.seen fault s.passed s.lines s.over c.in-Err.ensures.comes in
    let next : c.given-next.result + 1 ≡ after.given + 1 = ap (λ n. n + 1) c.given-next.ensures.value in
    let same : Err c.feed_fault.result ≡ Err (feed_fault fault (after.given + 1) (after.given + 1)) =
    ap (λ f. Err f) (c.feed_fault.ensures ∙ ap (λ n. feed_fault fault n n) next) in
    let all : Owed g.S.Source.seen c.args.lines.now after (Err c.feed_fault.result) = subst (Owed g.S.Source.seen c.args.lines.now after) (sym same) owed in
    record {
      answers = all.answers;
      follows = λ first items so_far. follows g.S.Source.seen first c.args.lines.now after items (Err c.feed_fault.result) so_far all.answers;
      stops = all.stops;
      placed = all.placed;
      bounded = c.in-Err.ensures.bounded;
      again = λ stop is_stopped.
          let h = c.in-Err.ensures.again stop is_stopped in
          (h.0, same ∙ (ap (λ (l : Lined g.row.S.Denot). Err (feed_fault fault (l.given + 1) (l.given + 1))) h.0 ∙ fault_again c.args.lines.now.given fault stop h.1));
    }
