-- What the lines that a call was given make of its answer, and calls in a row.
use Rattle.std.proofs.Common.{◌≡◌, ℕ, ◌+◌, false, List, [], ◌∷◌, ◌++◌, Option, Some, None, Result, Ok, Err, IsErrAnd, length, sym, ap, ◌∙◌, subst, arith, append_assoc, append-nil, length-append}
use Rattle.feed_reader.specs.MhIo.Source.{SourceSeen}
use Rattle.feed_reader.specs.MhIo.Lined.{Lined, Gave, ComesWhere, lines_now}
use Rattle.feed_reader.specs.MhIo.declared.lines_answer.LineStep.TheVariants.{Line, End}
use Rattle.feed_reader.specs.MhIo.declared.lines_answer.LineFault.{LineFault}
use Rattle.feed_reader.specs.MhIo.declared.lines_answer.LineFault.TheVariants.{ReadFault, LineLong, TooLong, Memory}
use Rattle.feed_reader.specs.Line.{is_passed_over}
use Rattle.feed_reader.specs.Steps.{ArePassed, Skips}
use Rattle.feed_reader.proofs.FeedTakings.{gave_none, then_gave}
use Rattle.feed_reader.proofs.FeedLines.{no_lines_passed}
use Rattle.pool_feed.specs.declared.request.Request.{Request}
use Rattle.pool_feed.specs.declared.next.FedLine.{FedLine}
use Rattle.pool_feed.specs.Requests.{request_of}
use Rattle.pool_feed.specs.Items.{items_of}
use Rattle.pool_feed.specs.Answers.{Told, ComesTo, Answers}
use Rattle.pool_feed.proofs.FedLines.{items_of-append, no_items, one_item}

module _ {S : Type 0} (seen : S → SourceSeen) where
  -- ---- one call

  -- lines that are passed over
  told_nothing : (a b : Lined S) (passed : List (List ℕ)) → ArePassed passed → Gave seen a b (passed ++ []) → Told seen a b []
  told_nothing a b passed over lines = record {
    given = passed;
    lines = subst (Gave seen a b) (append-nil passed) lines;
    are = no_items (a.given + 1) passed over;
  }

  -- and then a line
  pub line_answer : (a b : Lined S) (line : List ℕ) (number : ℕ) (request : Option Request) → Skips seen a b (Ok Line) line → is_passed_over line ≡ false → number ≡ b.given → request ≡ request_of line → Answers seen a b (Ok (Some (record { line = number; request = request })))
  line_answer a b line number request s full at is =
      let place : number ≡ a.given + 1 + length s.passed = omega (arith, s.lines.count, length-append s.passed (line ∷ []), at) in
      let item : FedLine = record { line = number; request = request } in (
        record {
          given = s.passed ++ line ∷ [];
          lines = s.lines;
          are = one_item (a.given + 1) s.passed line s.over full
              ∙ ap (λ n. record { line = n; request = request_of line } ∷ []) (sym place)
              ∙ ap (λ (r : Option Request). record { line = number; request = r } ∷ []) (sym is);
        },
        record {
          before = s.passed;
          its = line ∷ [];
          lines = s.lines;
          are = no_items (a.given + 1) s.passed s.over;
          number = omega (arith, place);
          there = omega (arith, length-append (line ∷ []) (lines_now b).lines);
        },
        at,
      )

  -- and then the end
  pub end_answer : (a b : Lined S) (line : List ℕ) → Skips seen a b (Ok End) line → ComesWhere (Ok End) b → Answers seen a b (Ok None)
  end_answer a b line s comes = (told_nothing a b s.passed s.over s.lines, comes)

  -- and then a fault
  fault_answer : (a b : Lined S) (line : List ℕ) (f : LineFault) → Skips seen a b (Err f) line → ComesWhere (Err f) b → Answers seen a b (Err f)
  fault_answer a b line ReadFault s comes = (told_nothing a b s.passed s.over s.lines, comes)
  fault_answer a b line LineLong s comes = (told_nothing a b s.passed s.over s.lines, comes)
  fault_answer a b line (TooLong taken) s comes = ((told_nothing a b s.passed s.over s.lines, comes.0), comes.1)
  fault_answer a b line Memory s comes = record {
    before = s.passed;
    its = [];
    lines = s.lines;
    are = no_items (a.given + 1) s.passed s.over;
    number = omega (arith, s.lines.count, length-append s.passed []);
    there = comes;
  }

  pub faulted : (a b : Lined S) (line : List ℕ) (f : LineFault) (result : Result (Option FedLine) LineFault) → IsErrAnd result (λ e. e ≡ f) → Skips seen a b (Err f) line → ComesWhere (Err f) b → Answers seen a b result
  faulted a b line f (Ok o) is s comes = absurd is
  faulted a b line f (Err e) is s comes = subst (λ e. Answers seen a b (Err e)) (sym is) (fault_answer a b line f s comes)

  -- ---- calls in a row

  pub told_none : (a : Lined S) → Told seen a a []
  told_none a = record { given = []; lines = gave_none seen a; are = no_items (a.given + 1) [] no_lines_passed }

  -- the number behind the lines that were given
  next_number : (a b : Lined S) (items : List FedLine) → (t : Told seen a b items) → a.given + 1 + length t.given ≡ b.given + 1
  next_number a b items t = omega (arith, t.lines.count)

  pub then_told : (a b c : Lined S) (xs ys : List FedLine) → Told seen a b xs → Told seen b c ys → Told seen a c (xs ++ ys)
  then_told a b c xs ys first second = record {
    given = first.given ++ second.given;
    lines = then_gave seen first.lines second.lines;
    are =
        items_of-append (a.given + 1) first.given second.given
        ∙ (ap (λ items. items ++ items_of (a.given + 1 + length first.given) second.given) first.are
        ∙ ap (λ items. xs ++ items) (ap (λ n. items_of n second.given) (next_number a b xs first) ∙ second.are));
  }

  pub then_comes : (a b c : Lined S) (xs : List FedLine) (line : ℕ) → Told seen a b xs → ComesTo seen b c [] line → ComesTo seen a c xs line
  then_comes a b c xs line first second = record {
    before = first.given ++ second.before;
    its = second.its;
    lines = subst (Gave seen a c) (sym (append_assoc first.given second.before second.its)) (then_gave seen first.lines second.lines);
    are =
        items_of-append (a.given + 1) first.given second.before
        ∙ (ap (λ items. items ++ items_of (a.given + 1 + length first.given) second.before) first.are
        ∙ (ap (λ items. xs ++ items) (ap (λ n. items_of n second.before) (next_number a b xs first) ∙ second.are)
        ∙ append-nil xs));
    number = omega (arith, second.number, first.lines.count, length-append first.given second.before);
    there = second.there;
  }
