-- A feed from its first byte to its end.
use Rattle.std.proofs.Common.{◌≡◌, ℕ, ◌+◌, List, [], ◌++◌, length, sym, ap, ◌∙◌, append-nil, append_assoc, arith}
use Rattle.mh_io.specs.Source.{SourceSeen}
use Rattle.mh_io.specs.Lines as cut
use Rattle.mh_io.specs.Lines.{LineRun, lines, lines_behind, with_lines, stopped}
use Rattle.mh_io.specs.Lined.{Lined, Took, IsStopped, is_ended, lines_now}
use Rattle.mh_io.specs.declared.lines_answer.Supply.TheVariants as supply
use Rattle.feed_runs.specs.Untaken.{fresh}
use Rattle.feed_reader.proofs.FeedTakings.{can_stop}
use Rattle.feed_runs.specs.declared.feed_end.FeedEnd.{FeedEnd}
use Rattle.feed_runs.specs.declared.feed_end.FeedEnd.TheVariants as end_of
use Rattle.pool_feed.specs.declared.next.FedLine.{FedLine}
use Rattle.pool_feed.specs.Items.{items_of}
use Rattle.pool_feed.specs.Answers.{Told, ComesTo}
use Rattle.pool_gate.specs.Ends.{EndsAt, StopsSo, BreaksAt, IsEnd}

module _ {S : Type 0} (seen : S → SourceSeen) where
  -- the lines of all bytes that were taken are those that were given
  all_lines : (s : S) (new : Lined S) (items : List FedLine) (stop : cut.Stop) (t : Told seen (fresh s) new items) → IsStopped new stop → lines t.lines.taken (is_ended new.supply) ≡ with_lines t.given (stopped stop)
  all_lines s new items stop t stops =
      let ended = is_ended new.supply in
      ap (λ bytes. lines bytes ended) (sym (append-nil t.lines.taken))
      ∙ (t.lines.lines [] ended (can_stop new.supply)
      ∙ (ap (λ bytes. with_lines t.given (lines_behind new.passed bytes ended)) (append-nil new.pending)
      ∙ ap (with_lines t.given) stops.0))

  stops_so : (s : S) (new : Lined S) (items : List FedLine) (stop : cut.Stop) (t : Told seen (fresh s) new items) → IsStopped new stop → StopsSo stop items t.lines.taken (is_ended new.supply)
  stops_so s new items stop t stops =
      let all = all_lines s new items stop t stops in
      record {
        are = ap (λ (r : LineRun). items_of 1 r.lines) all ∙ (ap (items_of 1) (append-nil t.given) ∙ t.are);
        stops = ap (λ (r : LineRun). r.stop) all;
      }

  -- how many lines there are
  lines_count : (s : S) (new : Lined S) (items : List FedLine) (stop : cut.Stop) (t : Told seen (fresh s) new items) → IsStopped new stop → new.given ≡ length (lines t.lines.taken (is_ended new.supply)).lines
  lines_count s new items stop t stops =
      let all = ap (λ (r : LineRun). length r.lines) (all_lines s new items stop t stops) ∙ ap length (append-nil t.given) in
      omega (arith, all, t.lines.count)

  breaks_at : (s : S) (new : Lined S) (items : List FedLine) (line : ℕ) (at : ComesTo seen (fresh s) new items line) → BreaksAt line items at.lines.taken (is_ended new.supply)
  breaks_at s new items line at =
      let ended = is_ended new.supply in
      record {
        before = at.before;
        behind = at.its ++ (lines_now new).lines;
        lines =
            ap (λ bytes. (lines bytes ended).lines) (sym (append-nil at.lines.taken))
            ∙ (ap (λ (r : LineRun). r.lines) (at.lines.lines [] ended (can_stop new.supply))
            ∙ (ap (λ bytes. (at.before ++ at.its) ++ (lines_behind new.passed bytes ended).lines) (append-nil new.pending)
            ∙ append_assoc at.before at.its (lines_now new).lines));
        number = omega (arith, at.number);
        are = at.are;
        there = at.there;
      }

  -- what the end says of the bytes that were taken
  pub record Ended (s : S) (new : Lined S) (items : List FedLine) (why : FeedEnd) : Type 0 where
    pub bytes : List ℕ
    pub took : Took seen (fresh s) new bytes
    pub stop : IsEnd why items bytes (is_ended new.supply)
    pub whole : why ≡ end_of.End → new.supply ≡ supply.Ended
    pub failed : why ≡ end_of.ReadFault → new.supply ≡ supply.Failed

  pub ended : (s : S) (new : Lined S) (items : List FedLine) (why : FeedEnd) → EndsAt seen why (fresh s) new items → Ended s new items why
  ended s new items end_of.End ends = record {
    bytes = ends.0.lines.taken;
    took = ends.0.lines.took;
    stop = stops_so s new items cut.Whole ends.0 ends.1;
    whole = λ _. ends.1.1;
    failed = λ e. absurd (cc e);
  }
  ended s new items (end_of.Cut line) ends = absurd ends
  ended s new items (end_of.LineLong line) ends = record {
    bytes = ends.0.lines.taken;
    took = ends.0.lines.took;
    stop = (stops_so s new items cut.Long ends.0 ends.1, ends.2 ∙ ap (λ n. n + 1) (lines_count s new items cut.Long ends.0 ends.1));
    whole = λ e. absurd (cc e);
    failed = λ e. absurd (cc e);
  }
  ended s new items (end_of.TooLong taken) ends = record {
    bytes = ends.0.lines.taken;
    took = ends.0.lines.took;
    stop = (stops_so s new items cut.Over ends.0 ends.1, ends.2);
    whole = λ e. absurd (cc e);
    failed = λ e. absurd (cc e);
  }
  ended s new items end_of.ReadFault ends = record {
    bytes = ends.0.lines.taken;
    took = ends.0.lines.took;
    stop = stops_so s new items cut.Open ends.0 ends.1;
    whole = λ e. absurd (cc e);
    failed = λ _. ends.1.1;
  }
  ended s new items (end_of.Memory line) ends = record {
    bytes = ends.lines.taken;
    took = ends.lines.took;
    stop = breaks_at s new items line ends;
    whole = λ e. absurd (cc e);
    failed = λ e. absurd (cc e);
  }
