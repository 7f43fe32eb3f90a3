-- A feed from its lines to its end.
use Rattle.std.proofs.Common.{◌≡◌, ℕ, ◌+◌, ◌<◌, arith, List, [], ◌++◌, length, Bool, true, false, Option, Some, None, refl, sym, ap, ◌∙◌, subst, append_assoc, append-nil}
use Rattle.std.specs.Io.KnownBytes.{append_known, prepend_known}
use Rattle.std.proofs.lemmas.Bool.{false≢true}
use Rattle.feed_events.specs.FeedReader.MhIo.Source.{SourceSeen}
use Rattle.feed_events.specs.FeedReader.MhIo.Source as taking
use Rattle.feed_events.specs.FeedReader.MhIo.Lines as cut
use Rattle.feed_events.specs.FeedReader.MhIo.Lines.{lines, lines_behind}
use Rattle.feed_events.specs.FeedReader.MhIo.Lined.{Lined, CanCome, Took, is_ended, lines_now}
use Rattle.feed_events.specs.FeedReader.MhIo.declared.lines_answer.Supply.{Supply}
use Rattle.feed_events.specs.FeedReader.MhIo.declared.lines_answer.Supply.TheVariants as supply
use Rattle.feed_events.specs.FeedReader.Feed as message
use Rattle.feed_events.specs.FeedReader.Feed.{Item, FeedRun, AreItems, items_of, feed}
use Rattle.feed_events.specs.FeedReader.Answers.{TellsItems, ComesTo, GoesOn}
use Rattle.feed_runs.specs.Untaken.{fresh}
use Rattle.feed_runs.specs.declared.feed_end.FeedEnd.{FeedEnd}
use Rattle.feed_runs.specs.declared.feed_end.FeedEnd.TheVariants as end_at
use Rattle.feed_gate.specs.Run.{EndsAt, BreaksAt, IsEnd}

-- nothing more comes
nothing_more : (s : Supply) → CanCome s [] (is_ended s)
nothing_more supply.Open = tt
nothing_more supply.Ended = (refl, refl)
nothing_more supply.Failed = (refl, refl)

abbrev is_whole : FeedEnd → Bool
is_whole end_at.End = true
is_whole (end_at.Cut line) = false
is_whole (end_at.LineLong line) = false
is_whole (end_at.TooLong taken) = false
is_whole end_at.ReadFault = false
is_whole (end_at.Memory line) = false

abbrev is_fault : FeedEnd → Bool
is_fault end_at.End = false
is_fault (end_at.Cut line) = false
is_fault (end_at.LineLong line) = false
is_fault (end_at.TooLong taken) = false
is_fault end_at.ReadFault = true
is_fault (end_at.Memory line) = false

whole_other : (why : FeedEnd) → is_whole why ≡ false → why ≡ end_at.End → ⊥
whole_other why h e = false≢true (sym h ∙ ap is_whole e)

fault_other : (why : FeedEnd) → is_fault why ≡ false → why ≡ end_at.ReadFault → ⊥
fault_other why h e = false≢true (sym h ∙ ap is_fault e)

end_fault : end_at.End ≡ end_at.ReadFault → ⊥
end_fault e = fault_other end_at.End refl e

append_nothing : (held : Option (List ℕ)) → held ≡ append_known held []
append_nothing None = refl
append_nothing (Some held) = ap (λ (zs : List ℕ). Some zs) (sym (append-nil held))

prepend_nothing : (left : Option (List ℕ)) → left ≡ prepend_known [] left
prepend_nothing None = refl
prepend_nothing (Some left) = refl

nothing_taken : (source : taking.SourceSeen) → taking.Takes source source []
nothing_taken source = record { gave = append_nothing source.gave; left = prepend_nothing source.left }

-- no lines are no items
no_lines : (n : ℕ) → AreItems n [] []
no_lines n = record { told = λ further stop. ap (λ k. items_of k 0 further stop) (omega arith) }

-- lines that are just these items, as a feed of their own
alone : (before : List (List ℕ)) (items : List Item) → AreItems 1 before items → items_of 1 0 before cut.Whole ≡ record { items = items; stop = message.Whole }
unfolding items_of
alone before items are =
    ap (λ ls. items_of 1 0 ls cut.Whole) (sym (append-nil before)) ∙ are.told [] cut.Whole
    ∙ ap (λ (xs : List Item). let all : FeedRun = record { items = xs; stop = message.Whole } in all) (append-nil items)

some_behind : (xs : List (List ℕ)) (taken : List ℕ) → 0 < length xs → xs ≡ [] → taken ≡ []
some_behind xs taken some none = absurd (omega (arith, some, ap length none))

module _ {S : Type 0} (seen : S → SourceSeen) where
  -- ---- nothing yet

  took_nothing : (held : Lined S) → Took seen held held []
  took_nothing held = record {
    takes = nothing_taken (seen held.source);
    count = omega arith;
    named = refl;
    total = omega arith;
    few = λ few. few;
    failed = λ is_open is_failed. absurd (cc (is_open, is_failed));
    at_end = λ is_open is_ended. absurd (cc (is_open, is_ended));
    stays = λ _. refl;
    rests = λ _. refl;
    came = λ later ended can. can;
  }

  pub tells_none_yet : (held : Lined S) → TellsItems seen held held []
  tells_none_yet held = record {
    given = [];
    lines = record { taken = []; took = took_nothing held; lines = λ later ended _. refl; count = omega arith };
    items = no_lines (held.given + 1);
  }

  -- ---- the whole

  starved : {s : S} {new : Lined S} {items : List Item} (line : ℕ) → (at : ComesTo seen (fresh s) new items line) → BreaksAt line items at.lines.taken (is_ended new.supply)
  starved {s} {new} {items} line at =
      let ended = is_ended new.supply in
      let can : CanCome new.supply [] ended = nothing_more new.supply in
      let all : (at.lines.taken ++ []) ≡ at.lines.taken = append-nil at.lines.taken in
      let behind = at.its ++ (lines_now new).lines in
      record {
        before = at.before;
        behind = behind;
        lines =
            ap (λ bytes. (lines bytes ended).lines) (sym all)
            ∙ ap (λ r. r.lines) (at.lines.lines [] ended can)
            ∙ ap (λ bytes. (at.before ++ at.its) ++ (lines_behind new.passed bytes ended).lines) (append-nil new.pending)
            ∙ append_assoc at.before at.its (lines_now new).lines;
        number = omega (arith, at.number);
        whole = alone at.before items at.items;
        there = some_behind behind at.lines.taken at.there;
        rest = subst (λ bytes. GoesOn items line (feed bytes ended).items) all (at.feed [] ended can);
      }

  -- what the end says of the lines, and of the bytes that were taken
  pub record Ended (s : S) (new : Lined S) (items : List Item) (why : FeedEnd) : Type 0 where
    pub bytes : List ℕ
    pub took : Took seen (fresh s) new bytes
    pub stop : IsEnd why items bytes (is_ended new.supply)
    pub whole : why ≡ end_at.End → new.supply ≡ supply.Ended
    pub failed : why ≡ end_at.ReadFault → new.supply ≡ supply.Failed

  pub ended : {s : S} {new : Lined S} {items : List Item} (why : FeedEnd) → EndsAt seen why (fresh s) new items → Ended s new items why
  ended end_at.End ends = record { bytes = ends.0.taken; took = ends.0.took; stop = ends.0.feed; whole = λ _. ends.1; failed = λ e. absurd (end_fault e) }
  ended (end_at.Cut line) ends = record { bytes = ends.0.taken; took = ends.0.took; stop = ends.0.feed; whole = λ e. absurd (whole_other (end_at.Cut line) refl e); failed = λ e. absurd (fault_other (end_at.Cut line) refl e) }
  ended (end_at.LineLong line) ends = record { bytes = ends.taken; took = ends.took; stop = ends.feed; whole = λ e. absurd (whole_other (end_at.LineLong line) refl e); failed = λ e. absurd (fault_other (end_at.LineLong line) refl e) }
  ended (end_at.TooLong taken) ends = record { bytes = ends.0.taken; took = ends.0.took; stop = (ends.0.feed, ends.1); whole = λ e. absurd (whole_other (end_at.TooLong taken) refl e); failed = λ e. absurd (fault_other (end_at.TooLong taken) refl e) }
  ended end_at.ReadFault ends = record { bytes = ends.0.taken; took = ends.0.took; stop = ends.0.feed; whole = λ e. absurd (whole_other end_at.ReadFault refl e); failed = λ _. ends.1 }
  ended (end_at.Memory line) ends = record { bytes = ends.lines.taken; took = ends.lines.took; stop = starved line ends; whole = λ e. absurd (whole_other (end_at.Memory line) refl e); failed = λ e. absurd (fault_other (end_at.Memory line) refl e) }
