-- What the lines that a call was given make of its answer.
use Rattle.std.proofs.Common.{◌≡◌, ℕ, ◌+◌, ◌<◌, Bool, List, [], ◌∷◌, ◌++◌, Option, Some, None, Result, Ok, Err, length, refl, sym, ap, ◌∙◌, subst, arith, append_assoc, length-append}
use Rattle.std.proofs.lemmas.List.{append-nil}
use Rattle.mh_io.specs.Source.{SourceSeen}
use Rattle.mh_io.specs.Lines as cut
use Rattle.mh_io.specs.Lines.{LineRun, stopped, with_lines, lines_behind}
use Rattle.mh_io.specs.Lined as reader
use Rattle.mh_io.specs.Lined.{Lined, CanCome, Took, Gave, IsStopped, ComesWhere, is_ended, lines_with, lines_now}
use Rattle.mh_io.specs.declared.lines_answer.LineStep.TheVariants.{End}
use Rattle.mh_io.specs.declared.lines_answer.LineFault.{LineFault}
use Rattle.mh_io.specs.declared.lines_answer.LineFault.TheVariants as line_fault
use Rattle.mh_io.specs.Limits.{most_bytes}
use Rattle.feed_reader.specs.declared.message.Fed.{Fed}
use Rattle.feed_reader.specs.declared.fault.FeedFault.{FeedFault}
use Rattle.feed_reader.specs.declared.fault.FeedFault.TheVariants as fault
use Rattle.feed_reader.specs.Feed.{Item, Sent, BadAt, FeedStop, FeedRun, Whole, Cut, LineLong, TooLong, Open, AreItems, line_of, no_items, with_items, items_of, items_from}
use Rattle.feed_reader.specs.Answers.{feed_with, TellsItems, ComesTo, TellsItem, TellsStop, ReadsFeed, Follows, Answers, StopsLines, IsPlaced, answer_at}
use Rattle.feed_reader.specs.Steps.{ArePassed, Means, feed_fault}
use Rattle.feed_reader.proofs.FeedTakings.{can_stop, then_took, then_gave}
use Rattle.feed_reader.proofs.FeedItems.{passed_over, passed_items, items_then, nothing_further, items_behind, items_at}

-- where the lines stopped, the end of input is answered by no message
pub end_again : (given : ℕ) (stop : cut.Stop) → Ok End ≡ reader.answer_at stop → Ok None ≡ answer_at given stop
end_again given cut.Whole e = refl
end_again given cut.Open e = cc e
end_again given cut.Long e = cc e
end_again given cut.Over e = cc e

-- and a fault by its like
pub fault_again : (given : ℕ) (f : LineFault) (stop : cut.Stop) → Err f ≡ reader.answer_at stop → Err (feed_fault f (given + 1) (given + 1)) ≡ answer_at given stop
fault_again given f cut.Whole e = cc e
fault_again given f cut.Open e = let same : f ≡ line_fault.ReadFault = cc e in ap (λ g. Err (feed_fault g (given + 1) (given + 1))) same
fault_again given f cut.Long e = let same : f ≡ line_fault.LineLong = cc e in ap (λ g. Err (feed_fault g (given + 1) (given + 1))) same
fault_again given f cut.Over e = let same : f ≡ line_fault.TooLong (most_bytes + 1) = cc e in ap (λ g. Err (feed_fault g (given + 1) (given + 1))) same

module _ {S : Type 0} (seen : S → SourceSeen) where
  -- the items of lines that were passed over, and of those behind them
  after_passed : {a b : Lined S} (passed lines : List (List ℕ)) (given : Gave seen a b (passed ++ lines)) → ArePassed passed → (later : List ℕ) (ended : Bool) → CanCome b.supply later ended → feed_with a (given.taken ++ later) ended ≡ items_of (a.given + 1 + length passed) 0 (lines ++ (lines_with b later ended).lines) (lines_with b later ended).stop
  after_passed {a} {b} passed lines given over later ended can =
      ap (items_from (a.given + 1)) (given.lines later ended can)
      ∙ (ap (λ ls. items_of (a.given + 1) 0 ls (lines_with b later ended).stop) (append_assoc passed lines (lines_with b later ended).lines)
      ∙ passed_over (a.given + 1) passed (lines ++ (lines_with b later ended).lines) (lines_with b later ended).stop over)

  -- lines that are just these items, and the line behind them
  abbrev comes_to : {a b : Lined S} (told : List Item) (before its : List (List ℕ)) (line : ℕ) → Gave seen a b (before ++ its) → AreItems (a.given + 1) before told → line ≡ a.given + length before + 1 → 0 < length (its ++ (lines_now b).lines) → ComesTo seen a b told line
  comes_to {a} {b} told before its line given items number there = record {
    before = before;
    its = its;
    lines = given;
    items = items;
    number = number;
    there = there;
    feed = λ later ended can.
        let run = lines_with b later ended in (
          (items_of (a.given + 1 + length before) 0 (its ++ run.lines) run.stop).items,
          ap (λ r. r.items)
              (ap (items_from (a.given + 1)) (given.lines later ended can)
              ∙ (ap (λ ls. items_of (a.given + 1) 0 ls run.stop) (append_assoc before its run.lines)
              ∙ items.told (its ++ run.lines) run.stop)),
          items_behind line (a.given + 1 + length before) 0 (its ++ run.lines) run.stop (omega arith),
        );
  }

  some_lines : (b : Lined S) (line : List ℕ) (further : List (List ℕ)) → 0 < length ((line ∷ further) ++ (lines_now b).lines)
  some_lines b line further = omega (arith, length-append (line ∷ further) (lines_now b).lines)

  -- an item behind lines that are passed over
  tells : {a b : Lined S} (passed : List (List ℕ)) (line : List ℕ) (further : List (List ℕ)) (item : Item) → Gave seen a b (passed ++ line ∷ further) → ArePassed passed → line_of item ≡ a.given + 1 + length passed → AreItems (a.given + 1 + length passed) (line ∷ further) (item ∷ []) → TellsItem seen a b item
  tells {a} {b} passed line further item given over number is = record {
    comes = comes_to [] passed (line ∷ further) (line_of item) given (passed_items (a.given + 1) passed over) (omega arith) (some_lines b line further);
    whole = subst (λ n. AreItems n (line ∷ further) (item ∷ [])) (sym number) is;
  }

  stops : {a b : Lined S} (passed lines : List (List ℕ)) (way : cut.Stop) (stop : FeedStop) → Gave seen a b (passed ++ lines) → ArePassed passed → items_of (a.given + 1 + length passed) 0 lines way ≡ no_items stop → IsStopped b way → TellsStop seen a b stop
  stops {a} {b} passed lines way stop given over is is_stopped = record {
    taken = given.taken;
    took = given.took;
    feed =
        let ended = is_ended b.supply in
        let now : lines_with b [] ended ≡ stopped way = ap (λ xs. lines_behind b.passed xs ended) (append-nil b.pending) ∙ is_stopped.0 in
        ap (λ xs. feed_with a xs ended) (sym (append-nil given.taken))
        ∙ (after_passed passed lines given over [] ended (can_stop b.supply)
        ∙ (ap (λ (r : LineRun). items_of (a.given + 1 + length passed) 0 (lines ++ r.lines) r.stop) now
        ∙ (ap (λ ls. items_of (a.given + 1 + length passed) 0 ls way) (append-nil lines) ∙ is)));
  }

  -- ---- a call after others

  -- the items of the bytes that were taken
  told_feed : {a b : Lined S} {told : List Item} (t : TellsItems seen a b told) (later : List ℕ) (ended : Bool) → CanCome b.supply later ended → feed_with a (t.lines.taken ++ later) ended ≡ with_items told (feed_with b later ended)
  told_feed {a} {b} {told} t later ended can =
      let run = lines_with b later ended in
      ap (items_from (a.given + 1)) (t.lines.lines later ended can)
      ∙ (t.items.told run.lines run.stop
      ∙ ap (with_items told) (items_at (a.given + 1 + length t.given) (b.given + 1) 0 run.lines run.stop (omega (arith, t.lines.count))))

  then_tells : {a b c : Lined S} {told : List Item} {item : Item} → TellsItems seen a b told → TellsItem seen b c item → TellsItems seen a c (told ++ item ∷ [])
  then_tells {a} {b} {c} {told} {item} so_far next =
      let n = b.given + 1 in
      let number : line_of item ≡ b.given + length next.comes.before + 1 = next.comes.number in
      record {
        given = so_far.given ++ (next.comes.before ++ next.comes.its);
        lines = then_gave seen so_far.lines next.comes.lines;
        items = items_then (a.given + 1) n so_far.items (items_then n (line_of item) next.comes.items next.whole (omega arith)) (omega (arith, so_far.lines.count));
      }

  then_comes : {a b c : Lined S} {told : List Item} {line : ℕ} → TellsItems seen a b told → ComesTo seen b c [] line → ComesTo seen a c told line
  then_comes {a} {b} {c} {told} {line} so_far next =
      let all : Gave seen a c ((so_far.given ++ next.before) ++ next.its) =
      subst (Gave seen a c) (sym (append_assoc so_far.given next.before next.its)) (then_gave seen so_far.lines next.lines) in
      let items : AreItems (a.given + 1) (so_far.given ++ next.before) told =
      subst (AreItems (a.given + 1) (so_far.given ++ next.before)) (append-nil told) (items_then (a.given + 1) (b.given + 1) so_far.items next.items (omega (arith, so_far.lines.count))) in
      comes_to told (so_far.given ++ next.before) next.its line all items (omega (arith, next.number, so_far.lines.count, length-append so_far.given next.before)) next.there

  then_stops : {a b c : Lined S} {told : List Item} {stop : FeedStop} → TellsItems seen a b told → TellsStop seen b c stop → ReadsFeed seen a c told stop
  then_stops {a} {b} {c} {told} {stop} so_far last = record {
    taken = so_far.lines.taken ++ last.taken;
    took = then_took seen so_far.lines.took last.took;
    feed =
        let ended = is_ended c.supply in
        let can : CanCome b.supply last.taken ended = subst (λ (t : List ℕ). CanCome b.supply t ended) (append-nil last.taken) (last.took.came [] ended (can_stop c.supply)) in
        told_feed so_far last.taken ended can
        ∙ (ap (with_items told) last.feed ∙ ap (λ (xs : List Item). let all : FeedRun = record { items = xs; stop = stop } in all) (append-nil told));
  }

  pub follows : (a b c : Lined S) (told : List Item) (answer : Result (Option Fed) FeedFault) → TellsItems seen a b told → Answers seen b c answer → Follows seen a c told answer
  follows a b c told (Ok (Some fed)) so_far last = (then_tells so_far last, then_comes so_far last.comes)
  follows a b c told (Ok None) so_far last = then_stops so_far last
  follows a b c told (Err (fault.BadLine line)) so_far last = (then_tells so_far last, then_comes so_far last.comes)
  follows a b c told (Err (fault.Cut line)) so_far last = then_stops so_far last
  follows a b c told (Err (fault.LineLong line)) so_far last = then_stops so_far last
  follows a b c told (Err (fault.TooLong taken)) so_far last = then_stops so_far last.0
  follows a b c told (Err fault.ReadFault) so_far last = then_stops so_far last
  follows a b c told (Err (fault.Memory line)) so_far last = then_comes so_far last.comes

  -- ---- what a call owes

  -- what an answer owes
  pub record Owed (a b : Lined S) (answer : Result (Option Fed) FeedFault) : Type 0 where
    pub answers : Answers seen a b answer
    pub stops : StopsLines answer b
    pub placed : IsPlaced answer a b

  -- the lines that were passed over, and then those that mean something
  pub told : {a b : Lined S} (answer : Result (Option Fed) FeedFault) (passed : List (List ℕ)) (line : List ℕ) (further : List (List ℕ)) → Gave seen a b (passed ++ line ∷ further) → ArePassed passed → Means (a.given + 1 + length passed) (line ∷ further) b answer → Owed a b answer
  told {a} {b} (Ok (Some fed)) passed line further given over means = record {
    answers = tells passed line further (Sent fed) given over means.1 means.0;
    stops = tt;
    placed = let e = means.1 in (omega arith, omega (arith, given.count, length-append passed (line ∷ further)), means.2);
  }
  told (Ok None) passed line further given over means = absurd means
  told {a} {b} (Err (fault.BadLine n)) passed line further given over means = record {
    answers = tells passed line further (BadAt n) given over means.1 means.0;
    stops = tt;
    placed = let e = means.1 in let one = means.2 in (omega arith, omega (arith, given.count, length-append passed (line ∷ further)), means.3);
  }
  told {a} {b} (Err (fault.Cut n)) passed line further given over means = record {
    answers = stops passed (line ∷ further) cut.Whole (Cut n) given over means.0 means.1;
    stops = means.1;
    placed = let e = means.2 in (omega arith, omega (arith, given.count, length-append passed (line ∷ further)));
  }
  told {a} {b} (Err (fault.LineLong n)) passed line further given over means = record {
    answers = stops passed (line ∷ further) cut.Long (LineLong n) given over means.0 means.1;
    stops = (means.1, let e = means.2 in omega (arith, given.count, length-append passed (line ∷ further)));
    placed = let e = means.2 in omega arith;
  }
  told {a} {b} (Err (fault.TooLong n)) passed line further given over means = record {
    answers = (stops passed (line ∷ further) cut.Over TooLong given over means.0 means.1, means.2);
    stops = means.1;
    placed = tt;
  }
  told {a} {b} (Err fault.ReadFault) passed line further given over means = record {
    answers = stops passed (line ∷ further) cut.Open Open given over means.0 means.1;
    stops = means.1;
    placed = tt;
  }
  told {a} {b} (Err (fault.Memory n)) passed line further given over means = record {
    answers = record { comes = comes_to [] passed (line ∷ further) n given (passed_items (a.given + 1) passed over) (omega (arith, means.0)) (some_lines b line further); begun = means.1 };
    stops = tt;
    placed = let e = means.0 in (omega arith, omega (arith, given.count, length-append passed (line ∷ further)));
  }

  -- the input ended behind lines that were passed over
  pub ended_outside : {a b : Lined S} (passed : List (List ℕ)) → Gave seen a b (passed ++ []) → ArePassed passed → IsStopped b cut.Whole → Owed a b (Ok None)
  ended_outside {a} {b} passed given over is_stopped = record {
    answers = stops passed [] cut.Whole Whole given over (nothing_further _ cut.Whole) is_stopped;
    stops = is_stopped;
    placed = tt;
  }

  -- a fault came behind them
  pub fault_outside : {a b : Lined S} (f : LineFault) (passed : List (List ℕ)) → Gave seen a b (passed ++ []) → ArePassed passed → ComesWhere (Err f) b → Owed a b (Err (feed_fault f (b.given + 1) (b.given + 1)))
  fault_outside {a} {b} line_fault.ReadFault passed given over is_stopped = record {
    answers = stops passed [] cut.Open Open given over (nothing_further _ cut.Open) is_stopped;
    stops = is_stopped;
    placed = tt;
  }
  fault_outside {a} {b} line_fault.LineLong passed given over is_stopped = record {
    answers =
        let next : a.given + 1 + length passed ≡ b.given + 1 = omega (arith, given.count, length-append {A = List ℕ} passed []) in
        stops passed [] cut.Long (LineLong (b.given + 1)) given over (nothing_further _ cut.Long ∙ ap (λ n. no_items (LineLong n)) next) is_stopped;
    stops = (is_stopped, refl);
    placed = omega (arith, given.count);
  }
  fault_outside {a} {b} (line_fault.TooLong taken) passed given over is_stopped = record {
    answers = (stops passed [] cut.Over TooLong given over (nothing_further _ cut.Over) is_stopped.0, is_stopped.1);
    stops = is_stopped.0;
    placed = tt;
  }
  fault_outside {a} {b} line_fault.Memory passed given over is_stopped = record {
    answers = record { comes = comes_to [] passed [] (b.given + 1) given (passed_items (a.given + 1) passed over) (omega (arith, given.count, length-append {A = List ℕ} passed [])) is_stopped; begun = tt };
    stops = tt;
    placed = (omega (arith, given.count), omega arith);
  }
