-- A feed beside others: nothing yet, one item more, and its end; and lists of feeds.
use Rattle.std.proofs.Common.{◌≡◌, ℕ, ◌+◌, List, [], ◌∷◌, ◌++◌, map, Option, Some, None, cond, refl, sym, ap, ◌∙◌, subst}
use Rattle.std.specs.List.{AllByRecursion, IsDistinct, count_by, filter_map}
use Rattle.std.specs.Option.{is_none}
use Rattle.std.proofs.lemmas.List.{map-append}
use Rattle.std.proofs.lemmas.List.Elements.{filter_map-append}
use Rattle.std.proofs.lemmas.List.Sums.{sum_by-append}
use Rattle.feed_events.specs.FeedReader.MhIo.Source.{SourceSeen}
use Rattle.feed_events.specs.FeedReader.MhIo.Lined.{Lined}
use Rattle.feed_events.specs.CrifReader.SimmKinds.Order.{same_name}
use Rattle.feed_events.specs.FeedReader.declared.message.Fed.{Fed}
use Rattle.feed_events.specs.FeedReader.Feed.{Item, Sent, BadAt, line_of}
use Rattle.feed_events.specs.FeedReader.Answers.{TellsItems, ComesTo}
use Rattle.feed_gate.specs.declared.fate.Fate.{Fate}
use Rattle.feed_gate.specs.declared.report.RefusedMessage.{RefusedMessage}
use Rattle.feed_gate.specs.declared.report.RefusedMessage.TheVariants as refused
use Rattle.feed_runs.specs.declared.feed_end.FeedEnd.{FeedEnd}
use Rattle.feed_gate.specs.declared.report.FeedReport.{FeedReport}
use Rattle.feed_gate.specs.declared.job.FeedJob.{FeedJob}
use Rattle.feed_gate.specs.Run.{no_report, Reports, EndsAt}
use Rattle.feed_gate.specs.Fates.{fate_of}
use Rattle.feed_gate.specs.Met.{Met, IsMet, MeetsFate}
use Rattle.feed_gate.specs.Jobs.{Meets, TakesItem, TakesNone, Takes, RanTo, RanFeed}
use Rattle.feed_gate.proofs.Reports.{answer_done, answer_refused}
use Rattle.feed_gate.proofs.Feeds.{tells_none_yet}
use Rattle.feed_gate.proofs.EachSet.{none_ran, all_see_self, all_ran_sees, all_ran_step, all_rest, meets_set, refusal_sees}

all_push : {X : Type 0} (P : X → Type 0) (xs : List X) (x : X) → AllByRecursion P xs → P x → AllByRecursion P (xs ++ x ∷ [])
all_push P [] x all here = (here, tt)
all_push P (y ∷ ys) x all here = (all.0, all_push P ys x all.1 here)

module _ {S : Type 0} (seen : S → SourceSeen) where
  -- ---- one item

  -- a message that was refused and reported, or there was no memory to report it
  pub refused_meets : (names : List (List ℕ)) (fed : Fed) (f : Fate) (why : RefusedMessage) (old : FeedJob S) (new : FeedJob S) (end : Option FeedEnd) → IsDistinct same_name names → f ≡ fate_of names (Sent fed) → MeetsFate f (Some why) old.seats.items new.seats.items → Reports old.report new.report fed.line (Some why) end → Meets names (Sent fed) old new end
  refused_meets names fed f why old new None apart is h told =
      let it = meets_set names fed f (Some why) old.seats.items new.seats.items apart is h in
      record { refused = Some why; met = it.met; sets = it.sets; report = told }
  refused_meets names fed f why old new (Some end) apart is h told =
      record { sees = refusal_sees f why old.seats.items new.seats.items h; report = told.0; line = told.1 }

  -- a line that is no message
  pub bad_line_met : (names : List (List ℕ)) (line : ℕ) (job : FeedJob S) (report : FeedReport) (why : Option FeedEnd) → Reports job.report report line (Some (refused.BadLine line)) why → Meets names (BadAt line) job (record job { report = report }) why
  bad_line_met names line job report None h = record {
    refused = Some (refused.BadLine line);
    met = refl;
    sets = all_rest names (record { item = BadAt line; refused = Some (refused.BadLine line) }) job.seats.items job.seats.items (refused.BadLine line) tt refl refl;
    report = h;
  }
  bad_line_met names line job report (Some why) h = record { sees = all_see_self job.seats.items; report = h.0; line = h.1 }

  -- an item that was told met its set, or there was no memory for it
  pub takes : (names : List (List ℕ)) (first : Lined S) (told : List Item) (item : Item) (old : FeedJob S) (lines : Lined S) (new : FeedJob S) (why : Option FeedEnd) → TellsItems seen first lines (told ++ item ∷ []) × ComesTo seen first lines told (line_of item) → new.lines ≡ lines → Meets names item (record old { lines = lines }) new why → Takes seen names first told old new why
  takes names first told item old lines new None at same m = record {
    item = item;
    tells = subst (λ l. TellsItems seen first l (told ++ item ∷ [])) (sym same) at.0;
    takes = record { refused = m.refused; met = m.met; sets = m.sets; report = m.report };
  }
  takes names first told item old lines new (Some why) at same m = record {
    ends = subst (λ w. EndsAt seen w first new.lines told) (sym m.line) (subst (λ l. ComesTo seen first l told (line_of item)) (sym same) at.1);
    sees = m.sees;
    report = m.report;
  }

  -- ---- all items

  pub ran_none : (names : List (List ℕ)) (job : FeedJob S) (report : FeedReport) → report ≡ no_report → RanTo seen names job (record job { report = report }) []
  ran_none names job report is = record {
    told = tells_none_yet seen job.lines;
    met = tt;
    sets = none_ran names job.seats.items;
    done = ap (λ r. r.done) is;
    refused = ap (λ r. r.refused) is;
  }

  pub ran_more : (names : List (List ℕ)) (a b c : FeedJob S) (mets : List Met) → RanTo seen names a b mets → (t : TakesItem seen names a.lines (map (λ m. m.item) mets) b c) → RanTo seen names a c (mets ++ record { item = t.item; refused = t.takes.refused } ∷ [])
  ran_more names a b c mets ran t =
      let m : Met = record { item = t.item; refused = t.takes.refused } in
      record {
        told = subst (λ items. TellsItems seen a.lines c.lines items) (sym (map-append (λ (x : Met). x.item) mets (m ∷ []))) t.tells;
        met = all_push (IsMet names) mets m ran.met t.takes.met;
        sets = all_ran_step mets m names a.seats.items b.seats.items c.seats.items ran.sets t.takes.sets;
        done = ap (λ r. r.done) t.takes.report ∙ answer_done b.report t.takes.refused ∙ ap (λ n. n + count_by is_none (t.takes.refused ∷ [])) ran.done ∙ sym (sum_by-append (λ (x : Met). cond (is_none x.refused) 1 0) mets (m ∷ []));
        refused = ap (λ r. r.refused) t.takes.report ∙ answer_refused b.report t.takes.refused ∙ ap (λ rs. rs ++ filter_map (λ x. x) (t.takes.refused ∷ [])) ran.refused ∙ sym (filter_map-append (λ (x : Met). x.refused) mets (m ∷ []));
      }

  pub ran_feed : (names : List (List ℕ)) (a b c : FeedJob S) (mets : List Met) (why : FeedEnd) → RanTo seen names a b mets → TakesNone seen a.lines (map (λ m. m.item) mets) b c why → c.number ≡ a.number → RanFeed seen names a (record c { report = record c.report { end = why } })
  ran_feed names a b c mets why ran last number = record {
    mets = mets;
    ends = last.ends;
    met = ran.met;
    sets = all_ran_sees mets names a.seats.items b.seats.items c.seats.items ran.sets last.sees;
    done = ap (λ r. r.done) last.report ∙ ran.done;
    refused = ap (λ r. r.refused) last.report ∙ ran.refused;
    number = number;
  }
