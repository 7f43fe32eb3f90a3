-- A feed beside others: nothing yet, one line more, and its end.
use Rattle.std.proofs.Common.{◌≡◌, ℕ, ◌<◌, arith, List, [], ◌∷◌, ◌++◌, map, Option, Some, None, Result, Ok, Err, OnOk, refl, sym, ap, ◌∙◌, subst, append-nil, append_assoc}
use Rattle.std.proofs.lemmas.List.{map-append}
use Rattle.mh_io.specs.Source.{SourceSeen}
use Rattle.mh_io.specs.Lined.{Lined}
use Rattle.mh_io.specs.declared.lines_answer.LineFault.{LineFault}
use Rattle.mh_io.specs.declared.lines_answer.LineFault.TheVariants.{ReadFault, LineLong, TooLong, Memory}
use Rattle.std.specs.Prelude.{ℤ, pos}
use Rattle.csa_terms.specs.Terms.{Agreement}
use Rattle.csa_calls.specs.declared.CallAmount.{CallAmount}
use Rattle.csa_calls.specs.CallRule.{call_of_at}
use Rattle.feed_runs.specs.declared.feed_end.FeedEnd.{FeedEnd}
use Rattle.feed_runs.specs.declared.feed_end.FeedEnd.TheVariants as end_of
use Rattle.pool_feed.specs.declared.request.Request.{Request}
use Rattle.pool_feed.specs.declared.request.Request.TheVariants.{Call}
use Rattle.pool_feed.specs.declared.next.FedLine.{FedLine}
use Rattle.pool_feed.specs.Answers.{Told, ComesTo, Answers}
use Rattle.pool_feed.proofs.FedAnswers.{told_none, then_told, then_comes}
use Rattle.pool_gate.specs.declared.reply.Reply.TheVariants.{Called}
use Rattle.pool_gate.specs.declared.job.PoolJob.{PoolJob}
use Rattle.pool_gate.specs.Met.{Met, IsMet, held_after, refused_with, refused_of}
use Rattle.pool_gate.specs.Lines.{line_with, messages_text}
use Rattle.pool_gate.specs.Ends.{end_at, EndsAt}
use Rattle.pool_gate.specs.Jobs.{StepsSeat, KeepsJob, AddsLine, Replies, RepliesNothing, MeetsLine, Meets, TakesLine, TakesNone, Takes, RanTo, RanJob}
use Rattle.pool_gate.proofs.Mets.{met_more, added_more}
use Rattle.pool_gate.proofs.SeatSteps.{stays_so, stays_called, seat_none, seat_more, seat_stays}

-- a message was replied to
pub met_so : {S : Type 0} (terms : Agreement) (item : FedLine) (request : Request) (old new : PoolJob S) → item.request ≡ Some request → Replies terms item.line request old new → MeetsLine terms item old new
met_so terms item request old new is r =
    let its : item ≡ record { line = item.line; request = Some request } = ap (λ (q : Option Request). record { line = item.line; request = q }) is in
    subst (λ i. MeetsLine terms i old new) (sym its) (record {
      keeps = r.keeps;
      reply = Some r.reply;
      met = r.right;
      seat = r.seat;
      text = r.text;
      refused = r.refused ∙ sym (append-nil old.report.refused);
    })

-- what is called for was told, and nothing moved
called_so : {S : Type 0} (terms : Agreement) (line : ℕ) (margin booked : ℤ) (call : CallAmount) (old new : PoolJob S) → call ≡ call_of_at margin booked (pos old.seat.held) terms → AddsLine line (Call margin booked) (Called call) old new → Replies terms line (Call margin booked) old new
called_so terms line margin booked call old new right a = record {
  keeps = a.keeps;
  reply = Called call;
  right = right;
  seat = subst (StepsSeat (Some (Call margin booked)) (Some (Called call)) old.seat) (sym a.seat) (stays_called old.seat margin booked call);
  text = a.text;
  refused = a.refused;
}

-- the same where the line was told by numbers that are just these
pub called_where : {S T E : Type 0} (terms : Agreement) (line : ℕ) (margin booked m b : ℤ) (call : CallAmount) (old new : PoolJob S) (r : Result T E) → OnOk r (AddsLine line (Call m b) (Called call) old new) → m ≡ margin → b ≡ booked → call ≡ call_of_at margin booked (pos old.seat.held) terms → OnOk r (Replies terms line (Call margin booked) old new)
called_where terms line margin booked m b call old new (Err e) a m_is b_is right = tt
called_where terms line margin booked m b call old new (Ok o) a m_is b_is right =
    called_so terms line margin booked call old new right
    (subst (λ x. AddsLine line (Call x booked) (Called call) old new) m_is (subst (λ x. AddsLine line (Call m x) (Called call) old new) b_is a))

-- a line that is no message
pub refused_so : {S : Type 0} (terms : Agreement) (line : ℕ) (old new : PoolJob S) → KeepsJob old new → new.seat ≡ old.seat → new.report.text ≡ old.report.text → new.report.refused ≡ old.report.refused ++ line ∷ [] → MeetsLine terms (record { line = line; request = None }) old new
refused_so terms line old new keeps seat text refused = record {
  keeps = keeps;
  reply = None;
  met = tt;
  seat = subst (StepsSeat None None old.seat) (sym seat) (stays_so old.seat);
  text = text ∙ sym (append-nil old.report.text);
  refused = refused;
}

-- nothing came of a line
pub nothing_so : {S : Type 0} (old new : PoolJob S) → KeepsJob old new → new.seat ≡ old.seat → new.report.text ≡ old.report.text → new.report.refused ≡ old.report.refused → RepliesNothing old new
nothing_so old new keeps seat text refused = record {
  keeps = keeps;
  seat = subst (StepsSeat None None old.seat) (sym seat) (stays_so old.seat);
  text = text;
  refused = refused;
}

module _ {S : Type 0} (seen : S → SourceSeen) where
  -- ---- one line

  -- a line that was told was met, or there was no memory for it
  pub takes : (terms : Agreement) (first : Lined S) (told : List FedLine) (item : FedLine) (old mid new : PoolJob S) (why : Option FeedEnd) → Told seen first old.lines told → Answers seen old.lines mid.lines (Ok (Some item)) → mid.number ≡ old.number → mid.seat ≡ old.seat → mid.report ≡ old.report → Meets terms item mid new why → Takes seen terms first told old new why
  takes terms first told item old mid new None so_far answers number seat report h = record {
    item = item;
    tells = subst (λ lines. Told seen first lines (told ++ item ∷ [])) (sym h.keeps.lines) (then_told seen first old.lines mid.lines told (item ∷ []) so_far answers.0);
    meets = record {
      keeps = record { number = h.keeps.number ∙ number; lines = refl };
      reply = h.reply;
      met = subst (λ s. IsMet s.total terms s.held (record { item = item; reply = h.reply })) seat h.met;
      seat = subst (λ s. StepsSeat item.request h.reply s new.seat) seat h.seat;
      text = h.text ∙ ap (λ r. r.text ++ line_with mid.number item.line item.request h.reply) report ∙ ap (λ n. old.report.text ++ line_with n item.line item.request h.reply) number;
      refused = h.refused ∙ ap (λ r. r.refused ++ refused_with item.line h.reply) report;
    };
  }
  takes terms first told item old mid new (Some why) so_far answers number seat report h =
      let nothing = h.nothing in
      record {
        ends = subst (λ w. EndsAt seen w first new.lines told) (sym h.line)
            (subst (λ lines. ComesTo seen first lines told item.line) (sym nothing.keeps.lines) (then_comes seen first old.lines mid.lines told item.line so_far answers.1));
        number = nothing.keeps.number ∙ number;
        seat = subst (λ s. StepsSeat None None s new.seat) seat nothing.seat;
        text = nothing.text ∙ ap (λ r. r.text) report;
        refused = nothing.refused ∙ ap (λ r. r.refused) report;
      }

  pub goes_forward : (terms : Agreement) (item : FedLine) (old mid new : PoolJob S) (why : Option FeedEnd) → Answers seen old.lines mid.lines (Ok (Some item)) → Meets terms item mid new why → why ≡ None → old.lines.given < new.lines.given
  goes_forward terms item old mid new None answers h none = omega (arith, ap (λ (l : Lined S). l.given) h.keeps.lines, answers.1.number, answers.2)
  goes_forward terms item old mid new (Some why) answers h none = absurd (cc none)

  no_more : (first old new : Lined S) (told : List FedLine) → Told seen first old told → Told seen old new [] → Told seen first new told
  no_more first old new told so_far last = subst (Told seen first new) (append-nil told) (then_told seen first old new told [] so_far last)

  -- the feed ended
  pub ends_whole : (first old new : Lined S) (told : List FedLine) → Told seen first old told → Answers seen old new (Ok None) → EndsAt seen end_of.End first new told
  ends_whole first old new told so_far answers = (no_more first old new told so_far answers.0, answers.1)

  pub ends_at_fault : (first old new : Lined S) (told : List FedLine) (f : LineFault) → Told seen first old told → Answers seen old new (Err f) → EndsAt seen (end_at f new.given) first new told
  ends_at_fault first old new told ReadFault so_far answers = (no_more first old new told so_far answers.0, answers.1)
  ends_at_fault first old new told LineLong so_far answers = (no_more first old new told so_far answers.0, answers.1, refl)
  ends_at_fault first old new told (TooLong taken) so_far answers = (no_more first old new told so_far answers.0.0, answers.0.1, answers.1)
  ends_at_fault first old new told Memory so_far answers = then_comes seen first old new told _ so_far answers

  -- ---- all lines

  pub ran_none : (terms : Agreement) (job : PoolJob S) → RanTo seen terms job job []
  ran_none terms job = record {
    told = told_none seen job.lines;
    met = tt;
    seat = seat_none job.seat;
    text = sym (append-nil job.report.text);
    refused = sym (append-nil job.report.refused);
    number = refl;
  }

  pub ran_more : (terms : Agreement) (a b c : PoolJob S) (mets : List Met) → RanTo seen terms a b mets → (t : TakesLine seen terms a.lines (map (λ m. m.item) mets) b c) → RanTo seen terms a c (mets ++ record { item = t.item; reply = t.meets.reply } ∷ [])
  ran_more terms a b c mets ran t =
      let m : Met = record { item = t.item; reply = t.meets.reply } in
      let here = t.meets in
      record {
        told = subst (Told seen a.lines c.lines) (sym (map-append (λ (x : Met). x.item) mets (m ∷ []))) t.tells;
        met = met_more a.seat.total terms a.seat.held mets m ran.met
            (subst (λ total. IsMet total terms (held_after a.seat.held mets) m) ran.seat.same.total (subst (λ held. IsMet b.seat.total terms held m) ran.seat.held here.met));
        seat = seat_more mets m a.seat b.seat c.seat ran.seat here.seat;
        text =
            here.text
            ∙ ap (λ text. text ++ line_with b.number t.item.line t.item.request here.reply) ran.text
            ∙ ap (λ n. (a.report.text ++ messages_text a.number mets) ++ line_with n t.item.line t.item.request here.reply) ran.number
            ∙ append_assoc a.report.text (messages_text a.number mets) (line_with a.number t.item.line t.item.request here.reply)
            ∙ ap (λ text. a.report.text ++ text) (sym (added_more (λ x. line_with a.number x.item.line x.item.request x.reply) mets m));
        refused =
            here.refused
            ∙ ap (λ lines. lines ++ refused_with t.item.line here.reply) ran.refused
            ∙ append_assoc a.report.refused (refused_of mets) (refused_with t.item.line here.reply)
            ∙ ap (λ lines. a.report.refused ++ lines) (sym (added_more (λ x. refused_with x.item.line x.reply) mets m));
        number = here.keeps.number ∙ ran.number;
      }

  pub ran_job : (terms : Agreement) (a b c : PoolJob S) (mets : List Met) (why : FeedEnd) → RanTo seen terms a b mets → TakesNone seen a.lines (map (λ m. m.item) mets) b c why → RanJob seen terms a (record c { report = record c.report { end = why } })
  ran_job terms a b c mets why ran last = record {
    mets = mets;
    ends = last.ends;
    met = ran.met;
    seat = seat_stays mets a.seat b.seat c.seat ran.seat last.seat;
    text = last.text ∙ ran.text;
    refused = last.refused ∙ ran.refused;
    number = last.number ∙ ran.number;
  }
