-- Feeds that were run on sets from their first byte, told by the journals of the sets at the end.
use Rattle.std.proofs.Common.{◌≡◌, ℕ, ◌+◌, ◌<◌, arith, List, [], ◌∷◌, ◌++◌, length, map, get_or, All, Some, refl, sym, ap, ◌∙◌, subst}
use Rattle.std.specs.List.{AllByRecursion, AllZip, IsDistinct, slice_get}
use Rattle.std.specs.Option.{option_map}
use Rattle.std.proofs.lemmas.List.{length-map}
use Rattle.std.proofs.lemmas.List.Elements.{All-nil, All-cons, recursion_from_All}
use Rattle.std.proofs.lemmas.Option.{slice_get-map, slice_get-get_or, slice_get_within}
use Rattle.feed_events.specs.CrifReader.SimmKinds.Order.{same_name}
use Rattle.feed_events.specs.FeedReader.MhIo.Source.{SourceSeen}
use Rattle.feed_events.specs.FeedReader.MhIo.Lined.{is_ended}
use Rattle.feed_events.specs.SetCore.HeldCell.declared.entry.Entry.{Entry}
use Rattle.feed_events.specs.SetCore.declared.event.Event.{Event}
use Rattle.feed_events.specs.SetCore.declared.reply.Reply.{Reply}
use Rattle.feed_events.specs.SetCore.Set.{Set}
use Rattle.feed_runs.specs.Untaken.{fresh}
use Rattle.feed_gate.specs.declared.job.FeedJob.{FeedJob}
use Rattle.feed_gate.specs.Run.{EndsAt}
use Rattle.feed_gate.specs.Sets.{AreApart}
use Rattle.feed_gate.specs.Seats.{Cell, Seat, AreNamed, AreSeats, OfEachSet}
use Rattle.feed_gate.specs.Met.{Met, events_of, events_done, ShowFronts}
use Rattle.feed_gate.specs.Jobs.{RanOnSet, RanFeed}
use Rattle.feed_gate.specs.Share.{Starts, IsFor, IsUnused, AreRows, AreCellRows, Holds, Closes, AreKeptIn}
use Rattle.feed_gate.specs.SetsRun.{IsRun, IsFedBy, RanSource, AllRan, RanOnSets}
use Rattle.feed_runs.proofs.Zips.{some_at, zip_length, zip_get, zip_at, zip_places}
use Rattle.feed_runs.proofs.Supplies.{ended_supply}
use Rattle.feed_gate.proofs.Feeds.{Ended, ended}
use Rattle.feed_gate.proofs.OneSet.{fronts_longer}

abbrev name_of : Set → List ℕ
name_of s = s.terms.collect.name

-- ---- the sets

pub run_sets : (n : ℕ) (old : List Set) (cells : List Cell) (new : List Set) → AllZip (Starts n) old cells → AllZip (Closes n) cells new → AllZip (IsRun n) old new
run_sets n [] [] [] starts closes = tt
run_sets n [] [] (s ∷ new) starts closes = absurd closes
run_sets n [] (c ∷ cells) new starts closes = absurd starts
run_sets n (s ∷ old) [] new starts closes = absurd starts
run_sets n (s ∷ old) (c ∷ cells) [] starts closes = absurd closes
run_sets n (s ∷ old) (c ∷ cells) (t ∷ new) starts closes =
    let same = closes.0.base ∙ starts.0.base in (
      record { params = ap (λ b. b.0) same; terms = ap (λ b. b.1) same; legal = closes.0.legal; callers = closes.0.callers },
      run_sets n old cells new starts.1 closes.1,
    )

pub names_stay : (n : ℕ) (old new : List Set) → AllZip (IsRun n) old new → map (λ s. s.terms.collect.name) old ≡ map (λ s. s.terms.collect.name) new
names_stay n [] [] all = refl
names_stay n [] (t ∷ new) all = absurd all
names_stay n (s ∷ old) [] all = absurd all
names_stay n (s ∷ old) (t ∷ new) all =
    ap (λ u. u.collect.name ∷ map (λ x. x.terms.collect.name) old) (sym all.0.terms) ∙ ap (λ ns. t.terms.collect.name ∷ ns) (names_stay n old new all.1)

pub named_of : (n : ℕ) (names : List (List ℕ)) (sets : List Set) (cells : List Cell) → names ≡ map (λ s. s.terms.collect.name) sets → AreApart sets → AllZip (Starts n) sets cells → AreNamed names cells
named_of n names sets cells is apart starts =
    let many : length names ≡ length sets = ap length is ∙ length-map sets (λ (s : Set). s.terms.collect.name) in
    record {
      few = omega (arith, many, apart.few);
      different = subst (IsDistinct same_name) (sym is) apart.different;
      count = zip_length (Starts n) sets cells starts ∙ sym many;
    }

pub callers_of : (n : ℕ) (sets : List Set) (cells : List Cell) → AllZip (Starts n) sets cells → All (λ cell. cell.callers ≡ n) cells
callers_of n [] [] starts = All-nil (λ (c : Cell). c.callers ≡ n)
callers_of n [] (c ∷ cells) starts = absurd starts
callers_of n (s ∷ sets) [] starts = absurd starts
callers_of n (s ∷ sets) (c ∷ cells) starts = All-cons (λ (x : Cell). x.callers ≡ n) c cells starts.0.callers (callers_of n sets cells starts.1)

-- ---- the seats

seats_of : (from : ℕ) (cells : List Cell) (row : List Seat) → AllZip (IsUnused from 1) cells row → AreSeats cells row
seats_of from cells row all = record {
  count = zip_length (IsUnused from 1) cells row all;
  each = λ place cell seat at_cell at_seat. (zip_at (IsUnused from 1) cells row place cell seat all at_cell at_seat).is.of;
}

for_after : (from : ℕ) (mets : List Met) (names : List (List ℕ)) (cells : List Cell) (old new : List Seat) → length names ≡ length cells → AllZip (IsUnused from 1) cells old → OfEachSet (RanOnSet mets) names old new → AllZip (IsFor from 1) cells new
for_after from mets names cells old new same all ran =
    zip_places (IsFor from 1) cells new (ran.count ∙ zip_length (IsUnused from 1) cells old all)
    (λ place cell seat at_cell at_seat.
    let before = zip_get (IsUnused from 1) cells old place cell all at_cell in
    let within = slice_get_within cells place cell at_cell in
    let name = some_at names place (omega (arith, within, same)) in
    let it = ran.each place name.0 before.0 seat name.1 before.1 at_seat in
    record {
      of = (it.same.table ∙ before.2.is.of.0, it.same.base ∙ before.2.is.of.1);
      first = it.same.first ∙ before.2.is.first;
      count = it.same.count ∙ before.2.is.count;
    })

-- ---- a feed on its sets

record IsUnusedSeat (feed : ℕ) (a : Seat) : Type 0 where
  first : a.first ≡ feed
  count : a.count ≡ 1
  own : a.own ≡ []

fed_by : (feed : ℕ) (mets : List Met) (name : List ℕ) (a b : Seat) (log : List (Entry Event Reply)) → IsUnusedSeat feed a → RanOnSet mets name a b → Holds feed b log → IsFedBy feed mets name log
fed_by feed mets name a b log unused ran holds = record {
  own = ap events_of holds.own ∙ ran.own ∙ ap (λ es. events_of es ++ events_done name mets) unused.own;
  fronts = subst (λ es. ShowFronts feed 1 log name es mets) (ap events_of unused.own)
      (subst (λ n. ShowFronts feed n log name (events_of a.own) mets) unused.count
      (subst (λ f. ShowFronts f a.count log name (events_of a.own) mets) unused.first
      (fronts_longer a.first a.count b.seen log holds.begins name (events_of a.own) mets ran.fronts)));
}

each_fed : (feed : ℕ) (mets : List Met) (cells : List Cell) (sets : List Set) (old new : List Seat) → length sets ≡ length cells → AllZip (IsUnused feed 1) cells old → OfEachSet (RanOnSet mets) (map (λ s. s.terms.collect.name) sets) old new → ((place : ℕ) (seat : Seat) (set : Set) → slice_get new place ≡ Some seat → slice_get sets place ≡ Some set → Holds feed seat set.journal) → AllByRecursion (λ s. IsFedBy feed mets s.terms.collect.name s.journal) sets
each_fed feed mets cells sets old new same unused ran holds = recursion_from_All (λ s. IsFedBy feed mets s.terms.collect.name s.journal) sets at
  where
    at : (k : ℕ) (d : Set) → k < length sets → IsFedBy feed mets (get_or sets k d).terms.collect.name (get_or sets k d).journal
    at k d within =
        let at_set = slice_get-get_or sets k d within in
        let at_name = slice_get-map name_of sets k ∙ ap (option_map name_of) at_set in
        let cell = some_at cells k (omega (arith, within, same)) in
        let a = zip_get (IsUnused feed 1) cells old k cell.0 unused cell.1 in
        let b = some_at new k (omega (arith, slice_get_within old k a.0 a.1, ran.count)) in
        fed_by feed mets (get_or sets k d).terms.collect.name a.0 b.0 (get_or sets k d).journal (record { first = a.2.is.first; count = a.2.is.count; own = a.2.own })
        (ran.each k (get_or sets k d).terms.collect.name a.0 b.0 at_name a.1 b.1) (holds k b.0 (get_or sets k d) b.1 at_set)

module _ {S : Type 0} (seen : S → SourceSeen) where
  pub all_seats : (cells : List Cell) (from : ℕ) (jobs : List (FeedJob S)) → AreRows cells from (map (λ job. job.seats.items) jobs) → All (λ job. AreSeats cells job.seats.items) jobs
  all_seats cells from [] rows = All-nil (λ (job : FeedJob S). AreSeats cells job.seats.items)
  all_seats cells from (job ∷ jobs) rows = All-cons (λ (j : FeedJob S). AreSeats cells j.seats.items) job jobs (seats_of from cells job.seats.items rows.0) (all_seats cells (from + 1) jobs rows.1)

  pub rows_after : (names : List (List ℕ)) (cells : List Cell) (from : ℕ) (old new : List (FeedJob S)) → length names ≡ length cells → AreRows cells from (map (λ job. job.seats.items) old) → AllZip (RanFeed seen names) old new → AreCellRows cells from (map (λ job. job.seats.items) new)
  rows_after names cells from [] [] same rows ran = tt
  rows_after names cells from [] (b ∷ new) same rows ran = absurd ran
  rows_after names cells from (a ∷ old) [] same rows ran = absurd ran
  rows_after names cells from (a ∷ old) (b ∷ new) same rows ran = (
    for_after from ran.0.mets names cells a.seats.items b.seats.items same rows.0 ran.0.sets,
    rows_after names cells (from + 1) old new same rows.1 ran.1,
  )

  ran_source : (cells : List Cell) (sets : List Set) (feed : ℕ) (s : S) (a b : FeedJob S) → length sets ≡ length cells → a.lines ≡ fresh s → AllZip (IsUnused feed 1) cells a.seats.items → RanFeed seen (map (λ t. t.terms.collect.name) sets) a b → ((place : ℕ) (seat : Seat) (set : Set) → slice_get b.seats.items place ≡ Some seat → slice_get sets place ≡ Some set → Holds feed seat set.journal) → RanSource seen sets feed s b.lines.source b.report
  ran_source cells sets feed s a b same lines unused ran holds =
      let its : Ended seen s b.lines (map (λ m. m.item) ran.mets) b.report.end = ended seen b.report.end (subst (λ l. EndsAt seen b.report.end l b.lines (map (λ m. m.item) ran.mets)) lines ran.ends) in
      record {
        taken = its.bytes;
        ended = is_ended b.lines.supply;
        takes = its.took.takes;
        few = let few = its.took.few (omega arith) in omega (arith, few, its.took.total);
        count = its.took.count;
        named = its.took.named;
        ran = record { mets = ran.mets; stop = its.stop; met = ran.met; done = ran.done; refused = ran.refused; each = each_fed feed ran.mets cells sets a.seats.items b.seats.items same unused ran.sets holds };
        at_end = λ e. its.took.at_end refl (ended_supply b.lines.supply e);
        whole = λ e. ap is_ended (its.whole e);
        failed = λ e. its.took.failed refl (its.failed e);
      }

  pub all_ran : (cells : List Cell) (sets : List Set) (from : ℕ) (sources : List S) (old new : List (FeedJob S)) → length sets ≡ length cells → map (λ job. job.lines) old ≡ map fresh sources → AreRows cells from (map (λ job. job.seats.items) old) → AllZip (RanFeed seen (map (λ t. t.terms.collect.name) sets)) old new → AreKeptIn from (map (λ job. job.seats.items) new) sets → AllRan seen sets from sources (map (λ job. job.lines.source) new) (map (λ job. job.report) new)
  all_ran cells sets from [] [] [] same lines rows ran kept = tt
  all_ran cells sets from [] [] (b ∷ new) same lines rows ran kept = absurd ran
  all_ran cells sets from [] (a ∷ old) new same lines rows ran kept = absurd (cc (lines))
  all_ran cells sets from (s ∷ sources) [] new same lines rows ran kept = absurd (cc (lines))
  all_ran cells sets from (s ∷ sources) (a ∷ old) [] same lines rows ran kept = absurd ran
  all_ran cells sets from (s ∷ sources) (a ∷ old) (b ∷ new) same lines rows ran kept =
      let here : a.lines ≡ fresh s = cc (lines) in
      let others : map (λ job. job.lines) old ≡ map fresh sources = cc (lines) in (
        ran_source cells sets from s a b same here rows.0 ran.0 kept.0,
        all_ran cells sets (from + 1) sources old new same others rows.1 ran.1 kept.1,
      )

  pub ran_on_sets : (n : ℕ) (names : List (List ℕ)) (before after : List Set) (cells : List Cell) (sources : List S) (old new : List (FeedJob S)) → n ≡ length sources → names ≡ map (λ s. s.terms.collect.name) before → AllZip (Starts n) before cells → map (λ job. job.lines) old ≡ map fresh sources → AreRows cells 0 (map (λ job. job.seats.items) old) → AllZip (RanFeed seen names) old new → AllZip (Closes n) cells after → AreKeptIn 0 (map (λ job. job.seats.items) new) after → RanOnSets seen before after sources (map (λ job. job.lines.source) new) (map (λ job. job.report) new)
  ran_on_sets n names before after cells sources old new many named starts lines rows ran closes kept =
      let sets = run_sets n before cells after starts closes in
      record {
        sets = subst (λ m. AllZip (IsRun m) before after) many sets;
        feeds = all_ran cells after 0 sources old new (zip_length (Closes n) cells after closes) lines rows
            (subst (λ ns. AllZip (RanFeed seen ns) old new) (named ∙ names_stay n before after sets) ran) kept;
      }
