-- Feeds that were run on a pool from their first byte, told by their reports at the end.
use Rattle.std.proofs.Common.{◌≡◌, ℕ, ◌+◌, ◌≤◌, List, [], ◌∷◌, ◌++◌, map, refl, sym, ap, ◌∙◌, subst, arith}
use Rattle.std.specs.Prelude.{sum_by, slice_get}
use Rattle.std.specs.List.{AllByRecursion, AllZip}
use Rattle.std.proofs.lemmas.List.Sums.{sum_by-cons}
use Rattle.mh_io.specs.Source.{SourceSeen}
use Rattle.mh_io.specs.Lined.{is_ended}
use Rattle.csa_terms.specs.Terms.{Agreements}
use Rattle.feed_runs.specs.Ran.{EachRan}
use Rattle.feed_runs.proofs.Supplies.{ended_supply}
use Rattle.threshold_pool.specs.Seats.{PoolState, SeatState, fresh_seat}
use Rattle.pool_gate.specs.declared.job.PoolReport.{PoolReport}
use Rattle.pool_gate.specs.declared.job.PoolJob.{PoolJob}
use Rattle.pool_gate.specs.Met.{AreMet, top_after, held_after, refused_of}
use Rattle.pool_gate.specs.Lines.{messages_text}
use Rattle.pool_gate.specs.Ends.{EndsAt}
use Rattle.pool_gate.specs.Share.{IsFresh, AreFresh, RanWithTerms, IsPart, reported, KeepsRest}
use Rattle.pool_gate.specs.PoolRun.{Fate, all_tops, all_held, RanSource, RanOnPool}
use Rattle.pool_gate.proofs.Mets.{rests_in}
use Rattle.pool_gate.proofs.SeatSteps.{still_of}
use Rattle.pool_gate.proofs.Ended.{Ended, ended}

module _ {S : Type 0} (seen : S → SourceSeen) (sets : List Agreements) where
  -- ---- one feed

  one_fate : (total tops from : ℕ) (pool : PoolState) (source : S) (seat : SeatState) (a b : PoolJob S) → pool.total ≡ total → IsFresh from source seat a → seat ≡ fresh_seat pool 1 → (ran : RanWithTerms seen sets a b) → total ≤ b.seat.least + tops → RanSource seen total tops sets from source b.lines.source (record { report = reported b; mets = ran.ran.mets })
  one_fate total tops from pool source seat a b is_total begun new_seat ran enough =
      let its : Ended seen source b.lines (map (λ m. m.item) ran.ran.mets) b.report.end =
      ended seen source b.lines (map (λ m. m.item) ran.ran.mets) b.report.end (subst (λ l. EndsAt seen b.report.end l b.lines (map (λ m. m.item) ran.ran.mets)) begun.lines ran.ran.ends) in
      let first : a.seat ≡ fresh_seat pool 1 = begun.seat ∙ new_seat in
      let before : a.seat.total ≡ total = ap (λ (s : SeatState). s.total) first ∙ is_total in
      let nothing : a.seat.held ≡ 0 = ap (λ (s : SeatState). s.held) first in
      record {
        taken = its.bytes;
        ended = is_ended b.lines.supply;
        takes = its.took.takes;
        few = let few = its.took.few (omega arith) in omega (arith, few, its.took.total);
        count = its.took.count;
        named = its.took.named;
        ran = record {
          terms = ran.terms;
          its = ap (slice_get sets) (sym begun.number) ∙ ran.its;
          stop = its.stop;
          met = subst (λ held. AreMet total ran.terms.collect held ran.ran.mets) nothing (subst (λ n. AreMet n ran.terms.collect a.seat.held ran.ran.mets) before ran.ran.met);
          rests = rests_in (λ rest. b.seat.least ≤ rest) (λ rest. total ≤ rest + tops) (λ rest low. omega (arith, enough, low)) ran.ran.mets ran.ran.seat.rests;
          held = ran.ran.seat.held ∙ ap (λ held. held_after held ran.ran.mets) nothing;
          text = ran.ran.text ∙ ap (λ (r : PoolReport). r.text ++ messages_text a.number ran.ran.mets) begun.report ∙ ap (λ n. messages_text n ran.ran.mets) begun.number;
          refused = ran.ran.refused ∙ ap (λ (r : PoolReport). r.refused ++ refused_of ran.ran.mets) begun.report;
        };
        at_end = λ e. its.took.at_end refl (ended_supply b.lines.supply e);
        whole = λ e. ap is_ended (its.whole e);
        failed = λ e. its.took.failed refl (its.failed e);
      }

  -- ---- all feeds

  record Fates (total from : ℕ) (sources : List S) (new : List (PoolJob S)) : Type 0 where
    fates : List Fate
    reports : map (λ f. f.report) fates ≡ map reported new
    held : all_held fates ≡ sum_by (λ s. s.held) (map (λ job. job.seat) new)
    tops : all_tops fates ≡ sum_by (λ s. s.top) (map (λ job. job.seat) new)
    each : (tops : ℕ) → AllByRecursion (λ s. total ≤ s.least + tops) (map (λ job. job.seat) new) → EachRan (RanSource seen total tops sets) from sources (map (λ job. job.lines.source) new) fates

  all_fates : (total from : ℕ) (pool : PoolState) (sources : List S) (seats : List SeatState) (old new : List (PoolJob S)) → pool.total ≡ total → AreFresh from sources seats old → AllByRecursion (λ s. s ≡ fresh_seat pool 1) seats → AllZip (RanWithTerms seen sets) old new → Fates total from sources new
  all_fates total from pool [] [] [] [] is_total begun new_seats ran = record { fates = []; reports = refl; held = refl; tops = refl; each = λ tops enough. tt }
  all_fates total from pool (source ∷ sources) (seat ∷ seats) (a ∷ old) (b ∷ new) is_total begun new_seats ran =
      let rest = all_fates total (from + 1) pool sources seats old new is_total begun.1 new_seats.1 ran.1 in
      let f : Fate = record { report = reported b; mets = ran.0.ran.mets } in
      let top : b.seat.top ≡ top_after 0 ran.0.ran.mets = ran.0.ran.seat.top ∙ ap (λ (s : SeatState). top_after s.top ran.0.ran.mets) (begun.0.seat ∙ new_seats.0) in
      record {
        fates = f ∷ rest.fates;
        reports = ap (λ reports. reported b ∷ reports) rest.reports;
        held = omega (arith, rest.held, sum_by-cons (λ (x : Fate). x.report.held) f rest.fates, sum_by-cons (λ (s : SeatState). s.held) b.seat (map (λ (job : PoolJob S). job.seat) new));
        tops = omega (arith, rest.tops, top, sum_by-cons (λ (x : Fate). top_after 0 x.mets) f rest.fates, sum_by-cons (λ (s : SeatState). s.top) b.seat (map (λ (job : PoolJob S). job.seat) new));
        each = λ tops enough. (one_fate total tops from pool source seat a b is_total begun.0 new_seats.0 ran.0 enough.0, rest.each tops enough.1);
      }
  all_fates total from pool [] [] [] (b ∷ new) is_total begun new_seats ran = absurd ran
  all_fates total from pool [] [] (a ∷ old) new is_total begun new_seats ran = absurd begun
  all_fates total from pool [] (seat ∷ seats) old new is_total begun new_seats ran = absurd begun
  all_fates total from pool (source ∷ sources) [] old new is_total begun new_seats ran = absurd begun
  all_fates total from pool (source ∷ sources) (seat ∷ seats) [] new is_total begun new_seats ran = absurd begun
  all_fates total from pool (source ∷ sources) (seat ∷ seats) (a ∷ old) [] is_total begun new_seats ran = absurd ran

  -- the feeds were run, and the seats of all are what is told at the end
  pub ran_on_pool : (total : ℕ) (pool : PoolState) (sources : List S) (seats : List SeatState) (old new : List (PoolJob S)) (rest : ℕ) → pool.total ≡ total → AreFresh 0 sources seats old → AllByRecursion (λ s. s ≡ fresh_seat pool 1) seats → AllZip (RanWithTerms seen sets) old new → KeepsRest total (map (λ job. job.seat) new) rest → RanOnPool seen total sets sources (map (λ job. job.lines.source) new) (map reported new) rest
  ran_on_pool total pool sources seats old new rest is_total begun new_seats ran keeps =
      let its = all_fates total 0 pool sources seats old new is_total begun new_seats ran in
      record {
        fates = its.fates;
        reported = its.reports;
        feeds = its.each (all_tops its.fates) (subst (λ tops. AllByRecursion (λ s. total ≤ s.least + tops) (map (λ job. job.seat) new)) (sym its.tops) keeps.least);
        amounts = omega (arith, its.held, keeps.amounts);
      }

  -- each seat is still one of the pool's, with one of its parts
  pub still_parts : (pool : PoolState) (from : ℕ) (sources : List S) (seats : List SeatState) (old new : List (PoolJob S)) → AreFresh from sources seats old → AllByRecursion (λ s. s ≡ fresh_seat pool 1) seats → AllZip (RanWithTerms seen sets) old new → AllByRecursion (λ job. IsPart pool job.seat) new
  still_parts pool from [] [] [] [] begun new_seats ran = tt
  still_parts pool from (source ∷ sources) (seat ∷ seats) (a ∷ old) (b ∷ new) begun new_seats ran =
      let first : a.seat ≡ fresh_seat pool 1 = begun.0.seat ∙ new_seats.0 in
      let same = ran.0.ran.seat.same in (
        record {
          of = still_of pool a.seat b.seat (ap (λ (s : SeatState). s.table) first, ap (λ (s : SeatState). s.total) first) same;
          part = same.parts ∙ ap (λ (s : SeatState). s.parts) first;
        },
        still_parts pool (from + 1) sources seats old new begun.1 new_seats.1 ran.1,
      )
  still_parts pool from [] [] [] (b ∷ new) begun new_seats ran = absurd ran
  still_parts pool from [] [] (a ∷ old) new begun new_seats ran = absurd begun
  still_parts pool from [] (seat ∷ seats) old new begun new_seats ran = absurd begun
  still_parts pool from (source ∷ sources) [] old new begun new_seats ran = absurd begun
  still_parts pool from (source ∷ sources) (seat ∷ seats) [] new begun new_seats ran = absurd begun
  still_parts pool from (source ∷ sources) (seat ∷ seats) (a ∷ old) [] begun new_seats ran = absurd ran
