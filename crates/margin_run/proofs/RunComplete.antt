-- A run for which all is well succeeds, or finds no memory.
use Rattle.std.proofs.Common.{◌≡◌, ℕ, ◌+◌, ◌≤◌, Bool, true, List, [], ◌∷◌, ◌++◌, length, map, Some, option_map, ap, sym, refl, subst, inl, inr, ◌∙◌, length-append, arith}
use Rattle.std.specs.List.{AllByRecursion}
use Rattle.mh_io.specs.Faults.{Rises}
use Rattle.mh_io.specs.Sink.{SinkSeen}
use Rattle.mh_io.specs.Folder.{Telling, Reading, FolderSeen}
use Rattle.mh_io.specs.Limits.{most_bytes}
use Rattle.feed_gate.specs.FeedReader.Feed as message
use Rattle.feed_gate.specs.FeedReader.Feed.{Item, FeedRun, feed}
use Rattle.feed_gate.specs.SetCore.Set.{Set}
use Rattle.feed_runs.specs.declared.feed_end.FeedEnd.{FeedEnd}
use Rattle.feed_runs.specs.declared.feed_end.FeedEnd.TheVariants as end_at
use Rattle.feed_gate.specs.declared.report.FeedReport.{FeedReport}
use Rattle.feed_gate.specs.Run.{IsEnd}
use Rattle.feed_files.specs.CommandFiles.declared.status.Status.{Status}
use Rattle.feed_files.specs.CommandFiles.declared.status.Status.TheVariants as status
use Rattle.feed_files.specs.CommandFiles.declared.fault.InputFile.TheVariants as input
use Rattle.feed_files.specs.CommandFiles.declared.fault.FileFault.TheVariants as why
use Rattle.feed_files.specs.CommandFiles.declared.fault.Fault.{Fault}
use Rattle.feed_files.specs.CommandFiles.declared.fault.Fault.TheVariants as fault
use Rattle.feed_files.specs.CommandFiles.Files.{Deeds, no_deeds, with_reading, told_after}
use Rattle.feed_files.specs.Ends.{status_of_end}
use Rattle.margin_run.specs.Fed.{IsFed}
use Rattle.feed_files.specs.CommandFiles.Grammars.{RefusesParams, RefusesTerms}
use Rattle.feed_files.specs.CommandFiles.Ending.{status_of}
use Rattle.margin_run.specs.Notices.{notices}
use Rattle.margin_run.specs.Desks.{Desks}
use Rattle.margin_run.specs.declared.account.Account.{Account}
use Rattle.margin_run.specs.Run.{HasRun, RunCause, RunLeaves, RunEnds, end_of}
use Rattle.feed_files.specs.CommandFiles.Complete.{EndsWell}
use Rattle.margin_run.specs.Complete.{IsWellFeed, IsWellRun}
use Rattle.feed_files.proofs.CommandFiles.FileLemmas.{rises_earlier}
use Rattle.feed_files.proofs.CommandFiles.KnownFiles.{same_bytes, front_bytes, only_memory_for, params_taken, terms_taken}
use Rattle.feed_files.proofs.EndLemmas.{ends_whole, read_failed}
use Rattle.margin_run.proofs.FeedStops.{not_cut, not_long, not_over}
use Rattle.margin_run.proofs.DeskLemmas.{none_failed}

-- the end of a feed that is whole and fits, of which a front was taken
whole_end : (end : FeedEnd) (items : List Item) (taken rest bytes : List ℕ) (ended : Bool)
    → IsEnd end items taken ended → taken ++ rest ≡ bytes → (ended ≡ true → taken ≡ bytes)
    → length bytes ≤ most_bytes → (feed bytes true).stop ≡ message.Whole → status_of_end end ≡ status.Feed → ⊥
whole_end end_at.End items taken rest bytes ended is front all few whole e = cc e
whole_end (end_at.Cut line) items taken rest bytes ended is front all few whole e =
    not_cut taken bytes ended line all whole (ap (λ (r : FeedRun). r.stop) is)
whole_end (end_at.LineLong line) items taken rest bytes ended is front all few whole e =
    let joined : (feed (taken ++ rest) true).stop ≡ message.Whole = ap (λ xs. (feed xs true).stop) front ∙ whole in
    not_long taken rest ended line (omega (arith, ap length front)) joined (ap (λ (r : FeedRun). r.stop) is)
whole_end (end_at.TooLong n) items taken rest bytes ended is front all few whole e =
    let fits : length taken ≤ most_bytes = omega (arith, ap length front, length-append taken rest) in
    not_over taken ended fits (ap (λ (r : FeedRun). r.stop) is.0)
whole_end end_at.ReadFault items taken rest bytes ended is front all few whole e = cc e
whole_end (end_at.Memory line) items taken rest bytes ended is front all few whole e = cc e

-- a feed that stops whole isn't left before its end
fed_whole : (old new : FolderSeen) (sets : List Set) (feed : ℕ) (name : List ℕ) (r : FeedReport) (reading : Reading) (t : Telling) → old.told ≡ Some t → IsWellFeed t name → IsFed old new sets feed name r reading → status_of_end r.end ≡ status.Feed → ⊥
fed_whole old new sets feed name r reading t told well fed e =
    let front = front_bytes old.told t name reading.taken well.bytes told fed.front well.there in
    let all = λ (over : fed.ended ≡ true). same_bytes old.told t name reading.taken well.bytes told (fed.all over) well.there in
    let ran = fed.ran in
    whole_end r.end (map (λ m. m.item) ran.mets) reading.taken front.0 well.bytes fed.ended ran.stop front.1 all well.fits well.whole e

-- the files stand whatever was done
well_after : (deeds : Deeds) (t : Telling) (names : List (List ℕ)) → AllByRecursion (IsWellFeed t) names → AllByRecursion (IsWellFeed (told_after deeds t)) names
well_after deeds t [] well = tt
well_after deeds t (n ∷ names) well = (record { bytes = (well.0).bytes; there = (well.0).there; fits = (well.0).fits; whole = (well.0).whole }, well_after deeds t names well.1)

module _ {B : Type 0} {pn tn : List ℕ} {fns : List (List ℕ)} {old new : FolderSeen} {out_old out_new : SinkSeen} {d : Desks B}
    (w : IsWellRun pn tn fns old new out_old out_new d) where
  -- no fault comes but want of memory
  only_memory : (f : Fault) → RunCause pn tn fns old new f → status_of f ≡ status.Memory
  only_memory (fault.OfFile input.Params name f) h =
      ap (λ e. status_of (fault.OfFile input.Params name e))
      (only_memory_for old new no_deeds pn w.param_bytes RefusesParams w.t f w.told w.has_params w.params_fit
      (params_taken w.param_bytes w.p w.params_read) w.finds_stood w.reads_stood h.1)
  only_memory (fault.OfFile input.Terms name f) h =
      let fails = h.1 in
      let before = with_reading no_deeds pn fails.param_bytes fails.param_faults in
      ap (λ e. status_of (fault.OfFile input.Terms name e))
      (only_memory_for old new before tn w.terms_bytes RefusesTerms w.t f w.told w.has_terms w.terms_fit
      (terms_taken w.terms_bytes w.agreements w.terms_read) w.finds_stood w.reads_stood fails.failed)
  only_memory (fault.OfFile input.Feed name why.Missing) h =
      let mid = h.mid in
      absurd (w.finds_stood (rises_earlier old.find_faults mid.find_faults new.find_faults (h.inputs).finds ((h.fails).missing).rose))
  only_memory (fault.OfFile input.Feed name why.Unread) h = absurd (h.fails).missing
  only_memory (fault.OfFile input.Feed name why.Long) h = absurd (h.fails).missing
  only_memory (fault.OfFile input.Feed name (why.Refused line)) h = absurd (h.fails).missing
  only_memory (fault.OfFile input.Feed name why.Memory) h = refl
  only_memory (fault.OfFile _ name f) h = absurd h
  only_memory (fault.Refused line) h = absurd h
  only_memory fault.Memory h = refl

  -- no feed is left before its end
  to_the_end : (sets : List Set) (reports : List FeedReport) → HasRun pn tn fns old new sets reports
      → status_of_end (end_of reports) ≡ status.Feed → ⊥
  to_the_end sets reports h e =
      let read = h.inputs in
      let deeds = with_reading (with_reading no_deeds pn read.param_bytes read.param_faults) tn read.terms_bytes read.terms_faults in
      let told : (h.mid).told ≡ Some (told_after deeds w.t) = read.did ∙ ap (option_map (told_after deeds)) w.told in
      let fed = h.fed in
      ends_whole (λ r. r.end) (IsFed h.mid new sets) (IsWellFeed (told_after deeds w.t))
      (λ feed name r reading one well. fed_whole h.mid new sets feed name r reading (told_after deeds w.t) told well one)
      0 fns reports fed.readings (well_after deeds w.t fns w.feeds) fed.feeds e

  -- what a run that reached its feeds leaves
  leaves_well : (account : Account) (sets : List Set) (reports : List FeedReport) (s : Status) → HasRun pn tn fns old new sets reports
      → RunLeaves account sets reports out_old out_new d s → EndsWell s
  leaves_well account sets reports status.Done run h = tt
  leaves_well account sets reports status.Memory run h = tt
  leaves_well account sets reports status.Write run h = absurd (w.puts_stood (h.1).rose)
  leaves_well account sets reports status.Feed run h = absurd (to_the_end sets reports run h.0)
  leaves_well account sets reports status.Read run h =
      let fed = run.fed in
      let failed = read_failed (λ r. r.end) (IsFed run.mid new sets) (Rises (run.mid).read_faults new.read_faults) (λ feed name r reading one is. (one.failed is).1) 0 fns reports fed.readings fed.feeds h.0 in
      absurd (w.reads_stood (rises_earlier old.read_faults (run.mid).read_faults new.read_faults (run.inputs).reads failed))
  leaves_well account sets reports status.Desk run h =
      let one = h.2 in
      let told = one.told in
      absurd (none_failed (notices sets) d told.published told.outcomes told.publishes w.desks_stay one.o one.there one.failed)
  leaves_well account sets reports _ run h = absurd h

  -- no other status than Done and Memory comes
  pub run_ends_well : (account : Account) (s : Status) → RunEnds account pn tn fns old new out_old out_new d s → EndsWell s
  run_ends_well account s (inl h) = leaves_well account h.sets h.reports s h.run h.leaves
  run_ends_well account s (inr h) =
      let fails = h.0 in
      subst EndsWell (sym (only_memory fails.f fails.cause) ∙ fails.status) tt
