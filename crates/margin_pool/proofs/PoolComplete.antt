-- A pool for which all is well succeeds, or finds no memory.
use Rattle.std.proofs.Common.{◌≡◌, ℕ, ◌≤◌, Bool, true, List, [], ◌∷◌, ◌++◌, length, map, Some, option_map, ap, sym, refl, subst, inl, inr, ◌∙◌, length-append, arith}
use Rattle.std.specs.List.{AllByRecursion}
use Rattle.std.proofs.lemmas.Simd.{map-map}
use Rattle.mh_io.specs.Faults.{Rises}
use Rattle.mh_io.specs.Sink.{SinkSeen}
use Rattle.mh_io.specs.Folder.{Telling, Reading, FolderSeen}
use Rattle.mh_io.specs.Limits.{most_bytes}
use Rattle.mh_io.specs.Lines as cut
use Rattle.mh_io.specs.Lines.{lines}
use Rattle.csa_terms.specs.Grammar.{terms_of}
use Rattle.csa_terms.specs.Terms.{Agreements}
use Rattle.feed_runs.specs.declared.feed_end.FeedEnd.{FeedEnd}
use Rattle.feed_runs.specs.declared.feed_end.FeedEnd.TheVariants as end_at
use Rattle.pool_feed.specs.declared.next.FedLine.{FedLine}
use Rattle.pool_gate.specs.declared.job.PoolReport.{PoolReport}
use Rattle.pool_gate.specs.Ends.{IsEnd}
use Rattle.pool_gate.specs.PoolRun.{Fate, all_tops}
use Rattle.feed_files.specs.CommandFiles.declared.status.Status.{Status}
use Rattle.feed_files.specs.CommandFiles.declared.status.Status.TheVariants as status
use Rattle.feed_files.specs.CommandFiles.declared.fault.InputFile.TheVariants as input
use Rattle.feed_files.specs.CommandFiles.declared.fault.FileFault.TheVariants as why
use Rattle.feed_files.specs.CommandFiles.declared.fault.Fault.{Fault}
use Rattle.feed_files.specs.CommandFiles.declared.fault.Fault.TheVariants as fault
use Rattle.feed_files.specs.CommandFiles.Files.{Deeds, no_deeds, with_reading, told_after}
use Rattle.feed_files.specs.CommandFiles.Grammars.{RefusesTerms}
use Rattle.feed_files.specs.CommandFiles.Ending.{status_of}
use Rattle.feed_files.specs.CommandFiles.Complete.{EndsWell}
use Rattle.feed_files.proofs.CommandFiles.FileLemmas.{rises_earlier}
use Rattle.feed_files.proofs.CommandFiles.KnownFiles.{same_bytes, front_bytes, only_memory_for, terms_taken}
use Rattle.feed_files.specs.Ends.{status_of_end, first_end}
use Rattle.feed_files.proofs.LongLines.{over_long, line_stays_long}
use Rattle.feed_files.proofs.EndLemmas.{ends_whole, read_failed}
use Rattle.margin_pool.specs.Pooled.{IsFed, ArePooled}
use Rattle.margin_pool.specs.Pool.{HasPooled, IsCrowded, PoolCause, PoolLeaves, PoolEnds, end_of}
use Rattle.margin_pool.specs.Complete.{IsWellFeed, IsWellPool}

-- the end of a feed that is whole and fits, of which a front was taken
whole_end : (end : FeedEnd) (items : List FedLine) (taken rest bytes : List ℕ) (ended : Bool)
    → IsEnd end items taken ended → taken ++ rest ≡ bytes
    → length bytes ≤ most_bytes → (lines bytes true).stop ≡ cut.Whole → status_of_end end ≡ status.Feed → ⊥
whole_end end_at.End items taken rest bytes ended is front few whole e = cc e
whole_end (end_at.Cut line) items taken rest bytes ended is front few whole e = is
whole_end (end_at.LineLong line) items taken rest bytes ended is front few whole e =
    let joined : (lines (taken ++ rest) true).stop ≡ cut.Whole = ap (λ xs. (lines xs true).stop) front ∙ whole in
    let long = line_stays_long taken rest ended (omega (arith, ap length front)) is.0.stops in
    let two : cut.Whole ≡ cut.Long = sym joined ∙ long in
    cc two
whole_end (end_at.TooLong n) items taken rest bytes ended is front few whole e =
    let many = over_long taken ended is.0.stops in
    omega (arith, ap length front, length-append taken rest)
whole_end end_at.ReadFault items taken rest bytes ended is front few whole e = cc e
whole_end (end_at.Memory line) items taken rest bytes ended is front few whole e = cc e

-- a feed that stops whole isn't left before its end
fed_whole : (total tops : ℕ) (sets : List Agreements) (old new : FolderSeen) (feed : ℕ) (name : List ℕ) (f : Fate) (reading : Reading) (t : Telling) → old.told ≡ Some t → IsWellFeed t name → IsFed total tops sets old new feed name f reading → status_of_end f.report.end ≡ status.Feed → ⊥
fed_whole total tops sets old new feed name f reading t told well fed e =
    let front = front_bytes old.told t name reading.taken well.bytes told fed.front well.there in
    let ran = fed.ran in
    whole_end f.report.end (map (λ m. m.item) f.mets) reading.taken front.0 well.bytes fed.ended ran.stop front.1 well.fits well.whole e

-- the files stand whatever was done
well_after : (deeds : Deeds) (t : Telling) (names : List (List ℕ)) → AllByRecursion (IsWellFeed t) names → AllByRecursion (IsWellFeed (told_after deeds t)) names
well_after deeds t [] well = tt
well_after deeds t (n ∷ names) well = (record { bytes = (well.0).bytes; there = (well.0).there; fits = (well.0).fits; whole = (well.0).whole }, well_after deeds t names well.1)

-- the reports have the feeds' ends
ends_are : (total : ℕ) (sets : List Agreements) (names : List (List ℕ)) (old new : FolderSeen) (reports : List PoolReport) (rest : ℕ) → (its : ArePooled total sets names old new reports rest) → end_of reports ≡ first_end (map (λ f. f.report.end) its.fates)
ends_are total sets names old new reports rest its =
    ap (λ rs. first_end (map (λ (r : PoolReport). r.end) rs)) (sym its.reported)
    ∙ ap first_end (map-map (λ (r : PoolReport). r.end) (λ (f : Fate). f.report) its.fates)

module _ {tn : List ℕ} {fns : List (List ℕ)} {old new : FolderSeen} {out_old out_new : SinkSeen}
    (w : IsWellPool tn fns old new out_old out_new) where
  -- there is a set for each feed
  not_crowded : IsCrowded tn fns old new → ⊥
  not_crowded h =
      let read = (h.terms).read in
      let bytes : read.bytes ≡ w.terms_bytes = same_bytes old.told w.t tn read.bytes w.terms_bytes w.told read.whole.whole w.has_terms in
      let same : h.agreements ≡ w.agreements = cc (read.so, ap terms_of bytes, w.terms_read) in
      omega (arith, h.fewer, w.sets, ap length same)

  -- no fault comes but want of memory
  only_memory : (f : Fault) → PoolCause tn fns old new f → status_of f ≡ status.Memory
  only_memory (fault.OfFile input.Terms name f) h =
      ap (λ e. status_of (fault.OfFile input.Terms name e))
      (only_memory_for old new no_deeds tn w.terms_bytes RefusesTerms w.t f w.told w.has_terms w.terms_fit
      (terms_taken w.terms_bytes w.agreements w.terms_read) w.finds_stood w.reads_stood h.1)
  only_memory (fault.OfFile input.Feed name why.Missing) h =
      let mid = h.mid in
      absurd (w.finds_stood (rises_earlier old.find_faults mid.find_faults new.find_faults ((h.terms).counts).finds ((h.fails).missing).rose))
  only_memory (fault.OfFile input.Feed name why.Unread) h = absurd (h.fails).missing
  only_memory (fault.OfFile input.Feed name why.Long) h = absurd (h.fails).missing
  only_memory (fault.OfFile input.Feed name (why.Refused line)) h = absurd (h.fails).missing
  only_memory (fault.OfFile input.Feed name why.Memory) h = refl
  only_memory (fault.OfFile _ name f) h = absurd h
  only_memory (fault.Refused line) h = absurd (not_crowded h.crowded)
  only_memory fault.Memory h = refl

  -- no feed is left before its end
  to_the_end : (total : ℕ) (reports : List PoolReport) (rest : ℕ) → HasPooled tn total fns old new reports rest
      → status_of_end (end_of reports) ≡ status.Feed → ⊥
  to_the_end total reports rest h e =
      let read = (h.terms).read in
      let deeds = with_reading no_deeds tn read.bytes read.faults in
      let told : (h.mid).told ≡ Some (told_after deeds w.t) = read.did ∙ ap (option_map (told_after deeds)) w.told in
      let fed = h.pooled in
      ends_whole (λ (f : Fate). f.report.end) (IsFed total (all_tops fed.fates) h.agreements h.mid new) (IsWellFeed (told_after deeds w.t))
      (λ feed name f reading one well. fed_whole total (all_tops fed.fates) h.agreements h.mid new feed name f reading (told_after deeds w.t) told well one)
      0 fns fed.fates fed.readings (well_after deeds w.t fns w.feeds) fed.feeds
      (ap status_of_end (sym (ends_are total h.agreements fns h.mid new reports rest fed)) ∙ e)

  -- what a pool leaves whose feeds were run
  leaves_well : (total : ℕ) (reports : List PoolReport) (rest : ℕ) (s : Status) → HasPooled tn total fns old new reports rest
      → PoolLeaves reports rest out_old out_new s → EndsWell s
  leaves_well total reports rest status.Done pooled h = tt
  leaves_well total reports rest status.Memory pooled h = tt
  leaves_well total reports rest status.Write pooled h = absurd (w.puts_stood (h.1).rose)
  leaves_well total reports rest status.Feed pooled h = absurd (to_the_end total reports rest pooled h.0)
  leaves_well total reports rest status.Read pooled h =
      let fed = pooled.pooled in
      let failed = read_failed (λ (f : Fate). f.report.end) (IsFed total (all_tops fed.fates) pooled.agreements pooled.mid new) (Rises (pooled.mid).read_faults new.read_faults)
      (λ feed name f reading one is. (one.failed is).1) 0 fns fed.fates fed.readings fed.feeds
      (sym (ends_are total pooled.agreements fns pooled.mid new reports rest fed) ∙ h.0) in
      absurd (w.reads_stood (rises_earlier old.read_faults (pooled.mid).read_faults new.read_faults ((pooled.terms).counts).reads failed))
  leaves_well total reports rest _ pooled h = absurd h

  -- no other status than Done and Memory comes
  pub pool_ends_well : (total : ℕ) (s : Status) → PoolEnds tn total fns old new out_old out_new s → EndsWell s
  pool_ends_well total s (inl h) = leaves_well total h.reports h.rest s h.pooled h.leaves
  pool_ends_well total s (inr h) = subst EndsWell (sym (only_memory h.f h.cause) ∙ h.status) tt
