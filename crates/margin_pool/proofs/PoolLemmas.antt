-- The stages of a pool, one after the other.
use Rattle.std.proofs.Common.{◌≡◌, ℕ, ◌≤◌, List, Bool, length, map, Result, Ok, Err, IsErrAnd, sym, ap, ◌∙◌, subst, inl, inr}
use Rattle.std.proofs.lemmas.List.{length-map}
use Rattle.mh_io.specs.Source.{SourceSeen}
use Rattle.mh_io.specs.Sink.{SinkSeen}
use Rattle.mh_io.specs.Folder.{FolderSeen}
use Rattle.csa_terms.specs.Terms.{Agreements}
use Rattle.feed_runs.specs.declared.feed_end.FeedEnd.{FeedEnd}
use Rattle.feed_runs.specs.declared.feed_end.FeedEnd.TheVariants as end_at
use Rattle.pool_gate.specs.declared.job.PoolReport.{PoolReport}
use Rattle.pool_gate.specs.PoolRun.{Fate, RanOver, all_tops, RanSource, RanOnPool}
use Rattle.feed_files.specs.CommandFiles.declared.fault.InputFile.TheVariants as input
use Rattle.feed_files.specs.CommandFiles.declared.fault.Fault.{Fault}
use Rattle.feed_files.specs.CommandFiles.declared.fault.Fault.TheVariants as fault
use Rattle.feed_files.specs.CommandFiles.declared.texts.Printed.{Printed}
use Rattle.feed_files.specs.CommandFiles.declared.texts.Printed.TheVariants as printed
use Rattle.feed_files.specs.CommandFiles.Texts.{TextGoes}
use Rattle.feed_files.proofs.CommandFiles.TextLemmas.{line_of}
use Rattle.feed_files.specs.Ends.{status_of_end}
use Rattle.feed_files.specs.Sources.{FindsAll, TakesAllBack}
use Rattle.feed_files.specs.Unrun.{FeedsFail}
use Rattle.feed_files.proofs.FedLemmas.{feeds_fed, fed_length, ran_lengths}
use Rattle.margin_pool.specs.declared.pool_files.Outcome.{Outcome}
use Rattle.margin_pool.specs.PoolText.{pool_text}
use Rattle.margin_pool.specs.Pooled.{IsFed, ArePooled}
use Rattle.margin_pool.specs.Pool.{HasTerms, PoolCause, PoolLeaves, end_of}
use Rattle.margin_pool.specs.PoolStages.{Refuses, FeedsEnd, PoolFilesEnd, status_at_end}

-- ---- the feeds

module _ {S : Type 0} (seen : S → SourceSeen) where
  -- all feeds were found, run, and came back
  pub are_pooled : (total : ℕ) (sets : List Agreements) (old mid new : FolderSeen) (names : List (List ℕ)) (found back : List S) (reports : List PoolReport) (rest : ℕ) → FindsAll old mid names (map seen found) → RanOnPool seen total sets found back reports rest → TakesAllBack mid new (map seen back) → ArePooled total sets names old new reports rest
  are_pooled total sets old mid new names found back reports rest finds ran taken =
      let Ran : ℕ → Fate → List ℕ → Bool → Type 0 = λ feed f taken ended. RanOver total (all_tops ran.fates) sets feed f taken ended in
      let its = feeds_fed seen Ran (λ f. f.report.end) old mid new names found back ran.fates finds ran.feeds taken in
      record {
        fates = ran.fates;
        reported = ran.reported;
        readings = its.readings;
        did = its.did;
        feeds = its.feeds;
        amounts = ran.amounts;
      }

  -- as many sources come back as were found
  pub as_many : (total : ℕ) (sets : List Agreements) (found back : List S) (reports : List PoolReport) (rest : ℕ) → RanOnPool seen total sets found back reports rest → length back ≡ length found
  as_many total sets found back reports rest ran = (ran_lengths (RanSource seen total (all_tops ran.fates) sets) 0 found back ran.fates ran.feeds).0

-- there is a report of each feed
pub pooled_length : (total : ℕ) (sets : List Agreements) (names : List (List ℕ)) (old new : FolderSeen) (reports : List PoolReport) (rest : ℕ) → ArePooled total sets names old new reports rest → length reports ≡ length names
pooled_length total sets names old new reports rest its =
    ap length (sym its.reported) ∙ length-map its.fates (λ (f : Fate). f.report)
    ∙ fed_length (IsFed total (all_tops its.fates) sets old new) 0 names its.fates its.readings its.feeds

-- ---- the files

-- more feeds than sets
pub crowd_cause : (terms_name : List ℕ) (names : List (List ℕ)) (old new : FolderSeen) (agreements : List Agreements) (f : Fault) → HasTerms terms_name old new agreements → Refuses (length agreements) (length names) f → PoolCause terms_name names old new f
crowd_cause terms_name names old new agreements (fault.OfFile file name why) terms h = absurd h
crowd_cause terms_name names old new agreements (fault.Refused line) terms h = record { crowded = record { agreements = agreements; terms = terms; fewer = h.0 }; tells = h.1 }
crowd_cause terms_name names old new agreements fault.Memory terms h = inl (record { agreements = agreements; terms = terms; fewer = h })

-- no feed was run
no_pool : (terms_name : List ℕ) (names : List (List ℕ)) (old mid new : FolderSeen) (agreements : List Agreements) (f : Fault) → HasTerms terms_name old mid agreements → length names ≤ length agreements → FeedsFail names mid new f → PoolCause terms_name names old new f
no_pool terms_name names old mid new agreements (fault.OfFile input.Feed name why) terms sets fails = record { agreements = agreements; mid = mid; terms = terms; sets = sets; fails = fails }
no_pool terms_name names old mid new agreements (fault.OfFile _ name why) terms sets fails = absurd fails
no_pool terms_name names old mid new agreements (fault.Refused line) terms sets fails = absurd fails
no_pool terms_name names old mid new agreements fault.Memory terms sets fails = inr (record { agreements = agreements; mid = mid; terms = terms; sets = sets; fails = fails })

-- what running the feeds does, behind the terms
pub files_end : (total : ℕ) (terms_name : List ℕ) (names : List (List ℕ)) (old mid new : FolderSeen) (agreements lent : List Agreements) (result : Result Outcome Fault) → HasTerms terms_name old mid agreements → length names ≤ length agreements → lent ≡ agreements → FeedsEnd total lent names mid new result → PoolFilesEnd total terms_name names old new result
files_end total terms_name names old mid new agreements lent (Ok run) terms sets same fed = record {
  agreements = agreements;
  mid = mid;
  terms = terms;
  sets = sets;
  pooled = subst (λ ts. ArePooled total ts names mid new run.reports.items run.rest) same fed;
}
files_end total terms_name names old mid new agreements lent (Err f) terms sets same fails = no_pool terms_name names old mid new agreements f terms sets fails

pub failed : (total : ℕ) (terms_name : List ℕ) (names : List (List ℕ)) (old new : FolderSeen) (f : Fault) (result : Result Outcome Fault) → IsErrAnd result (λ e. e ≡ f) → PoolCause terms_name names old new f → PoolFilesEnd total terms_name names old new result
failed total terms_name names old new f (Ok run) is cause = absurd is
failed total terms_name names old new f (Err e) is cause = subst (PoolCause terms_name names old new) (sym is) cause

-- ---- the end

-- what a pool leaves that was printed
pub leaves_at : (reports : List PoolReport) (rest : ℕ) (old new : SinkSeen) (end : FeedEnd) (p : Printed) → end_of reports ≡ end → TextGoes (pool_text reports rest) old new p → PoolLeaves reports rest old new (status_at_end end p)
leaves_at reports rest old new end_at.End printed.Whole e text = (e, text)
leaves_at reports rest old new end_at.End printed.Cut e text = (e, text)
leaves_at reports rest old new (end_at.Cut line) p e text = (ap status_of_end e, line_of (pool_text reports rest) old new p text)
leaves_at reports rest old new (end_at.LineLong line) p e text = (ap status_of_end e, line_of (pool_text reports rest) old new p text)
leaves_at reports rest old new (end_at.TooLong taken) p e text = (ap status_of_end e, line_of (pool_text reports rest) old new p text)
leaves_at reports rest old new end_at.ReadFault p e text = (e, line_of (pool_text reports rest) old new p text)
leaves_at reports rest old new (end_at.Memory line) p e text = inr (ap status_of_end e, line_of (pool_text reports rest) old new p text)
