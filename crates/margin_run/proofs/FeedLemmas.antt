-- Feeds that were run on sets, one after another.
use Rattle.std.proofs.Common.{◌≡◌, ℕ, List, Bool, length, map, sym, ◌∙◌, subst}
use Rattle.std.specs.List.{AllZip}
use Rattle.std.proofs.lemmas.List.{length-map}
use Rattle.mh_io.specs.Source.{SourceSeen}
use Rattle.mh_io.specs.Folder.{FolderSeen}
use Rattle.feed_gate.specs.SetCore.Set.{Set}
use Rattle.feed_gate.specs.declared.report.FeedReport.{FeedReport}
use Rattle.feed_gate.specs.SetsRun.{IsRun, RanOver, RanSource, RanOnSets}
use Rattle.feed_runs.proofs.Zips.{zip_length}
use Rattle.feed_files.specs.Sources.{IsFresh, FindsAll, TakesAllBack}
use Rattle.feed_files.proofs.FedLemmas.{feeds_fed, ran_lengths}
use Rattle.margin_run.specs.Fed.{AreFed}

module _ {S : Type 0} (seen : S → SourceSeen) where
  -- all feeds were found, run, and came back
  pub are_fed : (old mid new : FolderSeen) (names : List (List ℕ)) (old_sets new_sets : List Set) (found back : List S) (reports : List FeedReport) → FindsAll old mid names (map seen found) → RanOnSets seen old_sets new_sets found back reports → TakesAllBack mid new (map seen back) → AreFed names old new old_sets new_sets reports
  are_fed old mid new names old_sets new_sets found back reports finds ran taken =
      let Ran : ℕ → FeedReport → List ℕ → Bool → Type 0 = λ feed r taken ended. RanOver feed taken ended new_sets r in
      let its = feeds_fed seen Ran (λ r. r.end) old mid new names found back reports finds ran.feeds taken in
      let many : length found ≡ length names = sym (length-map found seen) ∙ zip_length (IsFresh old) names (map seen found) finds.each in
      record {
        readings = its.readings;
        did = its.did;
        sets = subst (λ n. AllZip (IsRun n) old_sets new_sets) many ran.sets;
        feeds = its.feeds;
      }

  -- as many sources come back as were found
  pub as_many : (old_sets new_sets : List Set) (found back : List S) (reports : List FeedReport) → RanOnSets seen old_sets new_sets found back reports → length back ≡ length found
  as_many old_sets new_sets found back reports ran = (ran_lengths (RanSource seen new_sets) 0 found back reports ran.feeds).0
