-- Feeds that were found, run and handed back, one after another.
use Rattle.std.proofs.Common.{◌≡◌, ℕ, ◌+◌, ◌<◌, arith, List, [], ◌∷◌, length, map, Bool, Some, IfSome, refl, sym, ap, ◌∙◌, subst}
use Rattle.std.specs.List.{AllByRecursion, AllZip}
use Rattle.std.specs.Io.KnownBytes.{append_known}
use Rattle.std.proofs.lemmas.List.{length-map}
use Rattle.mh_io.specs.Faults.{Rises}
use Rattle.mh_io.specs.Source.{SourceSeen}
use Rattle.mh_io.specs.Folder.{Telling, Reading, FolderSeen, IsFound}
use Rattle.feed_runs.specs.declared.feed_end.FeedEnd.{FeedEnd}
use Rattle.feed_runs.specs.Ran.{RanFrom, EachRan}
use Rattle.command_files.specs.Files.{Did}
use Rattle.command_files.proofs.FileLemmas.{whole_file, file_front, rose_from_none}
use Rattle.feed_files.specs.Sources.{IsFresh, FindsAll, TakesAllBack}
use Rattle.feed_files.specs.Fed.{IsFed, EachFed}
use Rattle.feed_files.proofs.SourceLemmas.{Tells, told_all, where_told}

-- there is something told of each feed
pub fed_length : {R : Type 0} (Fed : ℕ → List ℕ → R → Reading → Type 0) (from : ℕ) (names : List (List ℕ)) (reports : List R) (readings : List Reading) → EachFed Fed from names reports readings → length reports ≡ length names
fed_length Fed from [] [] [] fed = refl
fed_length Fed from (n ∷ names) (r ∷ reports) (reading ∷ readings) fed = let rest = fed_length Fed (from + 1) names reports readings fed.1 in omega (arith, rest)
fed_length Fed from [] (r ∷ reports) readings fed = absurd fed
fed_length Fed from [] [] (reading ∷ readings) fed = absurd fed
fed_length Fed from (n ∷ names) [] readings fed = absurd fed
fed_length Fed from (n ∷ names) (r ∷ reports) [] fed = absurd fed

-- ---- sources that were run

module _ {S R : Type 0} (seen : S → SourceSeen) (Ran : ℕ → R → List ℕ → Bool → Type 0) (end : R → FeedEnd) where
  -- a source that was run, and a feed that was, with what is told of it
  abbrev pub RanWith : ℕ → S → S → R → Type 0
  RanWith feed a b r = RanFrom seen (Ran feed r) (end r) a b

  abbrev pub FedWith : FolderSeen → FolderSeen → ℕ → List ℕ → R → Reading → Type 0
  FedWith old new feed name r reading = IsFed old new name (Ran feed r) (end r) reading

  -- the readings of feeds that were run
  record Readings (old new : FolderSeen) (from : ℕ) (names : List (List ℕ)) (reports : List R) (sources : List SourceSeen) : Type 0 where
    readings : List Reading
    fed : EachFed (FedWith old new) from names reports readings
    tells : (t : Telling) → old.told ≡ Some t → AllZip Tells readings sources

  one_fed : (old new : FolderSeen) (feed : ℕ) (name : List ℕ) (a b : S) (r : R) → IsFresh old name (seen a) → (ran : RanWith feed a b r) → (0 < (seen b).faults → Rises old.read_faults new.read_faults) → FedWith old new feed name r (record { name = name; taken = ran.taken; faults = (seen b).faults })
  one_fed old new feed name a b r fresh ran rises = record {
    ended = ran.ended;
    named = refl;
    few = ran.few;
    front = file_front old.told name ran.taken (seen a) (seen b) fresh.found ran.takes;
    all = λ e. whole_file old.told name ran.taken (seen a) (seen b) fresh.found ran.takes (ran.at_end e);
    ran = ran.ran;
    whole = ran.whole;
    failed = λ e. let up = rose_from_none (seen b).faults (seen a).faults fresh.clean (ran.failed e) in (up, rises up);
  }

  ran_tells : (t : Telling) (feed : ℕ) (name : List ℕ) (a b : S) (r : R) → IsFound t.files name (seen a) → (ran : RanWith feed a b r) → Tells (record { name = name; taken = ran.taken; faults = (seen b).faults }) (seen b)
  ran_tells t feed name a b r is ran = record {
    name = ran.named ∙ is.named;
    gave = ran.takes.gave ∙ ap (λ g. append_known g ran.taken) is.fresh;
    faults = refl;
  }

  all_fed : (old new : FolderSeen) (from : ℕ) (names : List (List ℕ)) (found back : List S) (reports : List R) → AllZip (IsFresh old) names (map seen found) → EachRan RanWith from found back reports → AllByRecursion (λ s. 0 < s.faults → Rises old.read_faults new.read_faults) (map seen back) → Readings old new from names reports (map seen back)
  all_fed old new from [] [] [] [] fresh ran rises = record { readings = []; fed = tt; tells = λ t told. tt }
  all_fed old new from (n ∷ names) (a ∷ found) (b ∷ back) (r ∷ reports) fresh ran rises =
      let rest = all_fed old new (from + 1) names found back reports fresh.1 ran.1 rises.1 in
      record {
        readings = record { name = n; taken = ran.0.taken; faults = (seen b).faults } ∷ rest.readings;
        fed = (one_fed old new from n a b r fresh.0 ran.0 rises.0, rest.fed);
        tells = λ t told. (ran_tells t from n a b r (subst (λ o. IfSome o (λ f. IsFound f.files n (seen a))) told fresh.0.found) ran.0, rest.tells t told);
      }
  all_fed old new from [] (a ∷ found) back reports fresh ran rises = absurd fresh
  all_fed old new from (n ∷ names) [] back reports fresh ran rises = absurd fresh
  all_fed old new from [] [] (b ∷ back) reports fresh ran rises = absurd ran
  all_fed old new from [] [] [] (r ∷ reports) fresh ran rises = absurd ran
  all_fed old new from (n ∷ names) (a ∷ found) [] reports fresh ran rises = absurd ran
  all_fed old new from (n ∷ names) (a ∷ found) (b ∷ back) [] fresh ran rises = absurd ran

  -- what became of all feeds, and what the folder is told of them
  pub record FeedsFed (old new : FolderSeen) (names : List (List ℕ)) (reports : List R) : Type 0 where
    pub readings : List Reading
    pub did : Did old new (record { names = names; readings = readings })
    pub feeds : EachFed (FedWith old new) 0 names reports readings

  -- all feeds were found, run, and came back
  pub feeds_fed : (old mid new : FolderSeen) (names : List (List ℕ)) (found back : List S) (reports : List R) → FindsAll old mid names (map seen found) → EachRan RanWith 0 found back reports → TakesAllBack mid new (map seen back) → FeedsFed old new names reports
  feeds_fed old mid new names found back reports finds ran taken =
      let rises = subst (λ n. AllByRecursion (λ s. 0 < s.faults → Rises n new.read_faults) (map seen back)) finds.reads taken.rises in
      let its = all_fed old new 0 names found back reports finds.each ran rises in
      record {
        readings = its.readings;
        did = told_all old.told mid.told new.told names its.readings (map seen back) finds.did (where_told old.told its.tells) taken.told;
        feeds = its.fed;
      }

-- as many sources come back as were found, and something is told of each
pub ran_lengths : {S R : Type 0} (Ran : ℕ → S → S → R → Type 0) (from : ℕ) (found back : List S) (reports : List R) → EachRan Ran from found back reports → (length back ≡ length found) × (length reports ≡ length found)
ran_lengths Ran from [] [] [] ran = (refl, refl)
ran_lengths Ran from (a ∷ found) (b ∷ back) (r ∷ reports) ran = let rest = ran_lengths Ran (from + 1) found back reports ran.1 in (omega (arith, rest.0), omega (arith, rest.1))
ran_lengths Ran from [] (b ∷ back) reports ran = absurd ran
ran_lengths Ran from [] [] (r ∷ reports) ran = absurd ran
ran_lengths Ran from (a ∷ found) [] reports ran = absurd ran
ran_lengths Ran from (a ∷ found) (b ∷ back) [] ran = absurd ran
