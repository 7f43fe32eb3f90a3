-- What a pool does: for each status what happened, and what was printed.
use Rattle.std.specs.Prelude.{ℕ, ◌≡◌, ◌<◌, ◌≤◌, List, length, map, codes, decimal, ◌++◌, ◌⊎◌}
use Rattle.mh_io.specs.Sink.{SinkSeen}
use Rattle.mh_io.specs.Folder.{FolderSeen}
use Rattle.csa_terms.specs.Terms.{Agreements}
use Rattle.feed_runs.specs.declared.feed_end.FeedEnd.{FeedEnd}
use Rattle.feed_runs.specs.declared.feed_end.FeedEnd.TheVariants as end_at
use Rattle.fault_text.specs.Fields.{field, last_field}
use Rattle.pool_gate.specs.declared.job.PoolReport.{PoolReport}
use Rattle.feed_files.specs.CommandFiles.declared.status.Status.{Status}
use Rattle.feed_files.specs.CommandFiles.declared.status.Status.TheVariants as status
use Rattle.feed_files.specs.CommandFiles.declared.fault.InputFile.TheVariants as input
use Rattle.feed_files.specs.CommandFiles.declared.fault.Fault.{Fault}
use Rattle.feed_files.specs.CommandFiles.declared.fault.Fault.TheVariants as fault
use Rattle.feed_files.specs.CommandFiles.Files.{KeepsCounts, no_deeds, IsRead, NoValue}
use Rattle.feed_files.specs.CommandFiles.Grammars.{GivesTerms, RefusesTerms}
use Rattle.feed_files.specs.CommandFiles.Printed.{Got, GotFront, GotLine}
use Rattle.feed_files.specs.CommandFiles.Ending.{EndsAtFault}
use Rattle.feed_files.specs.Ends.{status_of_end, first_end}
use Rattle.feed_files.specs.Unrun.{FeedsFail}
use Rattle.margin_pool.specs.PoolText.{pool_text}
use Rattle.margin_pool.specs.Pooled.{ArePooled}

-- the terms file was read whole, with these agreements, and no count of faults fell
pub record HasTerms (terms_name : List ℕ) (old new : FolderSeen) (agreements : List Agreements) : Type 0 where
  pub read : IsRead old new no_deeds terms_name (λ bytes. GivesTerms bytes agreements)
  pub counts : KeepsCounts old new

-- The terms were read, which have a set for each feed, and the feeds were run on the total that these sets share.
pub record HasPooled (terms_name : List ℕ) (total : ℕ) (feed_names : List (List ℕ)) (old new : FolderSeen) (reports : List PoolReport) (rest : ℕ) : Type 0 where
  pub agreements : List Agreements
  pub mid : FolderSeen
  pub terms : HasTerms terms_name old mid agreements
  pub sets : length feed_names ≤ length agreements
  pub pooled : ArePooled total agreements feed_names mid new reports rest

-- how the first feed ended that didn't end whole, or that all did
abbrev pub end_of : List PoolReport → FeedEnd
end_of reports = first_end (map (λ r. r.end) reports)

-- ---- pools whose feeds weren't run

-- the line of more feeds than sets
abbrev pub crowd_line : ℕ → ℕ → List ℕ
crowd_line sets feeds = field (codes "FAULT") ++ field (codes "POOL") ++ field (decimal sets) ++ last_field (decimal feeds)

-- the terms were read, which have a set for each feed, and then no feed was run
pub record PoolFails (terms_name : List ℕ) (feed_names : List (List ℕ)) (old new : FolderSeen) (f : Fault) : Type 0 where
  pub agreements : List Agreements
  pub mid : FolderSeen
  pub terms : HasTerms terms_name old mid agreements
  pub sets : length feed_names ≤ length agreements
  pub fails : FeedsFail feed_names mid new f

-- the terms were read, which have fewer sets than there are feeds
pub record IsCrowded (terms_name : List ℕ) (feed_names : List (List ℕ)) (old new : FolderSeen) : Type 0 where
  pub agreements : List Agreements
  pub terms : HasTerms terms_name old new agreements
  pub fewer : length agreements < length feed_names

-- and the line tells how many
pub record IsRefused (terms_name : List ℕ) (feed_names : List (List ℕ)) (old new : FolderSeen) (line : List ℕ) : Type 0 where
  pub crowded : IsCrowded terms_name feed_names old new
  pub tells : line ≡ crowd_line (length crowded.agreements) (length feed_names)

-- what happened at each fault of a pool, which has no other file
abbrev pub PoolCause : List ℕ → List (List ℕ) → FolderSeen → FolderSeen → Fault → Type 0
PoolCause terms_name feed_names old new (fault.OfFile input.Terms name f) =
    (name.now ≡ terms_name) × NoValue old new no_deeds terms_name RefusesTerms f
PoolCause terms_name feed_names old new (fault.OfFile input.Feed name f) = PoolFails terms_name feed_names old new (fault.OfFile input.Feed name f)
PoolCause terms_name feed_names old new (fault.OfFile _ name f) = ⊥
PoolCause terms_name feed_names old new (fault.Refused line) = IsRefused terms_name feed_names old new line
PoolCause terms_name feed_names old new fault.Memory =
    IsCrowded terms_name feed_names old new ⊎ PoolFails terms_name feed_names old new fault.Memory

-- ---- the ends of a pool, by its status

-- want of memory at the end: for the text, of which then nothing is printed; or the first feed that didn't end whole is one
-- for which memory ran out, and all is printed that the sink takes
abbrev pub IsStarved : List PoolReport → ℕ → SinkSeen → SinkSeen → Type 0
IsStarved reports rest old new =
    (new.holds ≡ old.holds) ⊎ ((status_of_end (end_of reports) ≡ status.Memory) × GotLine old new (pool_text reports rest))

-- What printing a pool does, by its status. That is want of memory where there was none for the text; else that of the first
-- feed that didn't end whole; else Write where the sink failed.
abbrev pub PoolLeaves : List PoolReport → ℕ → SinkSeen → SinkSeen → Status → Type 0
PoolLeaves reports rest old new status.Done = (end_of reports ≡ end_at.End) × Got old new (pool_text reports rest)
PoolLeaves reports rest old new status.Write = (end_of reports ≡ end_at.End) × GotFront old new (pool_text reports rest)
PoolLeaves reports rest old new status.Feed = (status_of_end (end_of reports) ≡ status.Feed) × GotLine old new (pool_text reports rest)
PoolLeaves reports rest old new status.Read = (end_of reports ≡ end_at.ReadFault) × GotLine old new (pool_text reports rest)
PoolLeaves reports rest old new status.Memory = IsStarved reports rest old new
PoolLeaves reports rest old new _ = ⊥

-- the feeds were run
pub record EndsPool (terms_name : List ℕ) (total : ℕ) (feed_names : List (List ℕ)) (old new : FolderSeen) (out_old out_new : SinkSeen) (s : Status) : Type 0 where
  pub reports : List PoolReport
  pub rest : ℕ
  pub pooled : HasPooled terms_name total feed_names old new reports rest
  pub leaves : PoolLeaves reports rest out_old out_new s

-- what a pool with this status did
abbrev pub PoolEnds : List ℕ → ℕ → List (List ℕ) → FolderSeen → FolderSeen → SinkSeen → SinkSeen → Status → Type 0
PoolEnds terms_name total feed_names old new out_old out_new s =
    EndsPool terms_name total feed_names old new out_old out_new s
    ⊎ EndsAtFault (PoolCause terms_name feed_names old new) out_old out_new s
