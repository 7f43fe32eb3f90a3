-- The feeds of a pool and their seats, before they are run and afterwards.
use Rattle.std.specs.Prelude.{◌≡◌, ℕ, ◌+◌, ◌<◌, ◌≤◌, List, [], ◌∷◌, length, Some, slice_get, sum_by}
use Rattle.std.specs.List.{AllByRecursion}
use Rattle.csa_terms.specs.Terms.{Agreements}
use Rattle.mh_io.specs.Source.{SourceSeen}
use Rattle.feed_runs.specs.Untaken.{fresh}
use Rattle.threshold_pool.specs.Seats.{PoolState, SeatState, IsSeatOf}
use Rattle.pool_gate.specs.declared.job.PoolReport.{PoolReport}
use Rattle.pool_gate.specs.declared.job.PoolJob.{PoolJob}
use Rattle.pool_gate.specs.Jobs.{no_report, RanJob}

-- ---- before

-- a feed from its first byte, with a seat, of which nothing is done
pub record IsFresh {S : Type 0} (feed : ℕ) (source : S) (s : SeatState) (job : PoolJob S) : Type 0 where
  pub number : job.number ≡ feed
  pub lines : job.lines ≡ fresh source
  pub seat : job.seat ≡ s
  pub report : job.report ≡ no_report

-- the feeds of these sources from this number on
abbrev pub AreFresh : {S : Type 0} → ℕ → List S → List SeatState → List (PoolJob S) → Type 0
AreFresh from [] [] [] = Unit {0}
AreFresh from (source ∷ sources) (seat ∷ seats) (job ∷ jobs) = IsFresh from source seat job × AreFresh (from + 1) sources seats jobs
AreFresh from _ _ _ = ⊥

-- ---- run

-- its seat is of the pool, and there is a set at the place of its number
pub record IsReady {S : Type 0} (pool : PoolState) (sets : List Agreements) (job : PoolJob S) : Type 0 where
  pub seat : IsSeatOf pool job.seat
  pub there : job.number < length sets

-- it was run with the terms by which the set at the place of its number collects margin
pub record RanWithTerms {S : Type 0} (seen : S → SourceSeen) (sets : List Agreements) (old new : PoolJob S) : Type 0 where
  pub terms : Agreements
  pub its : slice_get sets old.number ≡ Some terms
  pub ran : RanJob seen terms.collect old new

-- ---- behind

-- a seat of the pool with one of its parts
pub record IsPart (pool : PoolState) (seat : SeatState) : Type 0 where
  pub of : IsSeatOf pool seat
  pub part : seat.parts ≡ 1

-- the report of a feed that was run, with what its set holds
abbrev pub reported : {S : Type 0} → PoolJob S → PoolReport
reported job = record job.report { held = job.seat.held }

-- What is left and what all seats hold are the total, and each rest that a seat was told as too little is at least the total
-- less the tops of all.
pub record KeepsRest (total : ℕ) (seats : List SeatState) (rest : ℕ) : Type 0 where
  pub amounts : rest + sum_by (λ s. s.held) seats ≡ total
  pub least : AllByRecursion (λ s. total ≤ s.least + sum_by (λ x. x.top) seats) seats
