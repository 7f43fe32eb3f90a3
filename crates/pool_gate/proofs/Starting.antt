-- Jobs that are made one after another, before they are run.
use Rattle.std.proofs.Common.{◌≡◌, ℕ, ◌+◌, ◌≤◌, List, [], ◌∷◌, ◌++◌, length, map, All, refl, ap, ◌∙◌, arith}
use Rattle.std.specs.List.{AllByRecursion}
use Rattle.std.proofs.lemmas.List.Elements.{All-from_recursion}
use Rattle.feed_runs.specs.Untaken.{fresh}
use Rattle.csa_terms.specs.Terms.{Agreements}
use Rattle.threshold_pool.specs.Seats.{PoolState, SeatState, fresh_seat}
use Rattle.pool_gate.specs.declared.job.PoolJob.{PoolJob}
use Rattle.pool_gate.specs.Jobs.{no_report}
use Rattle.pool_gate.specs.Share.{AreFresh, IsReady}

-- of these numbers from this one on, and of each nothing is done
abbrev pub AreNew : {S : Type 0} → ℕ → List (PoolJob S) → Type 0
AreNew from [] = Unit {0}
AreNew from (job ∷ jobs) = (job.number ≡ from) × (job.report ≡ no_report) × AreNew (from + 1) jobs

module _ {S : Type 0} where
  pub new_more : (from : ℕ) (jobs : List (PoolJob S)) (job : PoolJob S) → AreNew from jobs → job.number ≡ from + length jobs → job.report ≡ no_report → AreNew from (jobs ++ job ∷ [])
  new_more from [] job new number report = (omega (arith, number), report, tt)
  new_more from (j ∷ jobs) job new number report = (new.0, new.1, new_more (from + 1) jobs job new.2 (omega (arith, number)) report)

  pub are_fresh : (from : ℕ) (sources : List S) (seats : List SeatState) (jobs : List (PoolJob S)) → map (λ job. job.lines) jobs ≡ map fresh sources → map (λ job. job.seat) jobs ≡ seats → AreNew from jobs → AreFresh from sources seats jobs
  are_fresh from [] [] [] lines is_seats new = tt
  are_fresh from (source ∷ sources) (seat ∷ seats) (job ∷ jobs) lines is_seats new = (
    record { number = new.0; lines = cc (lines); seat = cc (is_seats); report = new.1 },
    are_fresh (from + 1) sources seats jobs (cc (lines)) (cc (is_seats)) new.2,
  )
  are_fresh from [] (seat ∷ seats) [] lines is_seats new = absurd (cc (is_seats))
  are_fresh from [] seats (job ∷ jobs) lines is_seats new = absurd (cc (lines))
  are_fresh from (source ∷ sources) seats [] lines is_seats new = absurd (cc (lines))
  are_fresh from (source ∷ sources) [] (job ∷ jobs) lines is_seats new = absurd (cc (is_seats))

  -- there is a job for each source
  pub fresh_length : (from : ℕ) (sources : List S) (seats : List SeatState) (jobs : List (PoolJob S)) → AreFresh from sources seats jobs → length jobs ≡ length sources
  fresh_length from [] [] [] begun = refl
  fresh_length from (source ∷ sources) (seat ∷ seats) (job ∷ jobs) begun = omega (arith, fresh_length (from + 1) sources seats jobs begun.1)
  fresh_length from [] [] (job ∷ jobs) begun = absurd begun
  fresh_length from [] (seat ∷ seats) jobs begun = absurd begun
  fresh_length from (source ∷ sources) [] jobs begun = absurd begun
  fresh_length from (source ∷ sources) (seat ∷ seats) [] begun = absurd begun

  ready : (sets : List Agreements) (pool : PoolState) (from : ℕ) (sources : List S) (seats : List SeatState) (jobs : List (PoolJob S)) → from + length sources ≤ length sets → AreFresh from sources seats jobs → AllByRecursion (λ s. s ≡ fresh_seat pool 1) seats → AllByRecursion (IsReady pool sets) jobs
  ready sets pool from [] [] [] enough begun new = tt
  ready sets pool from (source ∷ sources) (seat ∷ seats) (job ∷ jobs) enough begun new =
      let first : job.seat ≡ fresh_seat pool 1 = begun.0.seat ∙ new.0 in (
        record {
          seat = (ap (λ (s : SeatState). s.table) first, ap (λ (s : SeatState). s.total) first);
          there = omega (arith, begun.0.number, enough);
        },
        ready sets pool (from + 1) sources seats jobs (omega (arith, enough)) begun.1 new.1,
      )
  ready sets pool from [] [] (job ∷ jobs) enough begun new = absurd begun
  ready sets pool from [] (seat ∷ seats) jobs enough begun new = absurd begun
  ready sets pool from (source ∷ sources) [] jobs enough begun new = absurd begun
  ready sets pool from (source ∷ sources) (seat ∷ seats) [] enough begun new = absurd begun

  -- each can be run
  pub all_ready : (sets : List Agreements) (pool : PoolState) (sources : List S) (seats : List SeatState) (jobs : List (PoolJob S)) → length sources ≤ length sets → AreFresh 0 sources seats jobs → AllByRecursion (λ s. s ≡ fresh_seat pool 1) seats → All (IsReady pool sets) jobs
  all_ready sets pool sources seats jobs enough begun new = All-from_recursion (IsReady pool sets) jobs (ready sets pool 0 sources seats jobs (omega (arith, enough)) begun new)
