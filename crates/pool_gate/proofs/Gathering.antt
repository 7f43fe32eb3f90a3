-- The seats of a pool are joined, one after another, and it is closed.
use Rattle.std.proofs.Common.{◌≡◌, ℕ, ◌+◌, ◌≤◌, List, [], ◌∷◌, ◌++◌, length, map, refl, sym, ◌∙◌, subst, append-nil, append_assoc, arith}
use Rattle.std.specs.Prelude.{sum_by}
use Rattle.std.specs.List.{AllByRecursion}
use Rattle.std.proofs.lemmas.List.Sums.{sum_by-cons, sum_by_push}
use Rattle.threshold_pool.specs.Seats.{PoolState, SeatState, IsSeatOf, IsJoined}
use Rattle.pool_gate.specs.Share.{IsPart, KeepsRest}

-- one seat of these: it has the parts, the allotments and the tops of all, and no more than the least of each
pub record Gathered (pool : PoolState) (seats : List SeatState) (all : SeatState) : Type 0 where
  pub of : IsSeatOf pool all
  pub parts : all.parts ≡ sum_by (λ s. s.parts) seats
  pub held : all.held ≡ sum_by (λ s. s.held) seats
  pub top : all.top ≡ sum_by (λ s. s.top) seats
  pub least : AllByRecursion (λ s. all.least ≤ s.least) seats

pub gathered_one : (pool : PoolState) (s : SeatState) → IsSeatOf pool s → Gathered pool (s ∷ []) s
gathered_one pool s of = record {
  of = of;
  parts = omega (arith, sum_by-cons (λ (x : SeatState). x.parts) s []);
  held = omega (arith, sum_by-cons (λ (x : SeatState). x.held) s []);
  top = omega (arith, sum_by-cons (λ (x : SeatState). x.top) s []);
  least = (omega arith, tt);
}

least_more : (a b both : ℕ) (seats : List SeatState) (s : SeatState) → both ≤ a → both ≤ s.least → AllByRecursion (λ x. a ≤ x.least) seats → AllByRecursion (λ x. both ≤ x.least) (seats ++ s ∷ [])
least_more a b both [] s low here all = (here, tt)
least_more a b both (x ∷ seats) s low here all = (let h = all.0 in omega arith, least_more a b both seats s low here all.1)

pub gathered_more : (pool : PoolState) (seats : List SeatState) (a b both : SeatState) → Gathered pool seats a → IsSeatOf pool both → IsJoined a b both → Gathered pool (seats ++ b ∷ []) both
gathered_more pool seats a b both so_far of joined = record {
  of = of;
  parts = let p = so_far.parts in omega (arith, joined.parts, sum_by_push (λ (x : SeatState). x.parts) seats b);
  held = let p = so_far.held in omega (arith, joined.held, sum_by_push (λ (x : SeatState). x.held) seats b);
  top = let p = so_far.top in omega (arith, joined.top, sum_by_push (λ (x : SeatState). x.top) seats b);
  least = least_more a.least b.least both.least seats b (omega (arith, joined.least)) (omega (arith, joined.least)) so_far.least;
}

-- of these seats all are gathered but those that wait
pub record Gathers (pool : PoolState) (waiting seats : List SeatState) (all : SeatState) : Type 0 where
  pub done : List SeatState
  pub so_far : Gathered pool done all
  pub are : done ++ waiting ≡ seats

pub gathers_one : (pool : PoolState) (s : SeatState) (waiting : List SeatState) → IsSeatOf pool s → Gathers pool waiting (s ∷ waiting) s
gathers_one pool s waiting of = record { done = s ∷ []; so_far = gathered_one pool s of; are = refl }

pub gathers_more : (pool : PoolState) (waiting seats : List SeatState) (a b both : SeatState) → Gathers pool (b ∷ waiting) seats a → IsSeatOf pool both → IsJoined a b both → Gathers pool waiting seats both
gathers_more pool waiting seats a b both g of joined = record {
  done = g.done ++ b ∷ [];
  so_far = gathered_more pool g.done a b both g.so_far of joined;
  are = append_assoc g.done (b ∷ []) waiting ∙ g.are;
}

pub gathers_all : (pool : PoolState) (seats : List SeatState) (all : SeatState) → Gathers pool [] seats all → Gathered pool seats all
gathers_all pool seats all g = subst (λ s. Gathered pool s all) (sym (append-nil g.done) ∙ g.are) g.so_far

-- as many parts as seats
pub all_parts : {J : Type 0} (seat : J → SeatState) (pool : PoolState) (jobs : List J) → AllByRecursion (λ job. IsPart pool (seat job)) jobs → sum_by (λ s. s.parts) (map seat jobs) ≡ length jobs
all_parts seat pool [] parts = refl
all_parts seat pool (job ∷ jobs) parts =
    let here = parts.0.part in
    let rest = all_parts seat pool jobs parts.1 in
    omega (arith, sum_by-cons (λ (x : SeatState). x.parts) (seat job) (map seat jobs))

least_of : (total least top : ℕ) (seats : List SeatState) → total ≤ least + top → AllByRecursion (λ s. least ≤ s.least) seats → AllByRecursion (λ s. total ≤ s.least + top) seats
least_of total least top [] h all = tt
least_of total least top (s ∷ seats) h all = (let low = all.0 in omega arith, least_of total least top seats h all.1)

-- what is left beside the seats
pub keeps_rest : (pool : PoolState) (seats : List SeatState) (all : SeatState) (rest : ℕ) → Gathered pool seats all → rest + all.held ≡ pool.total → pool.total ≤ all.least + all.top → KeepsRest pool.total seats rest
keeps_rest pool seats all rest so amounts least = record {
  amounts = let h = so.held in omega arith;
  least = least_of pool.total all.least (sum_by (λ (x : SeatState). x.top) seats) seats (let t = so.top in omega arith) so.least;
}
