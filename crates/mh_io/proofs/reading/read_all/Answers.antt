use Rattle.std.proofs.Common.{refl, arith, length-append, ◌++◌, ◌∙◌}
use Rattle.std.proofs.lemmas.Result.{err_from_is_err_and}
use Rattle.mh_io.proofs.FaultsLemmas.{rises_later}
use Rattle.mh_io.proofs.TakesLemmas.{nothing_taken, then_taken}
use Rattle.mh_io.proofs.reading.read_all.Goals as goal

pub loop-bytes-init : goal.loop-bytes-init
loop-bytes-init g c = rw c.new-bytes.ensures (omega arith, c.in_ok-chunk.ensures.len, omega arith, refl, nothing_taken _ _ refl refl)

pub returns-in_err-take_chunk-clause-stops : goal.returns-in_err-take_chunk-clause-stops
returns-in_err-take_chunk-clause-stops g c =
    let p = err_from_is_err_and c.from_residual-in_err-take_chunk.result c.from_residual-in_err-take_chunk.ensures.1 in
    let stops = c.in_err-take_chunk.ensures.stops in
    rw (p.1, p.2) (c.loop-bytes.bytes ++ stops.0, then_taken c.loop-bytes.invariant.4 stops.1, rw length-append stops.2)

pub returns-in_err-take_chunk-clause-failed : goal.returns-in_err-take_chunk-clause-failed
returns-in_err-take_chunk-clause-failed g c h =
    let p = err_from_is_err_and c.from_residual-in_err-take_chunk.result c.from_residual-in_err-take_chunk.ensures.1 in
    rises_later c.loop-bytes.invariant.2 (c.in_err-take_chunk.ensures.failed (cc (h, p.1, p.2)))

pub returns-then-branch-eq0-clause-takes : goal.returns-then-branch-eq0-clause-takes
returns-then-branch-eq0-clause-takes g c = rw c.in_ok-take_chunk.ensures.added (then_taken c.loop-bytes.invariant.4 c.in_ok-take_chunk.ensures.takes)

pub loop-bytes-preserved : goal.loop-bytes-preserved
loop-bytes-preserved g c = (
  c.in_ok-take_chunk.ensures.still_few,
  c.loop-bytes.invariant.1,
  omega arith,
  c.in_ok-take_chunk.ensures.name ∙ c.loop-bytes.invariant.3,
  rw c.in_ok-take_chunk.ensures.added (then_taken c.loop-bytes.invariant.4 c.in_ok-take_chunk.ensures.takes),
)
