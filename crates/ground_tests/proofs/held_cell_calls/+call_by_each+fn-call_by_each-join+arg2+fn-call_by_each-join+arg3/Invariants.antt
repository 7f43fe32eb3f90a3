use Rattle.std.proofs.Common.{◌+◌, ◌*◌}
use Rattle.ground_tests.proofs.held_cell_calls.+call_by_each+fn-call_by_each-join+arg2+fn-call_by_each-join+arg3.Given as goal

-- twice the callers, and one more in a thread's closure
abbrev pub decreases-call_by_each : goal.decreases-call_by_each
decreases-call_by_each g l = 2 * l.callers

abbrev pub decreases-join+arg2 : goal.decreases-join+arg2
decreases-join+arg2 g l = 2 * l.half + 1

abbrev pub decreases-join+arg3 : goal.decreases-join+arg3
decreases-join+arg3 g l = 2 * l.rest + 1
