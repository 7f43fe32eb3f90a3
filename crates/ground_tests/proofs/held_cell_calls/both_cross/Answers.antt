use denote.Param.{param}
use Rattle.held_cell.proofs.Shared.{seat_sync}
use Rattle.ground_tests.proofs.held_cell_calls.both_cross.Goals as goal

pub crosses-requires-2-sync-T : goal.crosses-requires-2-sync-T
crosses-requires-2-sync-T g c κs within = record { shared = (seat_sync (param 0 g.row.M) (param 1 g.row.M-Event) (param 2 g.row.M-Reply) (param 3 g.row.M-Base) g.M.Machine c.type_bounds.send-M).shared }
