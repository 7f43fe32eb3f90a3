use Rattle.std.proofs.Common.{◌≡◌, ◌+◌, length}
use Rattle.set_core.proofs.put_by.PutBy.grow.Given as goal

-- one more at each turn
abbrev pub invariant-loop : goal.invariant-loop
invariant-loop l = length l.self-inside.boxes.items ≡ length l.initial.self-inside.boxes.items + l.counter
