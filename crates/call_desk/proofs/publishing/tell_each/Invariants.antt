use Rattle.std.proofs.Common.{◌+◌, ◌*◌, ◌≤◌, length}
use Rattle.std.specs.Vec.{vec_len, vec_capacity}
use Rattle.call_desk.specs.Publish.{Publishes}
use Rattle.call_desk.proofs.publishing.tell_each.Given as goal

abbrev pub invariant-loop-desk : goal.invariant-loop-desk
invariant-loop-desk g l =
    (goal.iterator-loop-desk g).can_next l.desk-iterator
    × (goal.iterator-loop-desk g).is_finite l.desk-iterator
    × ((outcomes : _) × Publishes (λ desk. (goal.Desk-dyn g (desk.vtable, desk.value)).seen desk.value) l.notices l.yielded l.staying.items l.initial.retired.items l.retired.items l.published outcomes)
    × (vec_len l.staying ≤ length l.yielded)
    × (vec_len l.fn.desks ≤ vec_capacity l.staying)
    × (vec_len l.retired ≤ vec_len l.initial.retired + length l.yielded)
    × (vec_len l.initial.retired + vec_len l.fn.desks ≤ vec_capacity l.retired)
    × (l.published.told ≤ length l.yielded * length l.notices)
    × (l.published.failed + l.published.memory ≤ length l.yielded)
