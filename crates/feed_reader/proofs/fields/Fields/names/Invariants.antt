use Rattle.std.proofs.Common.{◌≡◌, false, length}
use Rattle.feed_reader.specs.Fields.{fields_left, is_nil}
use Rattle.feed_reader.proofs.FieldNames.{HasNames}
use Rattle.feed_reader.proofs.fields.Fields.names.Given as goal

-- the fields so far are names, one at least, and with those that are left they are all
abbrev pub invariant-loop-alloc : goal.invariant-loop-alloc
invariant-loop-alloc l = HasNames l.names (fields_left l.self) (fields_left l.fn.self) × (is_nil l.names ≡ false)

abbrev pub decreases-loop-alloc : goal.decreases-loop-alloc
decreases-loop-alloc l = length (fields_left l.self)
