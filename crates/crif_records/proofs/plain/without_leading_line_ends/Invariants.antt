use Rattle.std.proofs.Common.{◌≡◌, length}
use Rattle.crif_records.specs.Plain.{without_leading_line_ends}
use Rattle.crif_records.proofs.plain.without_leading_line_ends.Given as goal

abbrev pub invariant-loop-rest : goal.invariant-loop-rest
invariant-loop-rest l = without_leading_line_ends l.rest ≡ without_leading_line_ends l.bytes

abbrev pub decreases-loop-rest : goal.decreases-loop-rest
decreases-loop-rest l = length l.rest
