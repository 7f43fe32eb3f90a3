use Rattle.std.proofs.Common.{◌≡◌, length, reverse}
use Rattle.crif_records.specs.Fields.{trimmed, without_leading_spaces}
use Rattle.crif_records.proofs.fields.trim_spaces.Given as goal

abbrev pub invariant-loop-rest : goal.invariant-loop-rest
invariant-loop-rest l = without_leading_spaces l.rest ≡ without_leading_spaces l.field

abbrev pub decreases-loop-rest : goal.decreases-loop-rest
decreases-loop-rest l = length l.rest

abbrev pub invariant-loop-rest-2 : goal.invariant-loop-rest-2
invariant-loop-rest-2 l = reverse (without_leading_spaces (reverse l.rest)) ≡ trimmed l.field

abbrev pub decreases-loop-rest-2 : goal.decreases-loop-rest-2
decreases-loop-rest-2 l = length l.rest
