use Rattle.std.proofs.Common.{◌≡◌, map, take}
use Rattle.audit_file.proofs.verifying.names_of.Given as goal

abbrev pub invariant-loop-set : goal.invariant-loop-set
invariant-loop-set l = l.names.items ≡ map (λ t. t.collect.name) (take l.set-index l.sets)
