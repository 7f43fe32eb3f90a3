use Rattle.std.proofs.Common.{◌≡◌, ℕ, List, map, None}
use Rattle.std.specs.Map.{lookup, update_all}
use Rattle.std.specs.Map.Iter.{deref_pair}
use Rattle.simm_params.specs.SimmKinds.Order.{same_name}
use Rattle.class_combine.proofs.notionals.Notionals.copy.Given as goal

abbrev pub invariant-loop-qualifier : goal.invariant-loop-qualifier
invariant-loop-qualifier l = (q : List ℕ) → lookup (same_name q) l.by_qualifier.entries ≡ update_all same_name (λ _. None) (map deref_pair l.yielded) q
