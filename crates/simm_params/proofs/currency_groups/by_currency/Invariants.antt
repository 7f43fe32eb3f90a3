use Rattle.simm_params.proofs.Groups.{IsKeptBehind}
use Rattle.simm_params.proofs.currency_groups.by_currency.Given as goal

abbrev pub invariant-loop-group : goal.invariant-loop-group
invariant-loop-group l = IsKeptBehind l.group-iterator.iter.rest.now l.groups l.by_currency.entries
