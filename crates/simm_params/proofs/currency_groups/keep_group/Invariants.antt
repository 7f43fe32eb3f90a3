use Rattle.std.proofs.Common.{take}
use Rattle.simm_params.proofs.Groups.{IsKeptAt}
use Rattle.simm_params.proofs.currency_groups.keep_group.Given as goal

abbrev pub invariant-loop-currency : goal.invariant-loop-currency
invariant-loop-currency l = IsKeptAt (take l.currency-index l.currency-items) l.group.thresholds l.fn.by_currency.entries l.by_currency.entries
