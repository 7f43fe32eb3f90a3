use Rattle.std.proofs.Common.{◌≡◌, ◌++◌, take}
use Rattle.simm_params.proofs.currency_list.CurrencyList.append.Given as goal

abbrev pub invariant-loop-currency : goal.invariant-loop-currency
invariant-loop-currency l = l.self ≡ l.fn.self ++ take l.currency-index l.currency-items
