use Rattle.std.proofs.Common.{◌≡◌, take}
use Rattle.house_sample.proofs.parameters.list.Given as goal

abbrev pub invariant-loop-currency : goal.invariant-loop-currency
invariant-loop-currency l = l.list ≡ take l.currency-index l.currencies
