use Rattle.std.proofs.Common.{◌≡◌, map, take}
use Rattle.class_exchange.specs.Currencies.{currency_view, weighed_currency}
use Rattle.class_exchange.proofs.delta.weigh_currencies.Given as goal

abbrev pub invariant-loop-currency : goal.invariant-loop-currency
invariant-loop-currency l = l.weighed.items ≡ map (λ net. weighed_currency l.params (currency_view net)) (take l.currency-index l.currencies)
