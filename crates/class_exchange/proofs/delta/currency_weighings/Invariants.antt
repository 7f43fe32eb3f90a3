use Rattle.std.proofs.Common.{◌≡◌, map, take}
use Rattle.class_exchange.specs.Currencies.{currency_view}
use Rattle.class_exchange.specs.Unweighed.{unweighed_currency}
use Rattle.class_exchange.proofs.delta.currency_weighings.Given as goal

abbrev pub invariant-loop-currency : goal.invariant-loop-currency
invariant-loop-currency l = l.weighings.items ≡ map (λ net. (unweighed_currency l.params (currency_view net)).from) (take l.currency-index l.currencies)
