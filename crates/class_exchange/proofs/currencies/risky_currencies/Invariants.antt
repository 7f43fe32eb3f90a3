use Rattle.class_exchange.specs.Currencies.{as_risky, currency_net}
use Rattle.measured_bucket.proofs.Weighings.{Picking}
use Rattle.class_exchange.proofs.currencies.risky_currencies.Given as goal

abbrev pub invariant-loop-key : goal.invariant-loop-key
invariant-loop-key l = Picking (as_risky l.params) (currency_net l.params) l.lent.factors l.key-iterator l.nets.items
