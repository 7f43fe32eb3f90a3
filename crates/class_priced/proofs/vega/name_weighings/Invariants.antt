use Rattle.std.proofs.Common.{◌≡◌, map, take}
use Rattle.measured_bucket.specs.Vega.{vega_from}
use Rattle.class_priced.proofs.vega.name_weighings.Given as goal

abbrev pub invariant-loop-name : goal.invariant-loop-name
invariant-loop-name l = l.weighings.items ≡ map (λ name. vega_from l.terms.hvr.0 l.terms.sigma.0 l.terms.weight.0 l.terms.threshold name.sum) (take l.name-index l.names)
