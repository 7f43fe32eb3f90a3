use Rattle.std.proofs.Common.{◌≡◌, take}
use Rattle.std.specs.Int.{int_min}
use Rattle.std.specs.List.{fold}
use Rattle.simm_params.specs.RateUnits.{ten_thousandths}
use Rattle.simm_params.proofs.rates.Rates.least_with.Given as goal

abbrev pub invariant-loop-rate : goal.invariant-loop-rate
invariant-loop-rate l = l.least.0 ≡ fold int_min l.fn.rate.0 (take l.rate-index (ten_thousandths l.rate-items))
