-- Rates as numbers of ten-thousandths.
use Rattle.std.specs.Prelude.{List, map, ℤ}
use Rattle.simm_rules.specs.MhUnits.declared.quantities.Rate4.{Rate4}

abbrev pub ten_thousandths : List Rate4 → List ℤ
ten_thousandths rates = map (λ rate. rate.0) rates
