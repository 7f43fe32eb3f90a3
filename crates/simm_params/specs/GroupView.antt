-- The values of a concentration group.
use Rattle.simm_rules.specs.Params.{CurrencyGroup}
use Rattle.simm_params.specs.declared.currency_groups.CurrencyGroup.{CurrencyGroup as Held}
use Rattle.simm_params.specs.ThresholdView.{thresholds_view}

abbrev pub group_view : Held → CurrencyGroup
group_view g = record { currencies = g.currencies; thresholds = thresholds_view g.thresholds }
