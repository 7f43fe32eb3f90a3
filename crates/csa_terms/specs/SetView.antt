-- The plain record of a set's terms, and the amounts in it.
use Rattle.std.specs.Prelude.{ℕ, List, ℤ}
use Rattle.toml_values.specs.MhUnits.declared.quantities.Rate4.{Rate4}
use Rattle.csa_terms.specs.Terms.{Haircut, Agreement, IsAmount, IsRounding}
use Rattle.csa_terms.specs.declared.set_terms.Amounts.{Amounts}

abbrev pub set_view : List ℕ → Amounts → ℕ → Rate4 → List Haircut → List ℤ → Agreement
set_view name amounts notification fx_haircut haircuts holidays = record {
  name = name;
  threshold = amounts.threshold.0;
  mta_delivery = amounts.mta_delivery.0;
  mta_return = amounts.mta_return.0;
  rounding = amounts.rounding.0;
  notification = notification;
  fx_haircut = fx_haircut.0;
  haircuts = haircuts;
  holidays = holidays;
}

-- amounts, each in its range
pub record AreAmounts (amounts : Amounts) : Type 0 where
  pub threshold : IsAmount amounts.threshold.0
  pub mta_delivery : IsAmount amounts.mta_delivery.0
  pub mta_return : IsAmount amounts.mta_return.0
  pub rounding : IsRounding amounts.rounding.0
