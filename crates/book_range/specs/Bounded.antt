-- What a book in range keeps, quantity by quantity, and which books can be margined.
-- (ISDA SIMM methodology gives no range: it is that of this house.)
use Rattle.std.specs.Prelude.{◌≡◌, ◌^◌, ◌≤◌, List, length, true, pos, ◌≤ℤ◌}
use Rattle.std.specs.List.{list_all}
use Rattle.simm_params.specs.SimmKinds.declared.kinds.ProductClass.{ProductClass}
use Rattle.simm_params.specs.SimmKinds.declared.kinds.RiskClass.{RiskClass}
use Rattle.simm_params.specs.SimmKinds.declared.key.FactorKey.{FactorKey}
use Rattle.simm_params.specs.SimmKinds.declared.row.CrifRow.{CrifRow}
use Rattle.simm_params.specs.SimmKinds.Batch.{is_in_range}
use Rattle.simm_params.specs.SimmRules.Params.{Params}
use Rattle.simm_params.specs.SimmRules.Net.{sensitivities, in_product}
use Rattle.simm_params.specs.SimmRules.Gross.{delta_size, vega_size}
use Rattle.simm_params.specs.SimmRules.Admits.{admits}
use Rattle.factor_book.specs.declared.holding.Holding.{Holding}
use Rattle.factor_book.specs.declared.place.Place.{Place}
use Rattle.factor_book.specs.Factors.{factors_of}
use Rattle.factor_book.specs.Places.{factors_at}

-- no quantity of the rows is above its limit
pub record IsBounded (p : Params) (held : List CrifRow) : Type 0 where
  pub rows : length held ≤ 200000
  pub keys : length (factors_of held) ≤ 20000
  pub each : (place : Place) → length (factors_at place (factors_of held)) ≤ 2000
  pub delta : (product : ProductClass) (class : RiskClass) → delta_size p (in_product product (sensitivities held)) class ≤ℤ pos (10 ^ 17)
  pub vega : (product : ProductClass) (class : RiskClass) → vega_size p (in_product product (sensitivities held)) class ≤ℤ pos (10 ^ 17)

-- the factors are those of rows that the parameters admit, in range, and of amounts that a batch can have
pub record IsMarginable (p : Params) (factors : List (FactorKey × Holding)) : Type 0 where
  pub held : List CrifRow
  pub are : factors ≡ factors_of held
  pub amounts : list_all is_in_range held ≡ true
  pub admitted : list_all (admits p) held ≡ true
  pub bounded : IsBounded p held
