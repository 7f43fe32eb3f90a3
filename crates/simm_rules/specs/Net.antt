-- Sensitivities and netting.
-- (ISDA SIMM methodology, structure: margins are per product class and risk class; sensitivities to one risk factor net.)
use Rattle.std.specs.Prelude.{List, [], ◌∷◌, map, ℤ}
use Rattle.std.specs.List.{filter, flat_map}
use Rattle.simm_kinds.specs.declared.kinds.ProductClass.{ProductClass}
use Rattle.simm_kinds.specs.declared.key.FactorKey.{FactorKey}
use Rattle.simm_kinds.specs.declared.row.CrifRow.{CrifRow}
use Rattle.simm_kinds.specs.declared.row.CrifRow.TheVariants as row
use Rattle.simm_kinds.specs.Order.{same_product, same_key, key_cmp}
use Rattle.simm_rules.specs.Sums.{total_by, different}

-- an amount, in cents, to a risk factor
pub record Sensitivity : Type 0 where
  pub key : FactorKey
  pub amount : ℤ

-- what a row is a sensitivity of; notionals and parameters of add-ons are of nothing
abbrev pub sensitivity : CrifRow → List Sensitivity
sensitivity (row.Sensitivity key amount) = record { key = key; amount = amount.0 } ∷ []
sensitivity (row.Notional qualifier amount) = []
sensitivity (row.FixedAmount amount) = []
sensitivity (row.NotionalFactor qualifier factor) = []
sensitivity (row.Multiplier product factor) = []

abbrev pub sensitivities : List CrifRow → List Sensitivity
sensitivities rows = flat_map sensitivity rows

-- those of one product class, which alone net and diversify
abbrev pub in_product : ProductClass → List Sensitivity → List Sensitivity
in_product product ss = filter (λ s. same_product s.key.product product) ss

-- the sum of the amounts to a risk factor
abbrev pub net : List Sensitivity → FactorKey → ℤ
net ss key = total_by (λ s. s.amount) (filter (λ s. same_key s.key key) ss)

-- the different risk factors, in key order
abbrev pub keys_of : List Sensitivity → List FactorKey
keys_of ss = different key_cmp (map (λ s. s.key) ss)

-- one sensitivity to each risk factor, in key order: what the margins of all classes are of
abbrev pub netted : List Sensitivity → List Sensitivity
netted ss = map (λ key. record { key = key; amount = net ss key }) (keys_of ss)
