-- The concentration groups of currencies at `ir.group`, tested group by group: currencies, of which none stands twice in all
-- groups together, and then thresholds. The array may be left out.
use Rattle.std.specs.Prelude.{ℕ, List, [], ◌∷◌, Option, Some, None, Result, Ok, codes, decimal}
use Rattle.std.specs.List.{All, flat_map}
use Rattle.toml.specs.Data.{Data, Members, get_member}
use Rattle.simm_params.specs.SimmRules.Params.{Thresholds, CurrencyGroup}
use Rattle.simm_params.specs.TomlValues.declared.fault.ValueFault.{ValueFault}
use Rattle.simm_params.specs.TomlValues.Paths.{joined}
use Rattle.simm_params.specs.TomlValues.Answers.{◌>>=◌}
use Rattle.simm_params.specs.TomlValues.Values.{array_of, table_of}
use Rattle.simm_params.specs.TomlValues.Places.{each_of}
use Rattle.params_file.specs.Currencies.{new_currencies_of}
use Rattle.simm_params.specs.Thresholds.{AreThresholds}
use Rattle.params_file.specs.Thresholds.{thresholds_of}

-- the table of the group at a place
unfoldable pub group_table_of : ℕ → Data → Result Members ValueFault
group_table_of number value = table_of (joined (codes "ir" ∷ codes "group" ∷ decimal number ∷ [])) (Some value)

-- the group's currencies, which are none of the earlier ones
unfoldable pub group_currencies_of : ℕ → List (List ℕ) → Members → Result (List (List ℕ)) ValueFault
group_currencies_of number earlier group = new_currencies_of (codes "ir" ∷ codes "group" ∷ decimal number ∷ codes "currencies" ∷ []) earlier (get_member (codes "currencies") group)

unfoldable pub group_thresholds_of : ℕ → Members → Result Thresholds ValueFault
group_thresholds_of number group = thresholds_of (codes "ir" ∷ codes "group" ∷ decimal number ∷ []) group

-- the group at a place
unfoldable pub group_of : ℕ → List (List ℕ) → Data → Result CurrencyGroup ValueFault
group_of number earlier value = do
  group ← group_table_of number value
  currencies ← group_currencies_of number earlier group
  thresholds ← group_thresholds_of number group
  Ok (record { currencies = currencies; thresholds = thresholds })

-- the currencies of all groups
abbrev pub currencies_in : List CurrencyGroup → List (List ℕ)
currencies_in groups = flat_map (λ g. g.currencies) groups

abbrev pub group_at : ℕ → List CurrencyGroup → Data → Result CurrencyGroup ValueFault
group_at number before value = group_of number (currencies_in before) value

unfoldable pub groups_of : Option Data → Result (List CurrencyGroup) ValueFault
groups_of None = Ok []
groups_of (Some value) = do
  places ← array_of (joined (codes "ir" ∷ codes "group" ∷ [])) (Some value)
  each_of group_at 1 [] places

-- each group's thresholds are in their range
abbrev pub AreGroups : List CurrencyGroup → Type 0
AreGroups groups = All (λ g. AreThresholds g.thresholds) groups
