-- Lists of currencies in the file, tested place by place. A path is given by its words; places count from 1.
use Rattle.std.specs.Prelude.{ℕ, List, [], ◌∷◌, ◌++◌, if◌then◌else◌, Option, Some, Result, Ok, Err, decimal}
use Rattle.toml.specs.Data.{Data}
use Rattle.simm_params.specs.SimmRules.Lookups.{is_listed}
use Rattle.simm_params.specs.TomlValues.Paths.{joined}
use Rattle.simm_params.specs.TomlValues.Answers.{◌>>=◌}
use Rattle.simm_params.specs.TomlValues.Values.{array_of, currency_of}
use Rattle.simm_params.specs.TomlValues.Places.{each_of}
use Rattle.simm_params.specs.TomlValues.declared.fault.ValueFault.{ValueFault}
use Rattle.simm_params.specs.TomlValues.declared.fault.ValueFault.TheVariants.{BadNumber}

-- a currency, at a place of the array at a path
abbrev pub currency_at : List (List ℕ) → ℕ → List (List ℕ) → Data → Result (List ℕ) ValueFault
currency_at path number before value = currency_of (joined (path ++ decimal number ∷ [])) (Some value)

-- currencies, of which one may stand twice
unfoldable pub currencies_of : List (List ℕ) → Option Data → Result (List (List ℕ)) ValueFault
currencies_of path value = do
  places ← array_of (joined path) value
  each_of (currency_at path) 1 [] places

-- a currency that is none of those before it
unfoldable pub new_currency_at : List (List ℕ) → ℕ → List (List ℕ) → Data → Result (List ℕ) ValueFault
new_currency_at path number before value = do
  currency ← currency_of (joined (path ++ decimal number ∷ [])) (Some value)
  if is_listed before currency then Err (BadNumber (joined (path ++ decimal number ∷ []))) else Ok currency

-- currencies, none of which stands twice or among earlier ones
unfoldable pub new_currencies_of : List (List ℕ) → List (List ℕ) → Option Data → Result (List (List ℕ)) ValueFault
new_currencies_of path earlier value = do
  places ← array_of (joined path) value
  each_of (new_currency_at path) 1 earlier places
