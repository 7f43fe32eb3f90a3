-- A rate at a key of the table at a path, which is given by its words.
use Rattle.std.specs.Prelude.{ℕ, List, [], ◌∷◌, ◌++◌, Result, ℤ}
use Rattle.toml.specs.Data.{Members, get_member}
use Rattle.simm_params.specs.TomlValues.declared.range.Range.{Range}
use Rattle.simm_params.specs.TomlValues.declared.fault.ValueFault.{ValueFault}
use Rattle.simm_params.specs.TomlValues.Paths.{joined}
use Rattle.simm_params.specs.TomlValues.Values.{rate_of}

unfoldable pub key_rate : List (List ℕ) → List ℕ → Range → Members → Result ℤ ValueFault
key_rate path key range table = rate_of (joined (path ++ key ∷ [])) range (get_member key table)
