-- The concentration thresholds of a group or a bucket: of delta, and then of vega. The path of their table is given by its words.
use Rattle.std.specs.Prelude.{ℕ, List, [], ◌∷◌, ◌++◌, Result, Ok, codes}
use Rattle.toml.specs.Data.{Members, get_member}
use Rattle.simm_params.specs.SimmRules.Params.{Thresholds}
use Rattle.simm_params.specs.TomlValues.declared.fault.ValueFault.{ValueFault}
use Rattle.simm_params.specs.TomlValues.Paths.{joined}
use Rattle.simm_params.specs.TomlValues.Answers.{◌>>=◌}
use Rattle.simm_params.specs.TomlValues.Values.{usd_of}

unfoldable pub thresholds_of : List (List ℕ) → Members → Result Thresholds ValueFault
thresholds_of path table = do
  delta ← usd_of (joined (path ++ codes "threshold" ∷ [])) (get_member (codes "threshold") table)
  vega ← usd_of (joined (path ++ codes "vega_threshold" ∷ [])) (get_member (codes "vega_threshold") table)
  Ok (record { delta = delta; vega = vega })
