-- The table of foreign exchange: its tests in order.
use Rattle.std.specs.Prelude.{ℕ, List, [], ◌∷◌, ◌++◌, Option, Result, Ok, ℤ, codes, decimal}
use Rattle.toml.specs.Data.{Data, Members, get_member, get_item}
use Rattle.simm_params.specs.SimmRules.Params.{FxParams}
use Rattle.simm_params.specs.TomlValues.declared.range.Range.{Range}
use Rattle.simm_params.specs.TomlValues.declared.fault.ValueFault.{ValueFault}
use Rattle.simm_params.specs.TomlValues.Paths.{joined}
use Rattle.simm_params.specs.TomlValues.Answers.{◌>>=◌}
use Rattle.simm_params.specs.TomlValues.Values.{array_of_length, rate_of, usd_of}
use Rattle.simm_params.specs.Ranges.{weights, correlations, sigmas, vega_weights, hvrs}
use Rattle.params_file.specs.KeyRate.{key_rate}
use Rattle.params_file.specs.Currencies.{currencies_of, new_currencies_of}
use Rattle.simm_params.specs.Fx.{Volatilities, row}

-- the words of the path of a key, and of a place of the array at a path
abbrev pub fx_words : List ℕ → List (List ℕ)
fx_words key = codes "fx" ∷ key ∷ []

abbrev pub place_words : List (List ℕ) → ℕ → List (List ℕ)
place_words path number = path ++ decimal number ∷ []

-- currencies at a key, of which one may stand twice, and such as stand neither twice nor among earlier ones
unfoldable pub fx_currencies : List ℕ → Members → Result (List (List ℕ)) ValueFault
fx_currencies key fx = currencies_of (fx_words key) (get_member key fx)

unfoldable pub fx_new_currencies : List ℕ → List (List ℕ) → Members → Result (List (List ℕ)) ValueFault
fx_new_currencies key earlier fx = new_currencies_of (fx_words key) earlier (get_member key fx)

-- weight: regular and high
unfoldable pub fx_weights : Members → Result (ℤ × ℤ) ValueFault
fx_weights fx = do
  places ← array_of_length (joined (fx_words (codes "weight"))) 2 (get_member (codes "weight") fx)
  regular ← rate_of (joined (place_words (fx_words (codes "weight")) 1)) weights (get_item 0 places)
  high ← rate_of (joined (place_words (fx_words (codes "weight")) 2)) weights (get_item 1 places)
  Ok (regular, high)

-- three rates at a key: both currencies regular, mixed, both high
unfoldable pub fx_pair_rates : List ℕ → Range → Members → Result (ℤ × ℤ × ℤ) ValueFault
fx_pair_rates key range fx = do
  places ← array_of_length (joined (fx_words key)) 3 (get_member key fx)
  regular ← rate_of (joined (place_words (fx_words key) 1)) range (get_item 0 places)
  mixed ← rate_of (joined (place_words (fx_words key) 2)) range (get_item 1 places)
  high ← rate_of (joined (place_words (fx_words key) 3)) range (get_item 2 places)
  Ok (regular, mixed, high)

-- three thresholds at a path: of the first, the second and the third concentration category
unfoldable pub category_thresholds : List (List ℕ) → Option Data → Result (ℤ × ℤ × ℤ) ValueFault
category_thresholds path value = do
  places ← array_of_length (joined path) 3 value
  first ← usd_of (joined (place_words path 1)) (get_item 0 places)
  second ← usd_of (joined (place_words path 2)) (get_item 1 places)
  third ← usd_of (joined (place_words path 3)) (get_item 2 places)
  Ok (first, second, third)

-- such a row for each of the three categories
unfoldable pub pair_thresholds : List (List ℕ) → Option Data → Result (List (List ℤ)) ValueFault
pair_thresholds path value = do
  places ← array_of_length (joined path) 3 value
  first ← category_thresholds (place_words path 1) (get_item 0 places)
  second ← category_thresholds (place_words path 2) (get_item 1 places)
  third ← category_thresholds (place_words path 3) (get_item 2 places)
  Ok (row first ∷ row second ∷ row third ∷ [])

-- threshold: of a currency, and vega_threshold: of a pair
unfoldable pub fx_thresholds : Members → Result (ℤ × ℤ × ℤ) ValueFault
fx_thresholds fx = category_thresholds (fx_words (codes "threshold")) (get_member (codes "threshold") fx)

unfoldable pub fx_vega_thresholds : Members → Result (List (List ℤ)) ValueFault
fx_vega_thresholds fx = pair_thresholds (fx_words (codes "vega_threshold")) (get_member (codes "vega_threshold") fx)

unfoldable pub fx_volatilities : Members → Result Volatilities ValueFault
fx_volatilities fx = do
  thresholds ← fx_vega_thresholds fx
  sigmas ← fx_pair_rates (codes "sigma") sigmas fx
  vrw ← key_rate (codes "fx" ∷ []) (codes "vrw") vega_weights fx
  hvr ← key_rate (codes "fx" ∷ []) (codes "hvr") hvrs fx
  rho ← key_rate (codes "fx" ∷ []) (codes "vol_rho") correlations fx
  Ok (record { thresholds = thresholds; sigmas = sigmas; vrw = vrw; hvr = hvr; rho = rho })

unfoldable pub fx_of : Members → Result FxParams ValueFault
fx_of fx = do
  high ← fx_currencies (codes "high") fx
  weight ← fx_weights fx
  rho ← fx_pair_rates (codes "rho") correlations fx
  first ← fx_new_currencies (codes "first") [] fx
  second ← fx_new_currencies (codes "second") first fx
  threshold ← fx_thresholds fx
  volatility ← fx_volatilities fx
  Ok (record {
    high = high;
    regular_weight = weight.0;
    high_weight = weight.1;
    regular_rho = rho.0;
    mixed_rho = rho.1;
    high_rho = rho.2;
    first = first;
    second = second;
    first_threshold = threshold.0;
    second_threshold = threshold.1;
    third_threshold = threshold.2;
    vega_threshold = volatility.thresholds;
    regular_sigma = volatility.sigmas.0;
    mixed_sigma = volatility.sigmas.1;
    high_sigma = volatility.sigmas.2;
    vrw = volatility.vrw;
    hvr = volatility.hvr;
    vol_rho = volatility.rho;
  })
