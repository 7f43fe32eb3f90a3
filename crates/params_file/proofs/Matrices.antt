-- Lists and matrices of rates that are taken have so many places, each in the range.
use Rattle.std.proofs.Common.{◌≡◌, ℕ, List, [], ◌∷◌, ◌++◌, Ok, Option, Some, ℤ, decimal, sym, ◌∙◌}
use Rattle.toml.specs.Data.{Data, Items}
use Rattle.simm_params.specs.TomlValues.declared.range.Range.{Range}
use Rattle.simm_params.specs.TomlValues.Paths.{joined}
use Rattle.simm_params.specs.TomlValues.Values.{items_count, array_of_length}
use Rattle.simm_params.specs.TomlValues.Places.{each_of}
use Rattle.simm_params.specs.Square.{IsSquare}
use Rattle.simm_params.specs.Matrix.{AreRates, IsMatrix}
use Rattle.params_file.specs.Matrix.{rate_at, rates_of, row_at}
use Rattle.params_file.proofs.Each.{taken, each_of-count, each_of-all, array_of_length-count, rate_of-within}

-- the rates at so many places
pub are_rates : (path : List (List ℕ)) (count : ℕ) (range : Range) (places : Items) (xs : List ℤ) → items_count places ≡ count → each_of (rate_at path range) 1 [] places ≡ Ok xs → AreRates count range xs
are_rates path count range places xs full h = record {
  full = each_of-count (rate_at path range) 1 [] places xs h ∙ full;
  within = each_of-all (rate_at path range) _ (λ number before value x. rate_of-within (joined (path ++ decimal number ∷ [])) range (Some value) x) 1 [] places xs h;
}

pub rates_of-are : (path : List (List ℕ)) (count : ℕ) (range : Range) (value : Option Data) (xs : List ℤ) → rates_of path count range value ≡ Ok xs → AreRates count range xs
unfolding rates_of
rates_of-are path count range value xs h =
    let places = taken (array_of_length (joined path) count value) _ xs h in
    are_rates path count range places.0 xs (array_of_length-count (joined path) count value places.0 places.1) places.2

-- the rows at so many places
pub is_matrix : (path : List (List ℕ)) (size : ℕ) (range : Range) (places : Items) (rows : List (List ℤ)) → items_count places ≡ size → each_of (row_at path size range) 1 [] places ≡ Ok rows → IsMatrix size range rows
is_matrix path size range places rows full h = record {
  full = each_of-count (row_at path size range) 1 [] places rows h ∙ full;
  rows = each_of-all (row_at path size range) _ (λ number before value x. rates_of-are (path ++ decimal number ∷ []) size range (Some value) x) 1 [] places rows h;
}

pub is_square : (size : ℕ) (range : Range) (rows : List (List ℤ)) → IsMatrix size range rows → IsSquare rows
is_square size range rows h = λ k d lt. (h.rows k d lt).full ∙ sym h.full
