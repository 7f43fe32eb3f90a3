-- The places of an array, one after another.
use Rattle.std.specs.Prelude.{ℕ, ◌+◌, List, [], ◌∷◌, ◌++◌, Result, Ok}
use Rattle.toml.specs.Data.{Data, Items, no_items, item}
use Rattle.toml_values.specs.Answers.{◌>>=◌}

-- A test of each place, which knows the place's number and what was read before it: numbers go up from the one given.
unfoldable pub each_of : {A E : Type 0} → (ℕ → List A → Data → Result A E) → ℕ → List A → Items → Result (List A) E
each_of test number before no_items = Ok []
each_of test number before (item value rest) = do
  one ← test number before value
  others ← each_of test (number + 1) (before ++ one ∷ []) rest
  Ok (one ∷ others)
