-- Where a value stands in a file: the keys and places from the root to it, joined by points. Places are counted from 1.
use Rattle.std.specs.Prelude.{ℕ, List, [], ◌∷◌, ◌++◌, map, codes, decimal}
use Rattle.toml_values.specs.declared.path.Part.{Part}
use Rattle.toml_values.specs.declared.path.Part.TheVariants as part

-- each word behind a point
abbrev pub behind_points : List (List ℕ) → List ℕ
behind_points [] = []
behind_points (word ∷ words) = codes "." ++ (word ++ behind_points words)

abbrev pub joined : List (List ℕ) → List ℕ
joined [] = []
joined (word ∷ words) = word ++ behind_points words

abbrev pub word_of : Part → List ℕ
word_of (part.Key key) = key.now
word_of (part.Place place) = decimal place

abbrev pub path_of : List Part → List ℕ
path_of path = joined (map word_of path)
