-- The words that name trades.
use Rattle.std.specs.Prelude.{ℕ, List, map, Bool}
use Rattle.std.specs.declared.string.String.{String}
use Rattle.std.specs.String.{string_bytes}
use Rattle.whatif.specs.BucketCache.SimmRules.SimmKinds.NameText.{is_full_name}

abbrev pub words_in : {A : Type 0} → List (String A) → List (List ℕ)
words_in words = map string_bytes words

-- a name that isn't empty
abbrev pub is_trade_word : List ℕ → Bool
is_trade_word word = is_full_name word
