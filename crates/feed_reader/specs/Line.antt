-- Feed grammar: what a line outside a block is.
use Rattle.std.specs.Prelude.{◌≡◌, ℕ, List, [], ◌∷◌, Bool, true, false, ◌==◌, codes, Option, unwrap_or}
use Rattle.std.specs.List.{All}
use Rattle.std.specs.Str.{bytes_eq}
use Rattle.feed_reader.specs.declared.message.Meaning.{Meaning}
use Rattle.feed_reader.specs.declared.message.Meaning.TheVariants.{Opens, Tells, Bad}
use Rattle.feed_reader.specs.Fields.{fields_of, ◌>>=◌, first}
use Rattle.feed_reader.specs.Words.{word_of}
use Rattle.feed_reader.specs.Messages.{by_word}

-- an empty line, and one that begins with #, is passed over
abbrev pub is_passed_over : List ℕ → Bool
is_passed_over [] = true
is_passed_over (b ∷ bs) = b == 35

-- by the word that the first field is
unfoldable pub by_fields : List (List ℕ) → Option Meaning
by_fields fields = do
  word ← first word_of fields
  by_word word.0 word.1

unfoldable pub meaning_of : List ℕ → Meaning
meaning_of line = unwrap_or (by_fields (fields_of line)) Bad

-- the line that ends a block
abbrev pub is_end : List ℕ → Bool
is_end line = bytes_eq line (codes "END")

-- lines within the block that a line of this meaning begins
abbrev pub LieWithin : Meaning → List (List ℕ) → Type 0
LieWithin (Opens kind set) lines = All (λ line. is_end line ≡ false) lines
LieWithin (Tells message) lines = lines ≡ []
LieWithin Bad lines = lines ≡ []

-- a front of one message, where there is one: its first line, and lines within the block that it begins
abbrev pub IsBegun : List (List ℕ) → Type 0
IsBegun [] = Unit {0}
IsBegun (line ∷ further) = (is_passed_over line ≡ false) × LieWithin (meaning_of line) further
