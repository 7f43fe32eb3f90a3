-- What a line asks, by how many fields it has.
use Rattle.std.proofs.Common.{◌≡◌, ℕ, ◌<◌, List, [], ◌∷◌, None, length, refl, sym, ap, arith}
use Rattle.std.specs.Prelude.{◌==◌}
use Rattle.std.proofs.lemmas.List.Splits.{length-slice_split}
use Rattle.feed_reader.specs.Fields.{fields_of}
use Rattle.pool_feed.specs.Requests.{request_by, request_of}

pub by_fields : (line : List ℕ) (fields : List (List ℕ)) → fields_of line ≡ fields → request_by fields ≡ request_of line
unfolding request_of
by_fields line fields are = ap request_by (sym are)

four_fields : (word first second : List ℕ) (fields : List (List ℕ)) → 0 < length fields → None ≡ request_by (word ∷ first ∷ second ∷ fields)
four_fields word first second [] some = absurd (omega (arith, some))
four_fields word first second (third ∷ fields) some = refl

-- there is always a first field
pub too_many : (word first second rest : List ℕ) → None ≡ request_by (word ∷ first ∷ second ∷ fields_of rest)
too_many word first second rest = four_fields word first second (fields_of rest) (omega (arith, length-slice_split (λ b. b == 9) rest))
