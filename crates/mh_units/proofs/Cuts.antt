-- The parts of a text between the bytes of one kind.
use Rattle.std.proofs.Common.{◌≡◌, ◌∷◌, [], ℕ, ◌+◌, ◌<◌, ◌≤◌, Bool, false, cond, ltb, List, length, take, drop, Some, None, refl, sym, ap, arith}
use Rattle.std.specs.List.{slice_split, position_or_len}
use Rattle.std.proofs.lemmas.List.Splits.{length-slice_split, slice_split_none, slice_split_first}
use Rattle.std.proofs.lemmas.List.Sums.{fails_before_first}
use Rattle.std.proofs.lemmas.List.Elements.{All-from_get_or}
use Rattle.std.proofs.lemmas.Bool.{lt-ltb}

-- there is always a first part
pub first_part : (p : ℕ → Bool) (bytes : List ℕ) → (part : List ℕ) × (parts : List (List ℕ)) × (slice_split p bytes ≡ part ∷ parts)
first_part p bytes = of_parts (slice_split p bytes) refl
  where
    of_parts : (parts : List (List ℕ)) → slice_split p bytes ≡ parts → (part : List ℕ) × (rest : List (List ℕ)) × (slice_split p bytes ≡ part ∷ rest)
    of_parts [] none = absurd (omega (arith, length-slice_split p bytes, ap length none))
    of_parts (part ∷ rest) same = (part, rest, same)

-- where a search for the first place found none
pub split_nowhere : (p : ℕ → Bool) (bytes : List ℕ) → cond (ltb (position_or_len p bytes) (length bytes)) (Some (position_or_len p bytes)) None ≡ None → slice_split p bytes ≡ bytes ∷ []
split_nowhere p bytes e =
    let past : length bytes ≤ position_or_len p bytes = grind (arith, lt-ltb) in
    slice_split_none p bytes (All-from_get_or (λ b. p b ≡ false) bytes 0 (λ i h. fails_before_first p bytes i 0 (omega arith)))

-- where it found one
pub split_there : (p : ℕ → Bool) (bytes : List ℕ) (place : ℕ) → cond (ltb (position_or_len p bytes) (length bytes)) (Some (position_or_len p bytes)) None ≡ Some place → slice_split p bytes ≡ take place bytes ∷ slice_split p (drop (place + 1) bytes)
split_there p bytes place e =
    let there : position_or_len p bytes < length bytes = grind (arith, lt-ltb) in
    let same : position_or_len p bytes ≡ place = grind (arith, lt-ltb) in
    rw (sym same) (slice_split_first p bytes 0 there)
