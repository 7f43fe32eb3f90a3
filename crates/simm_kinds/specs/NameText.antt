-- Which texts are names, and which are currencies.
use Rattle.std.specs.Prelude.{ℕ, ◌≡◌, List, [], ◌∷◌, length, Bool, true, ◌&&◌, not, nat_le, nat_lt, ◌==◌, slice_index, ◌-◌, Option, Some, None, is_none, Result, Ok, Err, if◌then◌else◌}
use Rattle.std.specs.List.{list_all}
use Rattle.std.specs.Str.{is_utf8}
use Rattle.simm_kinds.specs.declared.fault.NameFault.{NameFault}
use Rattle.simm_kinds.specs.declared.fault.NameFault.TheVariants as fault

-- no byte below a space, and none that deletes
abbrev pub is_printable : ℕ → Bool
is_printable b = nat_le 32 b && not (b == 127)

-- no space stands at either end
abbrev pub is_trimmed : List ℕ → Bool
is_trimmed [] = true
is_trimmed (b ∷ bs) = not (b == 32) && not (slice_index (b ∷ bs) (length (b ∷ bs) - 1) == 32)

-- each byte is printable, and no space stands at either end
abbrev pub has_name_bytes : List ℕ → Bool
has_name_bytes bytes = list_all is_printable bytes && is_trimmed bytes

-- The first fault of a text that is to be a name, in the order in which they are tested; none for a name: at most 64 bytes of
-- UTF-8 text that prints, without a space at either end. It may be empty.
abbrev pub name_fault : List ℕ → Option NameFault
name_fault bytes =
    if nat_lt 64 (length bytes) then Some fault.Long
    else if is_utf8 bytes && has_name_bytes bytes then None
    else Some fault.Byte

abbrev pub IsName : List ℕ → Type 0
IsName bytes = name_fault bytes ≡ None

-- a name that isn't empty
abbrev pub is_full_name : List ℕ → Bool
is_full_name bytes = not (length bytes == 0) && is_none (name_fault bytes)

-- What reading a text as a name answers: just these bytes, or the first fault. Memory is wanted for a name alone.
abbrev pub ReadsName : List ℕ → Result (List ℕ) NameFault → Type 0
ReadsName text (Ok name) = (name ≡ text) × IsName text
ReadsName text (Err fault.Memory) = IsName text
ReadsName text (Err fault.Long) = name_fault text ≡ Some fault.Long
ReadsName text (Err fault.Byte) = name_fault text ≡ Some fault.Byte

abbrev pub is_upper : ℕ → Bool
is_upper b = nat_le 65 b && nat_le b 90

-- A currency: three letters in upper case.
abbrev pub is_currency : List ℕ → Bool
is_currency bytes = (length bytes == 3) && list_all is_upper bytes
