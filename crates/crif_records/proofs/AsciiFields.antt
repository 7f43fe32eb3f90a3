-- The fields of a record of ASCII bytes are UTF-8.
use Rattle.std.proofs.Common.{◌≡◌, ◌==◌, ◌∷◌, [], ℕ, suc, zero, Bool, true, false, cond, List, reverse, unwrap_or, sym, subst}
use Rattle.std.specs.List.{AllByRecursion}
use Rattle.std.specs.Str.{IsAscii, is_utf8}
use Rattle.std.proofs.lemmas.List.{reverse-append}
use Rattle.std.proofs.lemmas.Str.{is_utf8-from_IsUtf8, IsUtf8-from_ascii, IsAscii-take, IsAscii-drop, IsAscii-append}
use Rattle.std.proofs.lemmas.Str.Ascii.{IsAscii-nil, IsAscii-cons}
use Rattle.csv.specs.Records.{Row, cut_from, field_at, fields_of, text_of}
use Rattle.crif_records.specs.Fields.{without_leading_spaces, trimmed, text_at}

reversed : (bytes : List ℕ) → IsAscii bytes → IsAscii (reverse bytes)
reversed [] h = h
reversed (b ∷ bs) h = subst IsAscii (sym (reverse-append (b ∷ []) bs)) (IsAscii-append (reverse bs) (b ∷ []) (reversed bs (λ i. h (suc i))) (IsAscii-cons b [] (h 0) IsAscii-nil))

behind_spaces : (bytes : List ℕ) → IsAscii bytes → IsAscii (without_leading_spaces bytes)
behind_spaces [] h = h
behind_spaces (b ∷ bs) h =
    elim (b == 32) as (λ space. IsAscii (cond space (without_leading_spaces bs) (b ∷ bs))) [
      | true ↦ behind_spaces bs (λ i. h (suc i))
      | false ↦ h
    ]

trimmed_ascii : (bytes : List ℕ) → IsAscii bytes → IsAscii (trimmed bytes)
trimmed_ascii bytes h = reversed _ (behind_spaces _ (reversed _ (behind_spaces bytes h)))

cut_ascii : (start : ℕ) (ends bytes : List ℕ) → IsAscii bytes → AllByRecursion IsAscii (cut_from start ends bytes)
unfolding cut_from
cut_ascii start [] bytes h = record {}
cut_ascii start (end ∷ ends) bytes h = (IsAscii-take _ _ (IsAscii-drop bytes start h), cut_ascii end ends bytes h)

-- of a record whose bytes are ASCII each field is
pub fields_ascii : (r : Row) → IsAscii (text_of r) → AllByRecursion IsAscii (fields_of r)
fields_ascii r h = cut_ascii 0 r.ends r.bytes h

field_ascii : (fields : List (List ℕ)) (place : ℕ) → AllByRecursion IsAscii fields → IsAscii (unwrap_or (field_at fields place) [])
unfolding field_at
field_ascii [] place h = IsAscii-nil
field_ascii (f ∷ fs) zero h = h.0
field_ascii (f ∷ fs) (suc place) h = field_ascii fs place h.1

pub text_at_utf8 : (fields : List (List ℕ)) (place : ℕ) → AllByRecursion IsAscii fields → is_utf8 (text_at fields place) ≡ true
text_at_utf8 fields place h = is_utf8-from_IsUtf8 _ (IsUtf8-from_ascii _ (trimmed_ascii _ (field_ascii fields place h)))
