-- Bytes that are printable ones of ASCII are text that prints.
use Rattle.std.proofs.Common.{◌≡◌, ℕ, zero, suc, ◌<◌, Bool, true, ◌&&◌, nat_le, List, [], ◌∷◌, get_or, refl, ap, ◌∙◌, arith}
use Rattle.std.specs.List.{list_all}
use Rattle.std.specs.Str.{is_utf8}
use Rattle.std.proofs.lemmas.Bool.{and_parts, leb-true}
use Rattle.std.proofs.lemmas.Bool.Decides.{nat_tests}
use Rattle.std.proofs.lemmas.Str.{is_utf8-from_IsUtf8, IsUtf8-from_ascii}
use Rattle.simm_kinds.specs.NameText.{is_printable}

-- a printable byte of ASCII
abbrev pub is_plain : ℕ → Bool
is_plain b = nat_le 32 b && nat_le b 126

plain_prints : (b : ℕ) → is_plain b ≡ true → is_printable b ≡ true
plain_prints b h = grind (arith, nat_tests)

ascii : (bytes : List ℕ) → list_all is_plain bytes ≡ true → (i : ℕ) → get_or bytes i 0 < 128
ascii [] h i = omega arith
ascii (b ∷ bs) h zero = let first = and_parts (is_plain b) (list_all is_plain bs) h in let top = leb-true b 126 ((and_parts (nat_le 32 b) (nat_le b 126) first.0).1) in omega arith
ascii (b ∷ bs) h (suc i) = ascii bs ((and_parts (is_plain b) (list_all is_plain bs) h).1) i

all_print : (bytes : List ℕ) → list_all is_plain bytes ≡ true → list_all is_printable bytes ≡ true
all_print [] h = refl
all_print (b ∷ bs) h =
    let parts = and_parts (is_plain b) (list_all is_plain bs) h in
    ap (λ t. t && list_all is_printable bs) (plain_prints b parts.0) ∙ all_print bs parts.1

pub plain_text : (bytes : List ℕ) → list_all is_plain bytes ≡ true → (is_utf8 bytes && list_all is_printable bytes) ≡ true
plain_text bytes h =
    ap (λ t. t && list_all is_printable bytes) (is_utf8-from_IsUtf8 bytes (IsUtf8-from_ascii bytes (ascii bytes h))) ∙ all_print bytes h
