-- Texts that are the same in any case, byte by byte.
use Rattle.std.proofs.Common.{◌≡◌, ◌≢◌, ℕ, ◌<◌, List, map, length, get_or, sym, ap, ◌∙◌, arith}
use Rattle.std.proofs.lemmas.List.{ext_get_or, length-map, get_or-map}
use Rattle.std.specs.Char.{to_ascii_lowercase}

abbrev pub lower_at : List ℕ → ℕ → ℕ
lower_at text k = to_ascii_lowercase (get_or text k 0)

mapped_at : (text : List ℕ) (k : ℕ) → k < length text → get_or (map to_ascii_lowercase text) k 0 ≡ lower_at text k
mapped_at text k h = get_or-map to_ascii_lowercase text k 0 0 h

pub same_letters : (a b : List ℕ) → length a ≡ length b → ((k : ℕ) → k < length a → lower_at a k ≡ lower_at b k) → map to_ascii_lowercase a ≡ map to_ascii_lowercase b
same_letters a b e all =
    ext_get_or 0 (map to_ascii_lowercase a) (map to_ascii_lowercase b) (length-map a to_ascii_lowercase ∙ e ∙ sym (length-map b to_ascii_lowercase))
    (λ k h. let inside : k < length a = omega (arith, length-map a to_ascii_lowercase) in mapped_at a k inside ∙ all k inside ∙ sym (mapped_at b k (omega arith)))

pub other_letter : (a b : List ℕ) (k : ℕ) → length a ≡ length b → k < length a → lower_at a k ≢ lower_at b k → map to_ascii_lowercase a ≢ map to_ascii_lowercase b
other_letter a b k e h never same = never (sym (mapped_at a k h) ∙ ap (λ l. get_or l k 0) same ∙ mapped_at b k (omega arith))
