-- Bytes that are text, as a fact and as a test.
use Rattle.std.proofs.Common.{◌≡◌, ℕ, List, Result, Ok, Err, sym}
use Rattle.std.specs.Str.{IsUtf8, is_utf8}
use Rattle.std.specs.Result.{MatchResult, is_ok}
use Rattle.std.proofs.lemmas.Str.{IsUtf8-from_is_utf8, is_utf8-from_IsUtf8}
use Rattle.std.proofs.lemmas.Bool.{false_from_ne_true}

-- a reading of text that succeeds just for UTF-8 is the test
pub is_ok-is_utf8 : {X Y : Type 0} (r : Result X Y) (bytes : List ℕ) → MatchResult r (λ _. IsUtf8 bytes) (λ _. IsUtf8 bytes → ⊥) → is_ok r ≡ is_utf8 bytes
is_ok-is_utf8 (Ok x) bytes h = sym (is_utf8-from_IsUtf8 bytes h)
is_ok-is_utf8 (Err e) bytes h = sym (false_from_ne_true (is_utf8 bytes) (λ t. h (IsUtf8-from_is_utf8 bytes t)))
