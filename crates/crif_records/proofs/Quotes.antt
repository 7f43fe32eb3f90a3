-- Whether a quote stands in bytes, as a search for its first place tells.
use Rattle.std.proofs.Common.{◌≡◌, ℕ, Bool, List, Option, Some, None, ap, sym, ◌∙◌, arith}
use Rattle.std.proofs.lemmas.Bool.{false_from_ne_true}
use Rattle.std.proofs.lemmas.List.{get_or_default}
use Rattle.std.proofs.lemmas.List.Folds.{list_any_none, list_any_at}
use Rattle.std.specs.List.{list_any}
use Rattle.std.specs.Option.{is_some}
use Rattle.memchr.specs.Find.{IsFirstByte}

pub found_any : (test : ℕ → Bool) (bytes : List ℕ) (found : Option ℕ) → IsFirstByte test bytes found → is_some found ≡ list_any test bytes
found_any test bytes None nowhere =
    sym (list_any_none test bytes (λ k d below. false_from_ne_true (test _) (λ passes. nowhere k (omega arith) below (ap test (get_or_default bytes k 0 d below) ∙ passes))))
found_any test bytes (Some place) first = sym (list_any_at test bytes place 0 first.0.high first.1)
