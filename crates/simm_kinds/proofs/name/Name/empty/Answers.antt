use Rattle.std.proofs.Common.{◌≡◌, [], true, refl}
use Rattle.std.specs.Str.{is_utf8}
use Rattle.std.proofs.lemmas.Str.{is_utf8-from_IsUtf8, IsUtf8-from_ascii}
use Rattle.std.proofs.lemmas.Str.Ascii.{IsAscii-nil}
use Rattle.simm_kinds.proofs.name.Name.empty.Goals as goal

pub invariant_of-result : goal.invariant_of-result
invariant_of-result c =
    let text : is_utf8 [] ≡ true = is_utf8-from_IsUtf8 [] (IsUtf8-from_ascii [] IsAscii-nil) in
    rw (c.new.ensures.items, text) refl
