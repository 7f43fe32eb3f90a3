use Rattle.std.proofs.Common.{refl, rules, sym}
use Rattle.std.specs.Prelude.{IsTrue}
use Rattle.std.specs.Str.{is_utf8}
use Rattle.std.proofs.lemmas.Bool.{false_from_ne_true}
use Rattle.std.proofs.lemmas.Str.{IsUtf8-from_is_utf8, is_utf8-from_IsUtf8}
use Rattle.toml.specs.Errors.{IsMemory}
use Rattle.toml_values.proofs.document.read_document.Goals as goal

pub returns-in-Err : goal.returns-in-Err
returns-in-Err c = rw (false_from_ne_true (is_utf8 c.args.bytes.now) (λ e. c.in-Err.ensures.cases.0 (IsUtf8-from_is_utf8 _ e))) refl

pub returns-in-Ok-table_from_str : goal.returns-in-Ok-table_from_str
returns-in-Ok-table_from_str c =
    rw (is_utf8-from_IsUtf8 _ c.in-Ok.ensures.cases.1, ← c.in-Ok.ensures.cases.0) (sym c.in-Ok-table_from_str.ensures.ok)

pub returns-in-Err-2 : goal.returns-in-Err-2
returns-in-Err-2 c =
    let not_memory : ¬ (IsMemory c.in-Err-table_from_str.fault) = λ m. let t : IsTrue c.is_memory.result = c.is_memory.ensures.1 m in search (rules, c.if-is_memory.false) in
    rw (is_utf8-from_IsUtf8 _ c.in-Ok.ensures.cases.1, ← c.in-Ok.ensures.cases.0) (sym (c.in-Err-table_from_str.ensures.refused not_memory))
