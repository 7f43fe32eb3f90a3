use Rattle.std.proofs.Common.{◌∙◌, sym}
use Rattle.simm_kinds.proofs.PlainText.{plain_text}
use Rattle.simm_kinds.proofs.name.is_printable_text.Goals as goal

pub returns-then-are_plain : goal.returns-then-are_plain
returns-then-are_plain c = c.if-are_plain.true ∙ sym (plain_text c.args.bytes.now (sym c.are_plain.ensures ∙ c.if-are_plain.true))
