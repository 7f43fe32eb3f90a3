use Rattle.std.proofs.Common.{◌≡◌, true, ap, sym, ◌∙◌}
use Rattle.schedule_reader.specs.Fields.{texts, texts_of, are_text}
use Rattle.crif_records.specs.Reading.{newest}
use Rattle.schedule_reader.proofs.TextFields.{ascii_text, some_text}
use Rattle.schedule_reader.proofs.fields.Fields.read.Goals as goal
use Rattle.schedule_reader.proofs.fields.Fields.read.Goals.{then-is_ascii, else-is_ascii}

pub returns-then-are_text : goal.returns-then-are_text
returns-then-are_text c =
    let all = texts_of c.args.columns.now (newest c.args.records.now) in
    let text : are_text all ≡ true =
    elim c.if-is_ascii.branch [
      | then-is_ascii w ↦ ascii_text c.args.columns.now (newest c.args.records.now) (c.is_ascii.ensures w.if-is_ascii.true)
      | else-is_ascii w ↦ ap are_text (sym c.of-texts.ensures) ∙ sym w.are_text.ensures ∙ sym w.value-is ∙ c.if-are_text.true
    ] in
    some_text (texts c.of-texts.result) all c.of-texts.ensures text
