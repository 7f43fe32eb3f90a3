use Rattle.std.proofs.Common.{◌≡◌, false, ltb, length, ap, ◌∙◌, arith}
use Rattle.std.proofs.lemmas.Bool.{le-ltb}
use Rattle.crif_records.specs.Reading.{newest}
use Rattle.crif_records.proofs.Binds.{some_if}
use Rattle.schedule_reader.specs.Fields.{texts, texts_of, are_text}
use Rattle.schedule_reader.specs.Row.{model_of}
use Rattle.schedule_reader.proofs.row.row_of.Goals as goal

pub returns-in-Some-clause-value : goal.returns-in-Some-clause-value
returns-in-Some-clause-value c =
    let fields = newest c.args.records.now in
    let all = texts_of c.args.columns.now fields in
    let few : ltb c.args.columns.now.count (length fields) ≡ false = le-ltb c.args.columns.now.count (length fields) (omega arith) in
    let parts = some_if (are_text all) (texts c.in-Some.texts) all c.in-Some.ensures in
    rw (few, parts.0) (c.model_of.ensures.value ∙ ap model_of parts.1)
