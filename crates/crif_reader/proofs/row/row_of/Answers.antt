use Rattle.std.proofs.Common.{◌≡◌, false, ltb, length, Option, option_map, Result, subst, arith}
use Rattle.std.proofs.lemmas.Bool.{le-ltb}
use Rattle.crif_reader.specs.declared.row_stop.RowStop.{RowStop}
use Rattle.crif_reader.specs.Fields.{Texts, texts, texts_of, are_text}
use Rattle.crif_records.specs.Reading.{newest}
use Rattle.crif_reader.specs.Reads.{GivesRow}
use Rattle.crif_reader.specs.Row.{Entry, model_of}
use Rattle.crif_records.proofs.Binds.{some_if}
use Rattle.crif_reader.proofs.row.row_of.Goals as goal

of_same : {X : Type 0} (view : X → Option Entry) (read : Result X RowStop) (t u : Texts) → t ≡ u → GivesRow view read (model_of t) → GivesRow view read (model_of u)
of_same view read t u same h = subst (λ texts. GivesRow view read (model_of texts)) same h

pub returns-in-Some : goal.returns-in-Some
returns-in-Some c =
    let fields = newest c.args.records.now in
    let all = texts_of c.args.columns.now fields in
    let few : ltb c.args.columns.now.count (length fields) ≡ false = le-ltb c.args.columns.now.count (length fields) (omega arith) in
    let parts = some_if (are_text all) (texts c.in-Some.texts) all c.in-Some.ensures in
    rw (few, parts.0) (of_same (λ o. option_map (λ e. record { trade = e.trade.now; row = e.row }) o) c.model_of.result (texts c.in-Some.texts) all parts.1 c.model_of.ensures)
