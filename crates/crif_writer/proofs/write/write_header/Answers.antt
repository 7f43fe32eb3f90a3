use Rattle.std.proofs.Common.{◌≡◌, ℕ, List, ◌∷◌, [], OnOk, map, take, ap, ◌∙◌, subst, arith}
use Rattle.crif_reader.specs.Columns.{column_name}
use Rattle.crif_writer.specs.Text.{header_fields, written_columns, WritesMore}
use Rattle.crif_writer.proofs.write.write_header.Goals as goal

pub returns : goal.returns
returns c =
    let end : c.loop-column.column-index ≡ 10 = omega arith in
    let all : c.loop-column.fields ≡ header_fields = c.loop-column.invariant ∙ ap (λ i. map column_name (take i written_columns)) end in
    subst (λ (fields : List (List ℕ)). OnOk c.write_fields.result (WritesMore c.args.writer.now c.write_fields.new.writer (fields ∷ []))) all c.write_fields.ensures
