use Rattle.std.proofs.Common.{◌∙◌, sym}
use Rattle.toml_values.proofs.Shapes.{members_count-view}
use Rattle.toml_values.proofs.shape.entry_count.Goals as goal

pub returns : goal.returns
returns c = c.len.ensures.len ∙ sym (members_count-view c.args.table.now.entries)
