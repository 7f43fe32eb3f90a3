use Rattle.std.proofs.Common.{sym}
use Rattle.toml_values.proofs.Shapes.{items_count-view}
use Rattle.toml_values.proofs.shape.place_count.Goals as goal

pub returns : goal.returns
returns c = sym (items_count-view c.args.places.now)
