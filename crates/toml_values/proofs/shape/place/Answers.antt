use Rattle.toml_values.proofs.Shapes.{get_item-found}
use Rattle.toml_values.proofs.shape.place.Goals as goal

pub returns : goal.returns
returns c = get_item-found c.args.places.now c.args.index c.get.result c.get.ensures.lookup
