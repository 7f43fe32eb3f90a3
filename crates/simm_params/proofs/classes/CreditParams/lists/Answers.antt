use Rattle.std.proofs.lemmas.Simd.{map-map}
use Rattle.simm_params.proofs.classes.CreditParams.lists.Goals as goal

pub returns : goal.returns
returns c = rw map-map c.lists.ensures
