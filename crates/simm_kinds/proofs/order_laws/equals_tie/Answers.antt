use Rattle.simm_kinds.proofs.order_laws.equals_tie.Goals as goal

pub returns : goal.returns
returns g c = g.met.K.Ord.matches_eq
