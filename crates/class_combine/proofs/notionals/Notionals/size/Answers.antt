use Rattle.std.proofs.Common.{◌∙◌, ap, Some, None, FitsSigned, rules}
use Rattle.std.specs.Int.{w128}
use Rattle.simm_params.proofs.MhUnits.Integers.{same128}
use Rattle.class_combine.specs.Summed.{size_in}
use Rattle.class_combine.proofs.Tables.{held_at}
use Rattle.class_combine.proofs.notionals.Notionals.size.Goals as goal

pub returns-in-Some : goal.returns-in-Some
returns-in-Some c =
    let fits : FitsSigned w128 c.in-Some.sum.now.size = search rules in
    same128 c.in-Some.sum.now.size fits
    ∙ ap size_in (held_at c.self.inside.by_qualifier.entries c.args.self.now c.self.view_is c.args.qualifier.now (Some c.in-Some.sum.now) c.in-Some.ensures.value)

pub returns-in-None : goal.returns-in-None
returns-in-None c = ap size_in (held_at c.self.inside.by_qualifier.entries c.args.self.now c.self.view_is c.args.qualifier.now None c.in-None.ensures.value)
