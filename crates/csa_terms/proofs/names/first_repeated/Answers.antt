use Rattle.std.proofs.Common.{Some, sym, ap, ◌∙◌}
use Rattle.csa_terms.proofs.Loops.{is_repeated, is_new}
use Rattle.csa_terms.proofs.names.first_repeated.Goals as goal

pub returns-then-has_name : goal.returns-then-has_name
returns-then-has_name c =
    let any = rw c.name.ensures at c.has_name.ensures in
    ap Some c.name-then-has_name.ensures
    ∙ is_repeated c.args.sets.now c.loop-index.index c.index-sets-index.result c.loop-index-test.true c.index-sets-index.is c.loop-index.invariant (sym c.if-has_name.true ∙ any)

pub loop-index-preserved : goal.loop-index-preserved
loop-index-preserved c =
    let any = rw c.name.ensures at c.has_name.ensures in
    is_new c.args.sets.now c.loop-index.index c.index-sets-index.result c.loop-index-test.true c.index-sets-index.is c.loop-index.invariant (sym c.if-has_name.false ∙ any)
