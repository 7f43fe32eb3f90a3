use Rattle.std.proofs.Common.{ap, ◌∙◌, sym, is_some, arith}
use Rattle.collateral_ledger.specs.Changes.{has_lot}
use Rattle.collateral_ledger.proofs.Entries.{has_lot-lots_at, removed, sum_small}
use Rattle.collateral_ledger.proofs.Sums.{difference_fits}
use Rattle.collateral_ledger.proofs.lots.Lots.remove.Goals as goal

pub returns-in_default-clause-found : goal.returns-in_default-clause-found
returns-in_default-clause-found c =
    ap is_some c.in_default.ensures.value ∙ has_lot-lots_at c.args.name.now c.self.inside.by_name.entries ∙ ap (has_lot c.args.name.now) c.self.view_is

pub overflow_sub-self : goal.overflow_sub-self
overflow_sub-self c =
    difference_fits c.self.inside.counted c.counted.result (sum_small c.self.inside.next_place c.self.inside.counted c.self.inside.by_name.entries c.self.invariant) (omega (arith, c.counted.ensures.size))

pub invariant_of-self-2 : goal.invariant_of-self-2
invariant_of-self-2 c =
    (removed c.self.inside.by_name.entries c.remove.new.self.entries c.self.inside.next_place c.self.inside.counted c.counted.result c.args.name.now c.in-Some.lot c.args.self.now
    c.self.view_is c.self.invariant c.len-count.ensures.ordered (sym c.in-Some.ensures.value) c.counted.ensures.value c.counted.ensures.size c.remove.ensures.entries).kept

pub returns-clause-found : goal.returns-clause-found
returns-clause-found c =
    ap is_some c.in-Some.ensures.value ∙ has_lot-lots_at c.args.name.now c.self.inside.by_name.entries ∙ ap (has_lot c.args.name.now) c.self.view_is

pub returns-clause-taken : goal.returns-clause-taken
returns-clause-taken c =
    (removed c.self.inside.by_name.entries c.remove.new.self.entries c.self.inside.next_place c.self.inside.counted c.counted.result c.args.name.now c.in-Some.lot c.args.self.now
    c.self.view_is c.self.invariant c.len-count.ensures.ordered (sym c.in-Some.ensures.value) c.counted.ensures.value c.counted.ensures.size c.remove.ensures.entries).seen
