use Rattle.std.proofs.Common.{ap, ◌∙◌, sym, is_some, arith}
use Rattle.std.proofs.lemmas.Bool.{false≢true}
use Rattle.csa_terms.proofs.MhUnits.Integers.{same64}
use Rattle.collateral_ledger.specs.Changes.{has_lot}
use Rattle.collateral_ledger.proofs.Entries.{has_lot-lots_at, revalued, sum_small}
use Rattle.collateral_ledger.proofs.Sums.{sum_fits}
use Rattle.collateral_ledger.proofs.lots.Lots.set_value.Goals as goal

pub returns-in_default : goal.returns-in_default
returns-in_default c =
    absurd (false≢true (ap is_some c.in_default.ensures.value ∙ has_lot-lots_at c.args.name.now c.self.inside.by_name.entries ∙ ap (has_lot c.args.name.now) c.self.view_is ∙ c.requires.known))

pub overflow_add-self : goal.overflow_add-self
overflow_add-self c =
    sum_fits c.self.inside.counted c.set_value-more.result (sum_small c.self.inside.next_place c.self.inside.counted c.self.inside.by_name.entries c.self.invariant) (omega (arith, c.set_value-more.ensures.size))

pub invariant_of-self-2 : goal.invariant_of-self-2
invariant_of-self-2 c =
    (revalued c.self.inside.by_name.entries (c.get_mut.follows.lender c.set_value-more.new.self).entries c.self.inside.next_place c.self.inside.counted c.set_value-more.result c.args.name.now c.args.value c.in-Some.lot.now c.set_value-more.new.self c.args.self.now
    c.self.view_is c.self.invariant c.get_mut.ensures.ordered c.requires.in_range (sym c.in-Some.ensures.value) (c.set_value-more.ensures.lot ∙ ap (λ z. record c.in-Some.lot.now { value = z }) (same64 c.args.value c.ranges.value))
    c.set_value-more.ensures.small c.set_value-more.ensures.more c.set_value-more.ensures.size (c.get_mut.follows.holds c.set_value-more.new.self).0).kept

pub returns : goal.returns
returns c =
    (revalued c.self.inside.by_name.entries (c.get_mut.follows.lender c.set_value-more.new.self).entries c.self.inside.next_place c.self.inside.counted c.set_value-more.result c.args.name.now c.args.value c.in-Some.lot.now c.set_value-more.new.self c.args.self.now
    c.self.view_is c.self.invariant c.get_mut.ensures.ordered c.requires.in_range (sym c.in-Some.ensures.value) (c.set_value-more.ensures.lot ∙ ap (λ z. record c.in-Some.lot.now { value = z }) (same64 c.args.value c.ranges.value))
    c.set_value-more.ensures.small c.set_value-more.ensures.more c.set_value-more.ensures.size (c.get_mut.follows.holds c.set_value-more.new.self).0).seen
