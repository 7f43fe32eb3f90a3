use Rattle.std.proofs.Common.{ap, ◌∙◌, refl, arith}
use Rattle.csa_terms.proofs.MhUnits.Integers.{same64}
use Rattle.collateral_ledger.specs.Kept.{Rated}
use Rattle.collateral_ledger.proofs.Entries.{pushed, sum_small}
use Rattle.collateral_ledger.proofs.Sums.{sum_fits}
use Rattle.collateral_ledger.proofs.lots.Lots.push.Goals as goal

pub overflow_add-self : goal.overflow_add-self
overflow_add-self c =
    sum_fits c.self.inside.counted c.counted-counted.result (sum_small c.self.inside.next_place c.self.inside.counted c.self.inside.by_name.entries c.self.invariant) (omega (arith, c.counted-counted.ensures.size))

pub invariant_of-self-2 : goal.invariant_of-self-2
invariant_of-self-2 c =
    let lot : Rated = record { place = c.self.inside.next_place; value = c.args.value; rate = c.args.rate.0 } in
    (pushed c.self.inside.by_name.entries c.insert.new.self.entries c.self.inside.next_place c.in-Some.next_place c.self.inside.counted c.counted-counted.result c.args.name c.new-lot.result lot c.args.self.now
    c.self.view_is c.self.invariant c.requires.new c.requires.room (record { in_range = c.requires.in_range; small = c.requires.small }) refl c.in-Some.ensures.1
    (c.new-lot.ensures ∙ ap (λ z. record lot { value = z }) (same64 c.args.value c.ranges.value)) c.counted-counted.ensures.value c.counted-counted.ensures.size c.in_ok-insert.ensures.entries).kept

pub returns-clause-ok : goal.returns-clause-ok
returns-clause-ok c =
    let lot : Rated = record { place = c.self.inside.next_place; value = c.args.value; rate = c.args.rate.0 } in
    (pushed c.self.inside.by_name.entries c.insert.new.self.entries c.self.inside.next_place c.in-Some.next_place c.self.inside.counted c.counted-counted.result c.args.name c.new-lot.result lot c.args.self.now
    c.self.view_is c.self.invariant c.requires.new c.requires.room (record { in_range = c.requires.in_range; small = c.requires.small }) refl c.in-Some.ensures.1
    (c.new-lot.ensures ∙ ap (λ z. record lot { value = z }) (same64 c.args.value c.ranges.value)) c.counted-counted.ensures.value c.counted-counted.ensures.size c.in_ok-insert.ensures.entries).seen
