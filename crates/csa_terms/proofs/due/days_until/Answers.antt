use Rattle.std.proofs.Common.{rules, ◌≡◌, pos, ◌+◌, ◌+ℤ◌, w32, to_z, of_z, arith, sym, ◌∙◌}
use Rattle.std.proofs.lemmas.Int.{to_z-of_z, ints}
use Rattle.csa_terms.proofs.BusinessDays.{starts, goes_on, steps_open, steps_closed, first_is}
use Rattle.csa_terms.proofs.due.days_until.Goals as goal

pub loop-left-init : goal.loop-left-init
loop-left-init c = starts _ _ _

pub overflow_add-later : goal.overflow_add-later
overflow_add-later c =
    let below = goes_on _ _ _ _ _ c.facts.ensures.holidays.few c.requires.few c.loop-left.invariant c.loop-left-test.true in search rules

pub is_business_day-requires : goal.is_business_day-requires
is_business_day-requires c =
    let below = goes_on _ _ _ _ _ c.facts.ensures.holidays.few c.requires.few c.loop-left.invariant c.loop-left-test.true in
    omega (arith, ints)

pub loop-left-preserved-then-is_business_day : goal.loop-left-preserved-then-is_business_day
loop-left-preserved-then-is_business_day c =
    let below = goes_on _ _ _ _ _ c.facts.ensures.holidays.few c.requires.few c.loop-left.invariant c.loop-left-test.true in
    let next : to_z w32 (of_z w32 (to_z w32 (of_z w32 c.args.day) +ℤ to_z w32 (of_z w32 c.from.result))) ≡ to_z w32 (of_z w32 c.args.day) +ℤ pos (c.loop-left.later + 1) = omega (arith, ints) in
    steps_open _ _ _ _ _ c.facts.ensures.holidays.few c.requires.few c.loop-left.invariant c.loop-left-test.true _ next (sym c.if-is_business_day.true ∙ c.is_business_day.ensures)

pub loop-left-smaller : goal.loop-left-smaller
loop-left-smaller c =
    let below = goes_on _ _ _ _ _ c.facts.ensures.holidays.few c.requires.few c.loop-left.invariant c.loop-left-test.true in omega arith

pub loop-left-smaller-then-is_business_day : goal.loop-left-smaller-then-is_business_day
loop-left-smaller-then-is_business_day c =
    let below = goes_on _ _ _ _ _ c.facts.ensures.holidays.few c.requires.few c.loop-left.invariant c.loop-left-test.true in omega arith

pub loop-left-preserved : goal.loop-left-preserved
loop-left-preserved c =
    let below = goes_on _ _ _ _ _ c.facts.ensures.holidays.few c.requires.few c.loop-left.invariant c.loop-left-test.true in
    let next : to_z w32 (of_z w32 (to_z w32 (of_z w32 c.args.day) +ℤ to_z w32 (of_z w32 c.from.result))) ≡ to_z w32 (of_z w32 c.args.day) +ℤ pos (c.loop-left.later + 1) = omega (arith, ints) in
    steps_closed _ _ _ _ _ c.facts.ensures.holidays.few c.requires.few c.loop-left.invariant c.loop-left-test.true _ next (sym c.if-is_business_day.false ∙ c.is_business_day.ensures)

pub returns-clause-least : goal.returns-clause-least
returns-clause-least c =
    let day = to_z-of_z w32 c.args.day c.ranges.day in
    let way = rw day at c.loop-left.invariant in
    let counted = way.counted in
    record { reached = omega arith; least = way.least }

pub returns-clause-value : goal.returns-clause-value
returns-clause-value c =
    let day = to_z-of_z w32 c.args.day c.ranges.day in
    let way = rw day at c.loop-left.invariant in
    let counted = way.counted in
    first_is c.args.terms.now.holidays c.args.day c.args.count c.loop-left.later c.facts.ensures.holidays.few c.requires.few (record { reached = omega arith; least = way.least })
