use Rattle.std.proofs.Common.{rules, refl, arith}
use Rattle.iso_dates.proofs.Digits.{no_number, a_digit, power_small, all_read}
use Rattle.iso_dates.proofs.date.number.Goals as goal

pub loop-digit-init : goal.loop-digit-init
loop-digit-init c = record { value = refl; small = omega arith }

pub returns-then-not-is_ascii_digit-clause-value : goal.returns-then-not-is_ascii_digit-clause-value
returns-then-not-is_ascii_digit-clause-value c =
    no_number _ _ _ c.loop-digit-test.true c.loop-digit.invariant c.if-not-is_ascii_digit.ensures.value

pub overflow_mul-number : goal.overflow_mul-number
overflow_mul-number c =
    let small = c.loop-digit.invariant.small in
    let power = power_small c.loop-digit.digit-index (omega arith) in search rules

pub overflow_add-number : goal.overflow_add-number
overflow_add-number c =
    let small = c.loop-digit.invariant.small in
    let power = power_small c.loop-digit.digit-index (omega arith) in search rules

pub loop-digit-preserved : goal.loop-digit-preserved
loop-digit-preserved c =
    a_digit _ _ _ c.loop-digit-test.true c.loop-digit.invariant _ c.from.ensures c.if-not-is_ascii_digit.ensures.value

pub returns-clause-value : goal.returns-clause-value
returns-clause-value c = (all_read _ _ _ c.loop-digit-test.false c.loop-digit.auto.digit-index-end c.loop-digit.invariant).0

pub returns-clause-small : goal.returns-clause-small
returns-clause-small c = (all_read _ _ _ c.loop-digit-test.false c.loop-digit.auto.digit-index-end c.loop-digit.invariant).1
