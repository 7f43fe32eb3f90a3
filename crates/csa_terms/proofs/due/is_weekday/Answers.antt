use Rattle.std.proofs.Common.{◌≡◌, ◌∙◌, ap, pos, ◌+ℤ◌, w32, FitsSigned, arith, int_lt, nat_lt, unsigned_abs}
use Rattle.std.specs.Int.{int_rem_euclid}
use Rattle.std.proofs.lemmas.Int.{to_z-of_z, ints}
use Rattle.jiff_core.specs.Calendar.{weekday_number}
use Rattle.csa_terms.proofs.BusinessDays.{below_five}
use Rattle.csa_terms.proofs.due.is_weekday.Goals as goal

pub returns : goal.returns
unfolding weekday_number
returns c =
    let fits : FitsSigned w32 c.args.day = c.ranges.day in
    let sum : FitsSigned w32 (c.args.day +ℤ pos 3) = omega (arith, ints) in
    let is : c.rem_euclid.result ≡ int_rem_euclid (c.args.day +ℤ pos 3) (pos 7) = rw (to_z-of_z w32 c.args.day c.ranges.day, to_z-of_z w32 (c.args.day +ℤ pos 3) sum) at c.rem_euclid.ensures.value in
    let low = c.rem_euclid.ensures.lower_bound in
    let high = c.rem_euclid.ensures.upper_bound in
    let same : FitsSigned w32 c.rem_euclid.result = omega (arith, ints) in
    ap (λ z. int_lt z (pos 5)) (to_z-of_z w32 c.rem_euclid.result same)
    ∙ below_five c.rem_euclid.result (omega (arith, ints))
    ∙ ap (λ z. nat_lt (unsigned_abs z) 5) is
