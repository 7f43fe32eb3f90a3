use Rattle.std.proofs.Common.{◌≡◌, ◌≤◌, refl, ap, sym, ◌∙◌, pos, ◌≤ℤ◌, w32, FitsSigned, to_z, Some, arith}
use Rattle.std.specs.Int.{w8, w16}
use Rattle.std.proofs.lemmas.Bool.Decides.{nat_tests}
use Rattle.std.proofs.lemmas.Int.{to_z-of_z, ints}
use Rattle.jiff.specs.Words.{epoch_day}
use Rattle.iso_dates.proofs.DateDays.{day-from, calendar-from}
use Rattle.iso_dates.proofs.date.day_of_date.Goals as goal

pub returns-in-Ok-clause-value : goal.returns-in-Ok-clause-value
returns-in-Ok-clause-value c =
    let first : 1 ≤ c.args.date.year = grind (arith, nat_tests) in
    let y : to_z w16 c.args.date.year ≡ pos c.args.date.year = omega (arith, ints) in
    let m : to_z w8 c.args.date.month ≡ pos c.args.date.month = omega (arith, ints) in
    let d : to_z w8 c.args.date.day ≡ pos c.args.date.day = omega (arith, ints) in
    let date = rw (y, m, d) at (c.in-Ok.ensures.succeeds.0 refl) in
    let ymd = rw (y, m, d) at c.in-Ok.ensures.value in
    let fits : FitsSigned w32 c.to_unix_epoch_day.result = omega (arith, ints) in
    ap Some (to_z-of_z w32 c.to_unix_epoch_day.result fits ∙ c.to_unix_epoch_day.ensures.value ∙ ap epoch_day c.to_plain.ensures)
    ∙ sym (day-from c.args.date.year c.args.date.month c.args.date.day c.in-Ok.date first date ymd)

pub returns-in-Ok-clause-calendar : goal.returns-in-Ok-clause-calendar
returns-in-Ok-clause-calendar c =
    let first : 1 ≤ c.args.date.year = grind (arith, nat_tests) in
    let y : to_z w16 c.args.date.year ≡ pos c.args.date.year = omega (arith, ints) in
    let ymd = rw y at c.in-Ok.ensures.value.0 in
    let low : pos 1 ≤ℤ c.in-Ok.date.year = omega (arith, ints) in
    let fits : FitsSigned w32 c.to_unix_epoch_day.result = omega (arith, ints) in
    rw (to_z-of_z w32 c.to_unix_epoch_day.result fits, c.to_unix_epoch_day.ensures.value, c.to_plain.ensures) (calendar-from c.in-Ok.date low)
