use Rattle.std.proofs.Common.{◌↔◌, IsTrue, sym, subst, rules, neg_ℤ, pos}
use Rattle.jiff.specs.Words.{IsBetween}
use Rattle.csa_terms.specs.Calendar.{IsCallingDay}
use Rattle.iso_dates.proofs.DateDays.{first_day}
use Rattle.csa_terms.proofs.BusinessDays.{last_day}
use Rattle.csa_terms.proofs.CalendarDays.{in_years}
use Rattle.csa_terms.proofs.due.is_calling_day.Goals as goal

pub returns-clause-calling : goal.returns-clause-calling
returns-clause-calling c =
    let numbers : IsTrue c.contains.result ↔ IsBetween (neg_ℤ (pos 719162)) (pos 2568019) c.args.day = search rules in
    rw (first_day, last_day) numbers

pub returns-clause-years : goal.returns-clause-years
returns-clause-years c = λ y m d h e.
    let numbers : IsTrue c.contains.result ↔ IsBetween (neg_ℤ (pos 719162)) (pos 2568019) c.args.day = search rules in
    let calling : IsTrue c.contains.result ↔ IsCallingDay c.args.day = rw (first_day, last_day) numbers in
    (λ t. (in_years y m d h).0 (subst IsCallingDay (sym e) (calling.0 t)), λ w. calling.1 (subst IsCallingDay e ((in_years y m d h).1 w)))
