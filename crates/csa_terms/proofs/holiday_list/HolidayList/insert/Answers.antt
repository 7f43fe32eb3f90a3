use Rattle.std.proofs.Common.{◌<◌, length, ap, w32, arith}
use Rattle.std.proofs.lemmas.Int.{to_z-of_z}
use Rattle.csa_terms.proofs.Holidays.{holidays-with_day}
use Rattle.csa_terms.proofs.holiday_list.HolidayList.insert.Goals as goal

pub invariant_of-self-2 : goal.invariant_of-self-2
invariant_of-self-2 c =
    let same = ap length c.self.view_is in
    let room : length c.self.inside.days.keys < 4096 = omega arith in
    rw (c.in_ok-insert.ensures.keys, to_z-of_z w32 c.args.day c.ranges.day)
    (holidays-with_day c.self.inside.days.keys c.args.day room c.self.invariant c.requires.calendar)
