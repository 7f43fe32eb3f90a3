use Rattle.std.proofs.Common.{refl}
use Rattle.schedule_im.proofs.Sizes.{summed}
use Rattle.schedule_im.proofs.gross.ClassGross.total.Goals as goal

pub overflow_add-result-4 : goal.overflow_add-result-4
overflow_add-result-4 c =
    let s = summed c.args.self.now c.requires in
    rw (s.rates, s.credit, s.two_is, s.equity, s.three_is, s.commodity, s.four_is, s.fx) s.five_fit

pub overflow_add-result-5 : goal.overflow_add-result-5
overflow_add-result-5 c =
    let s = summed c.args.self.now c.requires in
    rw (s.rates, s.credit, s.two_is, s.equity, s.three_is, s.commodity, s.four_is, s.fx, s.five_is, s.other) s.total_fits

pub returns-clause-value : goal.returns-clause-value
returns-clause-value c =
    let s = summed c.args.self.now c.requires in
    rw (s.rates, s.credit, s.two_is, s.equity, s.three_is, s.commodity, s.four_is, s.fx, s.five_is, s.other, s.total_is) refl

pub returns-clause-part : goal.returns-clause-part
returns-clause-part c =
    let s = summed c.args.self.now c.requires in
    rw (s.rates, s.credit, s.two_is, s.equity, s.three_is, s.commodity, s.four_is, s.fx, s.five_is, s.other, s.total_is) s.part
