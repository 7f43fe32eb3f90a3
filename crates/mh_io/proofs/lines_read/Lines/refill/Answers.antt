use Rattle.std.proofs.Common.{refl, ap, ◌∙◌}
use Rattle.mh_io.proofs.LinesTaken.{failed_now}
use Rattle.mh_io.proofs.lines_read.Lines.refill.Goals as goal

pub returns-in-Err-clause-took : goal.returns-in-Err-clause-took
returns-in-Err-clause-took g c =
    let e = c.in-Err.ensures in
    rw (← c.self.view_is) (failed_now g.S.Source.seen _ _ (ap (λ h. h.supply) c.self.view_is ∙ c.requires.supply) refl e.failed e.name e.gave_stands e.left_stands e.stands refl refl)
