use Rattle.mh_io.proofs.LinesPieces.{skipped}
use Rattle.mh_io.proofs.lines_window.Window.skip.Goals as goal

pub returns : goal.returns
returns c = rw (← c.self.view_is) (skipped c.self.inside.start c.self.inside.end c.args.count c.self.inside.bytes.items (rw c.self.view_is c.requires))
