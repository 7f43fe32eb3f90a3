use Rattle.margin_sample.proofs.summary.push_asked.Goals as goal

pub returns : goal.returns
returns c = (c.ask.new.set, c.in_ok-margin.margin, c.in_ok-margin.ensures, c.in_ok-push_set.ensures)
