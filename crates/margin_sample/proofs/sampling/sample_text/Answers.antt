use Rattle.margin_sample.proofs.Summaries.{text_made}
use Rattle.margin_sample.proofs.sampling.sample_text.Goals as goal

pub returns : goal.returns
returns g c = text_made c.args.plan.feeds c.args.plan.seed c.in_ok-sets.sets.items c.summary.result c.in_ok-sets.ensures c.summary.ensures
