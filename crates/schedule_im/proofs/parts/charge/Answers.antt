use Rattle.schedule_im.proofs.Sizes.{charge_size}
use Rattle.schedule_im.proofs.parts.charge.Goals as goal

pub returns-clause-size : goal.returns-clause-size
returns-clause-size c =
    charge_size c.args.size c.args.rate c.from.result c.from-2.result c.div_up.result c.requires c.ranges.size.fits c.from.ensures c.from-2.ensures c.div_up.ensures.value
