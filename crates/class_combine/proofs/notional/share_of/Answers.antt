use Rattle.std.proofs.Common.{◌∙◌, ap}
use Rattle.class_combine.proofs.Products.{passed}
use Rattle.class_combine.proofs.Shares.{share}
use Rattle.class_combine.proofs.notional.share_of.Goals as goal

pub overflow_mul-product : goal.overflow_mul-product
overflow_mul-product c = (share c.args.factor.0 c.from.result c.args.notional c.requires.factor c.requires.notional c.from.ensures).fits

pub returns : goal.returns
returns c = ap passed c.div_up.ensures.value ∙ (share c.args.factor.0 c.from.result c.args.notional c.requires.factor c.requires.notional c.from.ensures).value
