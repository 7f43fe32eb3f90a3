use Rattle.std.proofs.Common.{◌∙◌}
use Rattle.schedule_im.proofs.Sizes.{weighted, quotient_is}
use Rattle.schedule_im.proofs.margin.by_ratio.Goals as goal

pub overflow_mul-gross : goal.overflow_mul-gross
overflow_mul-gross c =
    let w = weighted c.args.gross c.args.net_cost c.args.gross_cost c.requires.gross c.requires.net c.requires.cost in
    rw (w.gross_is, w.net_is, w.cost_is, w.four_is, w.six_is, w.weight_is) w.product_fits

pub returns : goal.returns
returns c =
    let w = weighted c.args.gross c.args.net_cost c.args.gross_cost c.requires.gross c.requires.net c.requires.cost in
    let value = rw (w.gross_is, w.net_is, w.cost_is, w.four_is, w.six_is, w.weight_is, w.product_is, w.ten_is) at c.div_up.ensures.value in
    let size = rw (w.gross_is, w.net_is, w.cost_is, w.four_is, w.six_is, w.weight_is, w.product_is) at c.div_up.ensures.size in
    quotient_is c.args.gross c.args.net_cost c.args.gross_cost c.requires.gross c.requires.net c.requires.cost c.div_up.result size ∙ value
