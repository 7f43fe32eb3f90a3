use Rattle.std.proofs.Common.{◌∙◌}
use Rattle.book_range.proofs.Grosses.{side_first}
use Rattle.book_range.proofs.gross.side_size.Goals as goal

pub loop-lent-init : goal.loop-lent-init
loop-lent-init c =
    side_first c.args.params.now c.args.factors.now c.args.product c.args.class c.args.side c.into_iter-lent-iterator.result c.requires.few c.requires.small (c.into_iter-lent-iterator.ensures.into_iter_gives ∙ c.side-lent-items.ensures.rest)
