use Rattle.std.proofs.Common.{◌+◌}
use Rattle.factor_book.proofs.Sums.{sum128}
use Rattle.factor_book.proofs.holding.Holding.joined.Goals as goal

pub returns : goal.returns
returns c = λ i. record {
  net = sum128 c.args.self.net c.args.others.net c.args.self.rows c.args.others.rows c.requires.had.net c.requires.more.net c.requires.few i;
  size = sum128 c.args.self.size c.args.others.size c.args.self.rows c.args.others.rows c.requires.had.size c.requires.more.size c.requires.few i;
  rows = c.args.self.rows + c.args.others.rows;
}
