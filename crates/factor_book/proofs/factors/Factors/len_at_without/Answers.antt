use Rattle.std.proofs.Common.{ap, arith}
use Rattle.std.specs.Prelude.{count_by}
use Rattle.factor_book.specs.Holdings.{goes}
use Rattle.factor_book.proofs.Leaving.{split_at}
use Rattle.factor_book.proofs.factors.Factors.len_at_without.Goals as goal

pub keys_left-requires : goal.keys_left-requires
keys_left-requires c =
    omega (arith, c.len_at-keys.ensures, ap (λ lent. count_by (goes c.args.self.now) lent.factors) c.in-Some.ensures, split_at c.args.self.now c.args.leaving.now c.requires.0 c.requires.1 c.args.place.now)

pub returns-in-Some : goal.returns-in-Some
returns-in-Some c = λ left w.
    omega (arith, c.keys_left.ensures, c.len_at-keys.ensures, ap (λ lent. count_by (goes c.args.self.now) lent.factors) c.in-Some.ensures, split_at c.args.self.now c.args.leaving.now left w c.args.place.now)

pub returns-in-None : goal.returns-in-None
returns-in-None c = λ left w.
    omega (arith, c.len_at-keys.ensures, ap (count_by (goes c.args.self.now)) c.in-None.ensures, split_at c.args.self.now c.args.leaving.now left w c.args.place.now)
