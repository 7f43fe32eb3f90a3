use Rattle.std.proofs.Common.{◌∙◌, arith}
use Rattle.factor_book.specs.Holdings.{goes}
use Rattle.factor_book.proofs.Leaving.{split_all, first_places, next_place, no_places}
use Rattle.factor_book.proofs.factors.Factors.len_without.Goals as goal

pub loop-lent-init : goal.loop-lent-init
loop-lent-init c =
    omega (
      arith,
      c.len-keys.ensures,
      first_places (goes c.args.self.now) c.args.leaving.now c.into_iter-lent-iterator.result (c.into_iter-lent-iterator.ensures.into_iter_gives ∙ c.places-lent-items.ensures.rest),
    )

pub keys_left-keys-requires : goal.keys_left-keys-requires
keys_left-keys-requires c =
    omega (
      arith,
      c.loop-lent.invariant,
      next_place (goes c.args.self.now) c.loop-lent.lent-iterator c.next.new.self c.in-Some.lent.now c.in-Some.ensures.steps,
      split_all c.args.self.now c.args.leaving.now c.requires.0 c.requires.1,
    )

pub returns : goal.returns
returns c = λ left w.
    omega (arith, c.loop-lent.invariant, no_places (goes c.args.self.now) c.loop-lent.lent-iterator c.in-None.ensures.steps.0, split_all c.args.self.now c.args.leaving.now left w)
