use Rattle.std.proofs.Common.{true≢false, refl, sym, arith, ◌-◌}
use Rattle.std.proofs.lemmas.Bool.{eqb-false}
use Rattle.simm_kinds.proofs.Letters.{same_letters, other_letter}
use Rattle.simm_kinds.proofs.words.are_alike.Goals as goal

pub returns-then-not-is_same_letter : goal.returns-then-not-is_same_letter
returns-then-not-is_same_letter c = (
  λ e. absurd (true≢false (sym e)),
  λ same. absurd (other_letter c.args.text.now c.args.word.now (c.loop-place.place - 1) c.requires (omega arith) (eqb-false _ _ (sym c.if-not-is_same_letter.ensures)) same),
)

pub returns : goal.returns
returns c = (λ _. same_letters c.args.text.now c.args.word.now c.requires (λ k h. c.loop-place.invariant k (omega arith) h), λ _. refl)
