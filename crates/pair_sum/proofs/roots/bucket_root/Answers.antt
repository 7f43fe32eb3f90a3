use Rattle.std.proofs.Common.{◌≡◌, ◌∙◌, ap, rules, arith, pos, FitsSigned}
use Rattle.std.proofs.lemmas.Int.{ints, to_z-of_z}
use Rattle.std.specs.Int.{w128}
use Rattle.simm_rules.specs.MhUnits.Rounding.{up, root}
use Rattle.simm_rules.specs.Concentration.{one}
use Rattle.pair_sum.proofs.RootBounds.{root_none, within_from, bits_within}
use Rattle.pair_sum.proofs.roots.bucket_root.Goals as goal

pub returns-then-square-le0-clause-value : goal.returns-then-square-le0-clause-value
returns-then-square-le0-clause-value c =
    let fits_q : FitsSigned w128 c.args.q = c.ranges.q in
    let quotient : c.div_up-square.result ≡ up c.args.q one = simp to_z-of_z at c.div_up-square.ensures.value in
    root_none c.div_up-square.result (omega (arith, ints)) ∙ ap root quotient

pub returns-else-square-le0-clause-size : goal.returns-else-square-le0-clause-size
unfolding root
returns-else-square-le0-clause-size c =
    let bound = within_from c.args.q (pos c.least_root.result) 14000000000000000 (search rules) (bits_within c.args.q c.ranges.q) in omega (arith, ints)

pub returns-else-square-le0-clause-within : goal.returns-else-square-le0-clause-within
unfolding root
returns-else-square-le0-clause-within c = λ gross h. within_from c.args.q _ gross (search rules) h
