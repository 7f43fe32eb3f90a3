use Rattle.std.proofs.Common.{◌≤ℤ◌, ◌<ℤ◌, ◌*ℤ◌, ◌-ℤ◌, pos, arith}
use Rattle.std.proofs.lemmas.Bool.{OnTrue_from}
use Rattle.std.proofs.lemmas.Int.{to_z-of_z}
use Rattle.simm_rules.specs.Concentration.{one}
use Rattle.concentration.proofs.Factors.{product_fits, quotient_is}
use Rattle.concentration.proofs.is_quotient.Goals as goal

pub returns-then-rest-ge0 : goal.returns-then-rest-ge0
returns-then-rest-ge0 c =
    let low : pos 0 ≤ℤ c.args.guess = grind (arith, to_z-of_z) in
    let most : c.args.guess ≤ℤ one = grind (arith, to_z-of_z) in
    let product = product_fits c.args.guess c.args.divisor low most c.requires.positive c.requires.high in
    OnTrue_from _ _ (λ below.
    let left : pos 0 ≤ℤ (c.args.number -ℤ (c.args.guess *ℤ c.args.divisor)) = grind (arith, to_z-of_z, product) in
    let under : (c.args.number -ℤ (c.args.guess *ℤ c.args.divisor)) <ℤ c.args.divisor = grind (arith, to_z-of_z, product, below) in
    quotient_is c.args.number c.args.divisor c.args.guess c.requires.positive left under)
