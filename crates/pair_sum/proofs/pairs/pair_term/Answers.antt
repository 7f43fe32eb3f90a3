use Rattle.std.proofs.Common.{◌≡◌, rules, arith, ◌*ℤ◌, ap, unsigned_abs, ◌≤◌, FitsSigned}
use Rattle.std.proofs.lemmas.Int.{ints, to_z-of_z}
use Rattle.std.specs.Int.{w64, w128}
use Rattle.pair_sum.proofs.Squares.{scaled_fits, term_fits}
use Rattle.pair_sum.proofs.pairs.pair_term.Goals as goal

pub overflow_mul-result-2 : goal.overflow_mul-result-2
overflow_mul-result-2 g c =
    let fits_corr : FitsSigned w64 c.args.corr.0 = search rules in
    let fits_from : FitsSigned w128 c.from.result = search rules in
    let fits_a : FitsSigned w128 c.args.a = c.ranges.a in
    let fits_b : FitsSigned w128 c.args.b = c.ranges.b in
    let small : unsigned_abs c.from.result ≤ 1000000 = omega (arith, ints) in
    let scaled : FitsSigned w128 (c.from.result *ℤ c.args.a) = scaled_fits c.from.result c.args.a small c.requires.first in
    simp to_z-of_z (term_fits c.from.result c.args.a c.args.b small c.requires.first c.requires.second)

pub returns-clause-value : goal.returns-clause-value
returns-clause-value g c =
    let fits_corr : FitsSigned w64 c.args.corr.0 = search rules in
    let fits_from : FitsSigned w128 c.from.result = search rules in
    let fits_a : FitsSigned w128 c.args.a = c.ranges.a in
    let fits_b : FitsSigned w128 c.args.b = c.ranges.b in
    let small : unsigned_abs c.from.result ≤ 1000000 = omega (arith, ints) in
    let same : c.from.result ≡ c.args.corr.0 = omega (arith, ints) in
    let scaled : FitsSigned w128 (c.from.result *ℤ c.args.a) = scaled_fits c.from.result c.args.a small c.requires.first in
    let product : FitsSigned w128 (c.from.result *ℤ c.args.a *ℤ c.args.b) = term_fits c.from.result c.args.a c.args.b small c.requires.first c.requires.second in
    simp to_z-of_z (ap (λ z. z *ℤ c.args.a *ℤ c.args.b) same)
