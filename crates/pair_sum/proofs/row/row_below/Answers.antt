use Rattle.std.proofs.Common.{◌≡◌, ◌*ℤ◌, map, length, FitsSigned, rules, arith}
use Rattle.std.proofs.lemmas.Int.{to_z-of_z, fits_signed_from_abs}
use Rattle.std.specs.Int.{w128}
use Rattle.pair_sum.specs.PairTotal.{at_place}
use Rattle.pair_sum.proofs.Sums.{sizes_below-all, at_place-map}
use Rattle.pair_sum.proofs.Squares.{correlates}
use Rattle.pair_sum.proofs.Rows.{correlated, row_end}
use Rattle.pair_sum.proofs.row.row_below.Goals as goal

pub overflow_mul-result : goal.overflow_mul-result
overflow_mul-result g c =
    let corr = g.C.Correlation.corr c.args.corr.now in
    let items = c.args.items.now in
    let ws = map g.T.Weighted.weight items in
    let laws = correlates corr _ (length items) c.requires.size (g.met.C.Correlation.symmetric c.args.corr.now) (g.met.C.Correlation.at_most_one c.args.corr.now) in
    let fits_own : FitsSigned w128 c.weight.result = search rules in
    let fits_sum : FitsSigned w128 c.correlated_below.result = search rules in
    let amount = at_place-map g.T.Weighted.weight items c.args.row c.index-items-row.result c.requires.row_in c.index-items-row.is in
    let own : c.weight.result ≡ at_place ws c.args.row = cc in
    let sum : c.correlated_below.result ≡ correlated corr ws c.args.row c.args.row = c.correlated_below.ensures.value in
    let whole = row_end corr ws (length items) c.args.row c.args.row c.correlated_below.result c.weight.result (λ j below. laws.at_most_one c.args.row j c.requires.row_in below) (omega (arith, sizes_below-all g.T.Weighted.weight items)) c.requires.row_in (omega (arith, c.requires.row_in)) sum own in
    simp to_z-of_z (fits_signed_from_abs w128 (c.correlated_below.result *ℤ c.weight.result) (omega (arith, whole.size)))

pub returns-clause-value : goal.returns-clause-value
returns-clause-value g c =
    let corr = g.C.Correlation.corr c.args.corr.now in
    let items = c.args.items.now in
    let ws = map g.T.Weighted.weight items in
    let laws = correlates corr _ (length items) c.requires.size (g.met.C.Correlation.symmetric c.args.corr.now) (g.met.C.Correlation.at_most_one c.args.corr.now) in
    let fits_own : FitsSigned w128 c.weight.result = search rules in
    let fits_sum : FitsSigned w128 c.correlated_below.result = search rules in
    let amount = at_place-map g.T.Weighted.weight items c.args.row c.index-items-row.result c.requires.row_in c.index-items-row.is in
    let own : c.weight.result ≡ at_place ws c.args.row = cc in
    let sum : c.correlated_below.result ≡ correlated corr ws c.args.row c.args.row = c.correlated_below.ensures.value in
    let whole = row_end corr ws (length items) c.args.row c.args.row c.correlated_below.result c.weight.result (λ j below. laws.at_most_one c.args.row j c.requires.row_in below) (omega (arith, sizes_below-all g.T.Weighted.weight items)) c.requires.row_in (omega (arith, c.requires.row_in)) sum own in
    let fits : FitsSigned w128 (c.correlated_below.result *ℤ c.weight.result) = fits_signed_from_abs w128 (c.correlated_below.result *ℤ c.weight.result) (omega (arith, whole.size)) in
    simp to_z-of_z whole.value
