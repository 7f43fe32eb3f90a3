use Rattle.std.proofs.Common.{◌≡◌, ◌+ℤ◌, ◌-ℤ◌, ◌∙◌, refl, sym, ap, map, length, FitsSigned, rules, arith}
use Rattle.std.proofs.lemmas.Int.{ints, to_z-of_z}
use Rattle.std.proofs.lemmas.List.{length-map}
use Rattle.std.specs.Int.{w128}
use Rattle.simm_rules.proofs.MhUnits.Integers.{same128}
use Rattle.pair_sum.specs.PairTotal.{pair_total}
use Rattle.pair_sum.specs.Marked.{marked_total}
use Rattle.pair_sum.proofs.Sums.{sizes_below-all}
use Rattle.pair_sum.proofs.Squares.{correlates, total_size, square_in_range}
use Rattle.pair_sum.proofs.MarkedPairs.{range_of, renewed}
use Rattle.pair_sum.proofs.renewed.renew_sum.Goals as goal

pub take_out-rest-requires-clause-sum : goal.take_out-rest-requires-clause-sum
take_out-rest-requires-clause-sum g c =
    let marked = g.M.Marks.is_marked c.args.marked.now in
    let was = g.B.Correlation.corr c.args.before_corr.now in
    let is = g.A.Correlation.corr c.args.after_corr.now in
    let before = c.args.before.now in
    let after = c.args.after.now in
    let vs = map g.T.Weighted.weight before in
    let ws = map g.T.Weighted.weight after in
    let before_len : length vs ≡ length before = length-map before g.T.Weighted.weight in
    let after_len : length ws ≡ length after = length-map after g.T.Weighted.weight in
    let laws = correlates was _ (length vs) (c.requires.before_size ∙ sym before_len) (g.met.B.Correlation.symmetric c.args.before_corr.now) (g.met.B.Correlation.at_most_one c.args.before_corr.now) in
    let range = range_of g.T.Weighted.weight before c.requires.before_in_range in
    let change = renewed marked was is vs ws c.args.q (c.args.q -ℤ marked_total marked was vs) laws range (before_len ∙ c.requires.same_places ∙ sym after_len) (λ i p h. c.requires.same_amounts i (omega (arith, after_len)) h) (λ i j p q h k. c.requires.same_correlations i j (omega (arith, after_len)) (omega (arith, after_len)) h k) c.requires.sum refl in
    omega (arith, ints, change.before)

pub put_in-requires-clause-sum : goal.put_in-requires-clause-sum
put_in-requires-clause-sum g c =
    let marked = g.M.Marks.is_marked c.args.marked.now in
    let was = g.B.Correlation.corr c.args.before_corr.now in
    let is = g.A.Correlation.corr c.args.after_corr.now in
    let before = c.args.before.now in
    let after = c.args.after.now in
    let vs = map g.T.Weighted.weight before in
    let ws = map g.T.Weighted.weight after in
    let before_len : length vs ≡ length before = length-map before g.T.Weighted.weight in
    let after_len : length ws ≡ length after = length-map after g.T.Weighted.weight in
    let laws = correlates was _ (length vs) (c.requires.before_size ∙ sym before_len) (g.met.B.Correlation.symmetric c.args.before_corr.now) (g.met.B.Correlation.at_most_one c.args.before_corr.now) in
    let range = range_of g.T.Weighted.weight before c.requires.before_in_range in
    let fits_rest : FitsSigned w128 c.take_out-rest.result = search rules in
    let is_rest : c.take_out-rest.result ≡ c.args.q -ℤ marked_total marked was vs = c.take_out-rest.ensures.value ∙ ap (λ z. z -ℤ marked_total marked was vs) (same128 c.args.q c.ranges.q) in
    let change = renewed marked was is vs ws c.args.q c.take_out-rest.result laws range (before_len ∙ c.requires.same_places ∙ sym after_len) (λ i p h. c.requires.same_amounts i (omega (arith, after_len)) h) (λ i j p q h k. c.requires.same_correlations i j (omega (arith, after_len)) (omega (arith, after_len)) h k) c.requires.sum is_rest in
    omega (arith, ints, change.left)

pub returns-clause-value : goal.returns-clause-value
returns-clause-value g c =
    let marked = g.M.Marks.is_marked c.args.marked.now in
    let was = g.B.Correlation.corr c.args.before_corr.now in
    let is = g.A.Correlation.corr c.args.after_corr.now in
    let before = c.args.before.now in
    let after = c.args.after.now in
    let vs = map g.T.Weighted.weight before in
    let ws = map g.T.Weighted.weight after in
    let before_len : length vs ≡ length before = length-map before g.T.Weighted.weight in
    let after_len : length ws ≡ length after = length-map after g.T.Weighted.weight in
    let laws = correlates was _ (length vs) (c.requires.before_size ∙ sym before_len) (g.met.B.Correlation.symmetric c.args.before_corr.now) (g.met.B.Correlation.at_most_one c.args.before_corr.now) in
    let range = range_of g.T.Weighted.weight before c.requires.before_in_range in
    let fits_rest : FitsSigned w128 c.take_out-rest.result = search rules in
    let is_rest : c.take_out-rest.result ≡ c.args.q -ℤ marked_total marked was vs = c.take_out-rest.ensures.value ∙ ap (λ z. z -ℤ marked_total marked was vs) (same128 c.args.q c.ranges.q) in
    let change = renewed marked was is vs ws c.args.q c.take_out-rest.result laws range (before_len ∙ c.requires.same_places ∙ sym after_len) (λ i p h. c.requires.same_amounts i (omega (arith, after_len)) h) (λ i j p q h k. c.requires.same_correlations i j (omega (arith, after_len)) (omega (arith, after_len)) h k) c.requires.sum is_rest in
    let fits_sum : FitsSigned w128 c.put_in.result = search rules in
    let total : c.put_in.result ≡ pair_total is ws = c.put_in.ensures.value ∙ ap (λ z. z +ℤ marked_total marked is ws) (same128 c.take_out-rest.result fits_rest) ∙ change.value in
    simp to_z-of_z total

pub returns-clause-gross : goal.returns-clause-gross
returns-clause-gross g c =
    let marked = g.M.Marks.is_marked c.args.marked.now in
    let was = g.B.Correlation.corr c.args.before_corr.now in
    let is = g.A.Correlation.corr c.args.after_corr.now in
    let before = c.args.before.now in
    let after = c.args.after.now in
    let vs = map g.T.Weighted.weight before in
    let ws = map g.T.Weighted.weight after in
    let before_len : length vs ≡ length before = length-map before g.T.Weighted.weight in
    let after_len : length ws ≡ length after = length-map after g.T.Weighted.weight in
    let laws = correlates was _ (length vs) (c.requires.before_size ∙ sym before_len) (g.met.B.Correlation.symmetric c.args.before_corr.now) (g.met.B.Correlation.at_most_one c.args.before_corr.now) in
    let range = range_of g.T.Weighted.weight before c.requires.before_in_range in
    let fits_rest : FitsSigned w128 c.take_out-rest.result = search rules in
    let is_rest : c.take_out-rest.result ≡ c.args.q -ℤ marked_total marked was vs = c.take_out-rest.ensures.value ∙ ap (λ z. z -ℤ marked_total marked was vs) (same128 c.args.q c.ranges.q) in
    let change = renewed marked was is vs ws c.args.q c.take_out-rest.result laws range (before_len ∙ c.requires.same_places ∙ sym after_len) (λ i p h. c.requires.same_amounts i (omega (arith, after_len)) h) (λ i j p q h k. c.requires.same_correlations i j (omega (arith, after_len)) (omega (arith, after_len)) h k) c.requires.sum is_rest in
    let fits_sum : FitsSigned w128 c.put_in.result = search rules in
    let total : c.put_in.result ≡ pair_total is ws = c.put_in.ensures.value ∙ ap (λ z. z +ℤ marked_total marked is ws) (same128 c.take_out-rest.result fits_rest) ∙ change.value in
    let after_laws = correlates is _ (length after) c.requires.after_size (g.met.A.Correlation.symmetric c.args.after_corr.now) (g.met.A.Correlation.at_most_one c.args.after_corr.now) in
    let size = total_size is ws (length after) _ _ after_laws after_len (sizes_below-all g.T.Weighted.weight after) total in
    simp to_z-of_z size

pub returns-clause-size : goal.returns-clause-size
returns-clause-size g c =
    let marked = g.M.Marks.is_marked c.args.marked.now in
    let was = g.B.Correlation.corr c.args.before_corr.now in
    let is = g.A.Correlation.corr c.args.after_corr.now in
    let before = c.args.before.now in
    let after = c.args.after.now in
    let vs = map g.T.Weighted.weight before in
    let ws = map g.T.Weighted.weight after in
    let before_len : length vs ≡ length before = length-map before g.T.Weighted.weight in
    let after_len : length ws ≡ length after = length-map after g.T.Weighted.weight in
    let laws = correlates was _ (length vs) (c.requires.before_size ∙ sym before_len) (g.met.B.Correlation.symmetric c.args.before_corr.now) (g.met.B.Correlation.at_most_one c.args.before_corr.now) in
    let range = range_of g.T.Weighted.weight before c.requires.before_in_range in
    let fits_rest : FitsSigned w128 c.take_out-rest.result = search rules in
    let is_rest : c.take_out-rest.result ≡ c.args.q -ℤ marked_total marked was vs = c.take_out-rest.ensures.value ∙ ap (λ z. z -ℤ marked_total marked was vs) (same128 c.args.q c.ranges.q) in
    let change = renewed marked was is vs ws c.args.q c.take_out-rest.result laws range (before_len ∙ c.requires.same_places ∙ sym after_len) (λ i p h. c.requires.same_amounts i (omega (arith, after_len)) h) (λ i j p q h k. c.requires.same_correlations i j (omega (arith, after_len)) (omega (arith, after_len)) h k) c.requires.sum is_rest in
    let fits_sum : FitsSigned w128 c.put_in.result = search rules in
    let total : c.put_in.result ≡ pair_total is ws = c.put_in.ensures.value ∙ ap (λ z. z +ℤ marked_total marked is ws) (same128 c.take_out-rest.result fits_rest) ∙ change.value in
    let after_laws = correlates is _ (length after) c.requires.after_size (g.met.A.Correlation.symmetric c.args.after_corr.now) (g.met.A.Correlation.at_most_one c.args.after_corr.now) in
    let size = total_size is ws (length after) _ _ after_laws after_len (sizes_below-all g.T.Weighted.weight after) total in
    omega (arith, ints, size, square_in_range _ c.requires.after_in_range)
