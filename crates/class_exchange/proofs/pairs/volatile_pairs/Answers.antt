use Rattle.std.proofs.Common.{◌≡◌, ◌∙◌, ◌*◌, ◌^◌, Bool, ◌&&◌, map, ap, sym, subst}
use Rattle.std.proofs.lemmas.Result.{IfOk-weaker}
use Rattle.std.specs.Str.{bytes_eq}
use Rattle.measured_bucket.specs.SimmKinds.Order.{pair_cmp}
use Rattle.measured_bucket.specs.SimmKinds.Pair.{Pair}
use Rattle.measured_bucket.specs.SimmRules.ForeignExchange.{fx_sigma}
use Rattle.measured_bucket.specs.Runs.{scaled_net, sum_view, summed, AreTotals}
use Rattle.measured_bucket.proofs.SimmParams.Sigmas.{sigma_low}
use Rattle.measured_bucket.proofs.Totals.{are_totals}
use Rattle.class_exchange.specs.Pairs.{pair_nets, pair_sums, pair_totals, tenor_view}
use Rattle.class_exchange.proofs.SumsOfPairs.{nets_small, sums_are}
use Rattle.class_exchange.proofs.VolatilePairs.{pair_tests, pairs}
use Rattle.class_exchange.proofs.pairs.volatile_pairs.Goals as goal

pub tenor_sums-requires : goal.tenor_sums-requires
tenor_sums-requires c =
    let amounts = pair_nets c.args.lent.now.factors in
    let are = ap (map tenor_view) c.as_slice.ensures.value ∙ c.in_ok-nets.ensures in
    nets_small c.as_slice.result.now amounts are (2 * 10 ^ 20) c.requires.sizes

pub returns-clause-sums : goal.returns-clause-sums
returns-clause-sums c =
    let amounts = pair_nets c.args.lent.now.factors in
    let s = c.args.scale in
    let nets = c.as_slice.result.now in
    let are = ap (map tenor_view) c.as_slice.ensures.value ∙ c.in_ok-nets.ensures in
    let eq : Pair → Pair → Bool = λ x y. bytes_eq x.first y.first && bytes_eq x.second y.second in
    IfOk-weaker c.tenor_sums.result (λ sums. map sum_view sums.items ≡ summed eq (map (scaled_net s) nets)) (λ sums. pair_sums sums.items ≡ pair_totals s amounts)
    (λ sums. sums_are nets amounts are s eq (λ x y. sym (pair_tests x y)) c.requires.order sums.items) c.tenor_sums.ensures

pub returns-clause-ready : goal.returns-clause-ready
returns-clause-ready c p params range =
    let amounts = pair_nets c.args.lent.now.factors in
    let s = c.args.scale in
    let totals = are_totals pairs s (fx_sigma p) (sigma_low p params) amounts range.range in
    IfOk-weaker c.tenor_sums.result (λ sums. pair_sums sums.items ≡ pair_totals s amounts)
    (λ sums. AreTotals pair_cmp s (fx_sigma p) (pair_sums sums.items))
    (λ sums e. subst (AreTotals pair_cmp s (fx_sigma p)) (sym e) totals) (returns-clause-sums c)
