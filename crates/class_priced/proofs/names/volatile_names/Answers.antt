use Rattle.std.proofs.Common.{◌≡◌, ◌∙◌, ◌*◌, ◌^◌, ◌≤ℤ◌, ℕ, ℤ, List, ap, map, pos, subst, sym}
use Rattle.std.proofs.lemmas.Map.Text.{is_eq-slice_cmp}
use Rattle.std.proofs.lemmas.Result.{IfOk-weaker}
use Rattle.measured_bucket.specs.SimmKinds.Order.{name_cmp}
use Rattle.measured_bucket.specs.Runs.{scaled_net, sum_view, summed, AreTotals}
use Rattle.measured_bucket.proofs.Totals.{are_totals}
use Rattle.class_priced.specs.Names.{volatility_nets, AreNameVolatilities}
use Rattle.class_priced.specs.Sums.{name_sums, name_totals, tenor_view}
use Rattle.class_priced.proofs.NameSums.{nets_small, sums_are}
use Rattle.class_priced.proofs.VolatileNames.{names}
use Rattle.class_priced.proofs.names.volatile_names.Goals as goal

pub tenor_sums-requires : goal.tenor_sums-requires
tenor_sums-requires c =
    let there = ap (map tenor_view) c.as_slice.ensures.value ∙ c.in_ok-nets.ensures in
    nets_small c.args.scale c.as_slice.result.now (volatility_nets c.args.lent.now.factors) there (2 * 10 ^ 20) c.requires.sizes

pub returns-clause-sums : goal.returns-clause-sums
returns-clause-sums c =
    let amounts = volatility_nets c.args.lent.now.factors in
    let nets = c.as_slice.result.now in
    let there = ap (map tenor_view) c.as_slice.ensures.value ∙ c.in_ok-nets.ensures in
    IfOk-weaker c.tenor_sums.result (λ sums. map sum_view sums.items ≡ summed _ (map (scaled_net c.args.scale) nets)) (λ sums. name_sums sums.items ≡ name_totals c.args.scale amounts)
    (λ sums e. sums_are c.args.scale nets amounts there _ (λ x y. sym (is_eq-slice_cmp x.now y.now)) c.requires.order sums.items e) c.tenor_sums.ensures

pub returns-clause-measured : goal.returns-clause-measured
returns-clause-measured c =
    let scale = c.args.scale in
    let amounts = volatility_nets c.args.lent.now.factors in
    let nets = c.as_slice.result.now in
    let there = ap (map tenor_view) c.as_slice.ensures.value ∙ c.in_ok-nets.ensures in
    IfOk-weaker c.tenor_sums.result (λ sums. map sum_view sums.items ≡ summed _ (map (scaled_net scale) nets))
    (λ sums. (sigma : ℤ) → pos 0 ≤ℤ sigma → AreNameVolatilities sigma amounts → AreTotals name_cmp scale (λ (x : List ℕ). sigma) (name_sums sums.items))
    (λ sums e sigma low are. subst (AreTotals name_cmp scale (λ (x : List ℕ). sigma)) (sym (sums_are scale nets amounts there _ (λ x y. sym (is_eq-slice_cmp x.now y.now)) c.requires.order sums.items e))
    (are_totals names scale (λ (x : List ℕ). sigma) (λ x. low) amounts are.range))
    c.tenor_sums.ensures
