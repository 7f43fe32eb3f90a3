use Rattle.std.proofs.Common.{◌*◌, ◌^◌, ◌≤◌, All, refl, sym, subst, unsigned_abs, arith, rules}
use Rattle.std.proofs.lemmas.Int.{ints}
use Rattle.measured_bucket.specs.SimmParams.ListedBuckets.{priced_bucket_view}
use Rattle.measured_bucket.specs.Values.{IsSmall}
use Rattle.measured_bucket.specs.Vega.{vega_alone}
use Rattle.class_priced.specs.Sums.{name_sum, name_sums}
use Rattle.class_priced.specs.Weights.{vega_name}
use Rattle.class_priced.proofs.NameColumns.{names_correlated, sums_small, vega_column, all_of_views, made_of_views, vegas_of_views}
use Rattle.class_priced.proofs.vega.PricedVegaMeasured.column.Goals as goal

pub weigh_names-requires-clause-sizes : goal.weigh_names-requires-clause-sizes
weigh_names-requires-clause-sizes c =
    let x = c.args.self.now in
    all_of_views name_sum (λ z. unsigned_abs z ≤ 2 * 10 ^ 20) x.names.now c.requires.each

pub weigh_names-requires-clause-small : goal.weigh_names-requires-clause-small
weigh_names-requires-clause-small c =
    let x = c.args.self.now in
    subst (λ s. All (λ name. IsSmall s.0 name.sum) x.names.now) (sym c.vega_terms.ensures.sigma)
    (all_of_views name_sum (IsSmall x.listed.bucket.sigma.0) x.names.now (sums_small (priced_bucket_view x.listed.bucket) x.listed.weighed (name_sums x.names.now) c.requires x.listed.hvr.0 x.listed.ratio))

pub invariant_of-result : goal.invariant_of-result
invariant_of-result c =
    let x = c.args.self.now in
    let b = priced_bucket_view x.listed.bucket in
    let terms = c.vega_terms.result in
    let items = c.in_ok-factors.factors.items in
    let made = made_of_views name_sum (vega_alone x.listed.hvr.0 b.sigma (b.terms).vrw ((b.terms).thresholds).vega) (vega_name x.listed.hvr.0 b) (λ a. refl) x.names.now items
    (vegas_of_views name_sum x.names.now items terms.hvr x.listed.hvr terms.sigma x.listed.bucket.sigma terms.weight x.listed.bucket.terms.vrw terms.threshold x.listed.bucket.terms.thresholds.vega c.vega_terms.ensures.hvr c.vega_terms.ensures.sigma c.vega_terms.ensures.weight c.vega_terms.ensures.threshold c.in_ok-factors.ensures) in
    let its = vega_column b x.listed.weighed (name_sums x.names.now) c.requires x.listed.hvr.0 x.listed.ratio items made in
    record { sized = search rules; from_one = its.from_one; below = its.below; in_range = its.in_range; cr_low = omega (arith, ints); cr_high = omega (arith, ints) }

pub returns-clause-made : goal.returns-clause-made
returns-clause-made c =
    let x = c.args.self.now in
    let b = priced_bucket_view x.listed.bucket in
    let terms = c.vega_terms.result in
    let items = c.in_ok-factors.factors.items in
    let made = made_of_views name_sum (vega_alone x.listed.hvr.0 b.sigma (b.terms).vrw ((b.terms).thresholds).vega) (vega_name x.listed.hvr.0 b) (λ a. refl) x.names.now items
    (vegas_of_views name_sum x.names.now items terms.hvr x.listed.hvr terms.sigma x.listed.bucket.sigma terms.weight x.listed.bucket.terms.vrw terms.threshold x.listed.bucket.terms.thresholds.vega c.vega_terms.ensures.hvr c.vega_terms.ensures.sigma c.vega_terms.ensures.weight c.vega_terms.ensures.threshold c.in_ok-factors.ensures) in
    (vega_column b x.listed.weighed (name_sums x.names.now) c.requires x.listed.hvr.0 x.listed.ratio items made).made

pub returns-clause-correlated : goal.returns-clause-correlated
returns-clause-correlated c =
    let x = c.args.self.now in
    let b = priced_bucket_view x.listed.bucket in
    names_correlated b (vega_name x.listed.hvr.0 b) (λ a. refl) (name_sums x.names.now) c.requires.ascends c.correlated-rho.result.rho.0 c.correlated-rho.ensures.rho

pub returns-clause-near : goal.returns-clause-near
returns-clause-near c =
    let x = c.args.self.now in
    let b = priced_bucket_view x.listed.bucket in
    let terms = c.vega_terms.result in
    let items = c.in_ok-factors.factors.items in
    let made = made_of_views name_sum (vega_alone x.listed.hvr.0 b.sigma (b.terms).vrw ((b.terms).thresholds).vega) (vega_name x.listed.hvr.0 b) (λ a. refl) x.names.now items
    (vegas_of_views name_sum x.names.now items terms.hvr x.listed.hvr terms.sigma x.listed.bucket.sigma terms.weight x.listed.bucket.terms.vrw terms.threshold x.listed.bucket.terms.thresholds.vega c.vega_terms.ensures.hvr c.vega_terms.ensures.sigma c.vega_terms.ensures.weight c.vega_terms.ensures.threshold c.in_ok-factors.ensures) in
    (vega_column b x.listed.weighed (name_sums x.names.now) c.requires x.listed.hvr.0 x.listed.ratio items made).near
