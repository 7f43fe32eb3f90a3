use Rattle.std.proofs.Common.{◌≡◌, ◌*◌, ◌^◌, ◌≤◌, All, map, refl, sym, subst, unsigned_abs, FitsSigned, arith, rules}
use Rattle.std.specs.Int.{w64}
use Rattle.std.proofs.lemmas.Int.{ints}
use Rattle.measured_bucket.proofs.MhUnits.Integers.{same64}
use Rattle.measured_bucket.specs.SimmParams.ListedBuckets.{priced_bucket_view}
use Rattle.measured_bucket.specs.WeightedBucket.Group.{CanConcentrate}
use Rattle.measured_bucket.specs.Alone.{weighed_alone}
use Rattle.class_priced.specs.Names.{name_view, names_view}
use Rattle.class_priced.specs.Weights.{delta_name}
use Rattle.class_priced.proofs.NameColumns.{names_correlated, names_concentrate, names_weigh, delta_column, all_of_views, made_of_views}
use Rattle.class_priced.proofs.delta.PricedDeltaMeasured.column.Goals as goal

pub weigh_names-requires-clause-concentrate : goal.weigh_names-requires-clause-concentrate
weigh_names-requires-clause-concentrate c =
    let x = c.args.self.now in
    let threshold = x.listed.bucket.terms.thresholds.delta in
    let fits : FitsSigned w64 threshold = search rules in
    subst (λ t. All (λ name. CanConcentrate name.net t) x.names.now) (sym (same64 threshold fits))
    (all_of_views name_view (λ z. CanConcentrate z threshold) x.names.now (names_concentrate (priced_bucket_view x.listed.bucket) x.listed.terms (names_view x.names.now) c.requires))

pub weigh_names-requires-clause-small : goal.weigh_names-requires-clause-small
weigh_names-requires-clause-small c =
    let x = c.args.self.now in
    all_of_views name_view (λ z. unsigned_abs z * unsigned_abs x.listed.bucket.terms.weight.0 ≤ 10 ^ 28) x.names.now (names_weigh (priced_bucket_view x.listed.bucket) x.listed.terms (names_view x.names.now) c.requires)

pub invariant_of-result : goal.invariant_of-result
invariant_of-result c =
    let x = c.args.self.now in
    let b = priced_bucket_view x.listed.bucket in
    let threshold = x.listed.bucket.terms.thresholds.delta in
    let fits : FitsSigned w64 threshold = search rules in
    let items = c.in_ok-factors.factors.items in
    let made = made_of_views name_view (weighed_alone x.listed.bucket.terms.weight.0 threshold) (delta_name b) (λ a. refl) x.names.now items
    (subst (λ t. items ≡ map (λ name. weighed_alone x.listed.bucket.terms.weight.0 t name.net) x.names.now) (same64 threshold fits) c.in_ok-factors.ensures) in
    let its = delta_column b x.listed.terms (names_view x.names.now) c.requires items made in
    record { sized = search rules; from_one = its.from_one; below = its.below; in_range = its.in_range; cr_low = omega (arith, ints); cr_high = omega (arith, ints) }

pub returns-clause-made : goal.returns-clause-made
returns-clause-made c =
    let x = c.args.self.now in
    let b = priced_bucket_view x.listed.bucket in
    let threshold = x.listed.bucket.terms.thresholds.delta in
    let fits : FitsSigned w64 threshold = search rules in
    let items = c.in_ok-factors.factors.items in
    let made = made_of_views name_view (weighed_alone x.listed.bucket.terms.weight.0 threshold) (delta_name b) (λ a. refl) x.names.now items
    (subst (λ t. items ≡ map (λ name. weighed_alone x.listed.bucket.terms.weight.0 t name.net) x.names.now) (same64 threshold fits) c.in_ok-factors.ensures) in
    (delta_column b x.listed.terms (names_view x.names.now) c.requires items made).made

pub returns-clause-correlated : goal.returns-clause-correlated
returns-clause-correlated c =
    let x = c.args.self.now in
    let b = priced_bucket_view x.listed.bucket in
    names_correlated b (delta_name b) (λ a. refl) (names_view x.names.now) c.requires.ascends c.correlated-rho.result.rho.0 c.correlated-rho.ensures.rho

pub returns-clause-near : goal.returns-clause-near
returns-clause-near c =
    let x = c.args.self.now in
    let b = priced_bucket_view x.listed.bucket in
    let threshold = x.listed.bucket.terms.thresholds.delta in
    let fits : FitsSigned w64 threshold = search rules in
    let items = c.in_ok-factors.factors.items in
    let made = made_of_views name_view (weighed_alone x.listed.bucket.terms.weight.0 threshold) (delta_name b) (λ a. refl) x.names.now items
    (subst (λ t. items ≡ map (λ name. weighed_alone x.listed.bucket.terms.weight.0 t name.net) x.names.now) (same64 threshold fits) c.in_ok-factors.ensures) in
    (delta_column b x.listed.terms (names_view x.names.now) c.requires items made).near
