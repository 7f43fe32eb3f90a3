use Rattle.std.proofs.Common.{◌≡◌, ◌*◌, ◌^◌, ◌≤◌, map, refl, subst, unsigned_abs, arith, rules}
use Rattle.std.proofs.lemmas.Int.{ints}
use Rattle.measured_bucket.specs.SimmParams.ListedBuckets.{priced_bucket_view}
use Rattle.measured_bucket.specs.Risk.{curved_by}
use Rattle.class_priced.specs.Sums.{name_sum, name_sums}
use Rattle.class_priced.specs.Weights.{curved_at, curved_name}
use Rattle.class_priced.proofs.NameColumns.{names_correlated, curved_column, all_of_views, made_of_views}
use Rattle.class_priced.proofs.curvature.PricedCurvatureMeasured.column.Goals as goal

pub curve_names-requires-clause-small : goal.curve_names-requires-clause-small
curve_names-requires-clause-small c =
    let x = c.args.self.now in
    all_of_views name_sum (λ z. unsigned_abs z ≤ 219 * 10 ^ 22) x.names.now c.requires.each

pub invariant_of-result : goal.invariant_of-result
invariant_of-result c =
    let x = c.args.self.now in
    let b = priced_bucket_view x.listed.bucket in
    let items = c.in_ok-factors.factors.items in
    let made = made_of_views name_sum (curved_by (curved_at b)) (curved_name b) (λ a. refl) x.names.now items
    (subst (λ s. items ≡ map (λ name. curved_by s name.sum) x.names.now) c.volatility_in.ensures.value c.in_ok-factors.ensures) in
    let its = curved_column b x.listed.weighed (name_sums x.names.now) c.requires items made in
    record { sized = search rules; from_one = its.from_one; below = its.below; in_range = its.in_range; cr_low = omega (arith, ints); cr_high = omega (arith, ints) }

pub returns-clause-made : goal.returns-clause-made
returns-clause-made c =
    let x = c.args.self.now in
    let b = priced_bucket_view x.listed.bucket in
    let items = c.in_ok-factors.factors.items in
    let made = made_of_views name_sum (curved_by (curved_at b)) (curved_name b) (λ a. refl) x.names.now items
    (subst (λ s. items ≡ map (λ name. curved_by s name.sum) x.names.now) c.volatility_in.ensures.value c.in_ok-factors.ensures) in
    (curved_column b x.listed.weighed (name_sums x.names.now) c.requires items made).made

pub returns-clause-correlated : goal.returns-clause-correlated
returns-clause-correlated c =
    let x = c.args.self.now in
    let b = priced_bucket_view x.listed.bucket in
    names_correlated b (curved_name b) (λ a. refl) (name_sums x.names.now) c.requires.ascends c.correlated-rho.result.rho.0 c.correlated-rho.ensures.rho

pub returns-clause-near : goal.returns-clause-near
returns-clause-near c =
    let x = c.args.self.now in
    let b = priced_bucket_view x.listed.bucket in
    let items = c.in_ok-factors.factors.items in
    let made = made_of_views name_sum (curved_by (curved_at b)) (curved_name b) (λ a. refl) x.names.now items
    (subst (λ s. items ≡ map (λ name. curved_by s name.sum) x.names.now) c.volatility_in.ensures.value c.in_ok-factors.ensures) in
    (curved_column b x.listed.weighed (name_sums x.names.now) c.requires items made).near
