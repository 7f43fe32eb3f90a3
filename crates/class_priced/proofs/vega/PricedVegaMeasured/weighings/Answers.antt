use Rattle.std.proofs.Common.{◌≡◌, ◌∙◌, ◌*◌, ◌^◌, ◌≤◌, map, ap, refl, unsigned_abs}
use Rattle.std.proofs.lemmas.Result.{IfOk-weaker}
use Rattle.measured_bucket.specs.SimmRules.Bucket.{weighted_value}
use Rattle.measured_bucket.specs.SimmParams.ListedBuckets.{priced_bucket_view}
use Rattle.measured_bucket.specs.Vega.{vega_from}
use Rattle.measured_bucket.proofs.Explaining.{made_by, listed_by}
use Rattle.class_priced.specs.Sums.{name_sum, name_sums}
use Rattle.class_priced.specs.Weights.{vega_name}
use Rattle.class_priced.specs.Unweighed.{unweighed_vega}
use Rattle.class_priced.proofs.NameColumns.{all_of_views}
use Rattle.class_priced.proofs.vega.PricedVegaMeasured.weighings.Goals as goal

pub name_weighings-requires : goal.name_weighings-requires
name_weighings-requires c =
    let x = c.args.self.now in
    all_of_views name_sum (λ z. unsigned_abs z ≤ 2 * 10 ^ 20) x.names.now c.requires.each

pub returns-clause-made : goal.returns-clause-made
returns-clause-made c =
    let x = c.args.self.now in
    let b = priced_bucket_view x.listed.bucket in
    made_by weighted_value (unweighed_vega x.listed.hvr.0 b) (vega_name x.listed.hvr.0 b) (λ a. refl) (name_sums x.names.now)

pub returns-clause-listed : goal.returns-clause-listed
returns-clause-listed c =
    let x = c.args.self.now in
    let names = x.names.now in
    let b = priced_bucket_view x.listed.bucket in
    let t = c.vega_terms.result in
    let its = c.vega_terms.ensures in
    let hvr = x.listed.hvr.0 in
    let terms = x.listed.bucket.terms in
    IfOk-weaker c.name_weighings.result
    (λ weighings. weighings.items ≡ map (λ name. vega_from t.hvr.0 t.sigma.0 t.weight.0 t.threshold name.sum) names)
    (λ weighings. weighings.items ≡ map (λ f. f.from) (map (unweighed_vega hvr b) (name_sums names)))
    (λ weighings e. listed_by (unweighed_vega hvr b) name_sum names weighings.items
    (e ∙ ap (λ h. map (λ name. vega_from h.0 t.sigma.0 t.weight.0 t.threshold name.sum) names) its.hvr
    ∙ ap (λ s. map (λ name. vega_from hvr s.0 t.weight.0 t.threshold name.sum) names) its.sigma
    ∙ ap (λ w. map (λ name. vega_from hvr x.listed.bucket.sigma.0 w.0 t.threshold name.sum) names) its.weight
    ∙ ap (λ z. map (λ name. vega_from hvr x.listed.bucket.sigma.0 terms.vrw.0 z name.sum) names) its.threshold))
    c.name_weighings.ensures
