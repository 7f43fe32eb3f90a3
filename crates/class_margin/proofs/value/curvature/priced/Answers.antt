use Rattle.std.proofs.Common.{◌≡◌, Some, refl, ap, ◌∙◌, sym}
use Rattle.std.specs.Prelude.{option_map}
use Rattle.std.proofs.lemmas.Result.{IfOk-weaker}
use Rattle.class_rates.specs.SimmRules.Params.{PricedBucket}
use Rattle.class_rates.specs.SimmRules.Priced.{NameVolatility, priced_params, price_curvature_value}
use Rattle.class_rates.specs.SimmParams.ListedBuckets.{priced_bucket_of, priced_bucket_view}
use Rattle.class_priced.specs.Names.{volatility_nets, AreNameVolatilities}
use Rattle.class_margin.specs.curvature.Values.{IsSized}
use Rattle.class_priced.specs.declared.listed.ListedPriced.{ListedPriced}
use Rattle.class_rates.specs.FactorBook.declared.slot.Slot.TheVariants as slot
use Rattle.class_margin.specs.value.Curvature.{curvature_of, IsCurvatureSized}
use Rattle.class_margin.proofs.names_delta.Told.{told, said, heard, found}
use Rattle.class_margin.proofs.curvature.ValueSized.{value_sized}
use Rattle.class_margin.proofs.value.curvature.priced.Goals as goal

pub unwrap-listed-requires : goal.unwrap-listed-requires
unwrap-listed-requires g c =
    let params = priced_params c.args.params.now c.args.class in
    let own = volatility_nets c.args.lent.now.factors in
    found (λ (listed : ListedPriced). priced_bucket_view listed.bucket) c.of.result (priced_bucket_of params.buckets c.args.bucket) c.of.ensures.bucket (λ (b : PricedBucket). AreNameVolatilities b.sigma own) c.requires

pub priced_curvature-requires : goal.priced_curvature-requires
priced_curvature-requires g c =
    let listed = c.unwrap-listed.result in
    let b = priced_bucket_view listed.bucket in
    let params = priced_params c.args.params.now c.args.class in
    let own = volatility_nets c.args.lent.now.factors in
    let is = sym (ap (option_map (λ (listed : ListedPriced). priced_bucket_view listed.bucket)) c.unwrap-listed.ensures) ∙ c.of.ensures.bucket in
    heard b (priced_bucket_of params.buckets c.args.bucket) is (λ (b : PricedBucket). AreNameVolatilities b.sigma own) c.requires

pub returns-clause-value : goal.returns-clause-value
returns-clause-value g c =
    let listed = c.unwrap-listed.result in
    let b = priced_bucket_view listed.bucket in
    let params = priced_params c.args.params.now c.args.class in
    let own = volatility_nets c.args.lent.now.factors in
    let is = sym (ap (option_map (λ (listed : ListedPriced). priced_bucket_view listed.bucket)) c.unwrap-listed.ensures) ∙ c.of.ensures.bucket in
    IfOk-weaker c.priced_curvature.result (λ m. m ≡ price_curvature_value b own) (λ m. Some m ≡ curvature_of c.args.params.now (slot.Priced c.args.class c.args.bucket) c.args.lent.now.factors)
    (told b (priced_bucket_of params.buckets c.args.bucket) is (λ (x : PricedBucket). price_curvature_value x own)) c.priced_curvature.ensures.value

pub returns-clause-sized : goal.returns-clause-sized
returns-clause-sized g c =
    let listed = c.unwrap-listed.result in
    let b = priced_bucket_view listed.bucket in
    let params = priced_params c.args.params.now c.args.class in
    let own = volatility_nets c.args.lent.now.factors in
    let is = sym (ap (option_map (λ (listed : ListedPriced). priced_bucket_view listed.bucket)) c.unwrap-listed.ensures) ∙ c.of.ensures.bucket in
    IfOk-weaker c.priced_curvature.result (IsSized (λ (x : NameVolatility). b.sigma) own) (IsCurvatureSized c.args.params.now (slot.Priced c.args.class c.args.bucket) c.args.lent.now.factors)
    (λ m. said b (priced_bucket_of params.buckets c.args.bucket) is (λ (b : PricedBucket). IsSized (λ (x : NameVolatility). b.sigma) own m))
    (value_sized c.priced_curvature.result (λ (x : NameVolatility). b.sigma) own (price_curvature_value b own) c.priced_curvature.ensures.value refl c.priced_curvature.ensures.sound c.priced_curvature.ensures.near)
