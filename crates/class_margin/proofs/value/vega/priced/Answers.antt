use Rattle.std.proofs.Common.{◌≡◌, Some, ap, ◌∙◌, sym, subst}
use Rattle.std.specs.Prelude.{option_map, IfSome}
use Rattle.std.proofs.lemmas.Result.{IfOk-weaker}
use Rattle.class_rates.specs.SimmRules.Params.{PricedBucket}
use Rattle.class_rates.specs.SimmRules.Priced.{NameVolatility, priced_params, price_vega_value}
use Rattle.class_rates.specs.SimmParams.ListedBuckets.{priced_bucket_of, priced_bucket_view}
use Rattle.class_priced.specs.Names.{volatility_nets, AreNameVolatilities}
use Rattle.class_margin.specs.vega.Values.{IsSized}
use Rattle.class_priced.specs.declared.listed.ListedPriced.{ListedPriced}
use Rattle.class_rates.specs.FactorBook.declared.slot.Slot.TheVariants as slot
use Rattle.class_margin.specs.value.Vega.{vega_of, IsVegaSized}
use Rattle.class_margin.proofs.names_delta.Told.{told, said, heard, found}
use Rattle.class_margin.proofs.vega.ValueSized.{value_sized}
use Rattle.class_margin.proofs.value.vega.priced.Goals as goal

pub unwrap-listed-requires : goal.unwrap-listed-requires
unwrap-listed-requires g c =
    let params = priced_params c.args.params.now c.args.class in
    let own = volatility_nets c.args.lent.now.factors in
    found (λ (listed : ListedPriced). priced_bucket_view listed.bucket) c.of.result (priced_bucket_of params.buckets c.args.bucket) c.of.ensures.bucket (λ (b : PricedBucket). AreNameVolatilities b.sigma own) c.requires

pub priced_vega-requires : goal.priced_vega-requires
priced_vega-requires g c =
    let listed = c.unwrap-listed.result in
    let b = priced_bucket_view listed.bucket in
    let params = priced_params c.args.params.now c.args.class in
    let own = volatility_nets c.args.lent.now.factors in
    let is = sym (ap (option_map (λ (listed : ListedPriced). priced_bucket_view listed.bucket)) c.unwrap-listed.ensures) ∙ c.of.ensures.bucket in
    heard b (priced_bucket_of params.buckets c.args.bucket) is (λ (b : PricedBucket). AreNameVolatilities b.sigma own) c.requires

pub returns-clause-value : goal.returns-clause-value
returns-clause-value g c =
    let listed = c.unwrap-listed.result in
    let b = priced_bucket_view listed.bucket in
    let params = priced_params c.args.params.now c.args.class in
    let own = volatility_nets c.args.lent.now.factors in
    let is = sym (ap (option_map (λ (listed : ListedPriced). priced_bucket_view listed.bucket)) c.unwrap-listed.ensures) ∙ c.of.ensures.bucket in
    let hvr = subst (λ o. IfSome o (λ (listed : ListedPriced). listed.hvr.0 ≡ params.hvr)) c.unwrap-listed.ensures c.of.ensures.hvr in
    IfOk-weaker c.priced_vega.result (λ m. m ≡ price_vega_value listed.hvr.0 b own) (λ m. Some m ≡ vega_of c.args.params.now (slot.Priced c.args.class c.args.bucket) c.args.lent.now.factors)
    (λ m e. told b (priced_bucket_of params.buckets c.args.bucket) is (λ (x : PricedBucket). price_vega_value params.hvr x own) m (e ∙ ap (λ h. price_vega_value h b own) hvr)) c.priced_vega.ensures.value

pub returns-clause-sized : goal.returns-clause-sized
returns-clause-sized g c =
    let listed = c.unwrap-listed.result in
    let b = priced_bucket_view listed.bucket in
    let params = priced_params c.args.params.now c.args.class in
    let own = volatility_nets c.args.lent.now.factors in
    let is = sym (ap (option_map (λ (listed : ListedPriced). priced_bucket_view listed.bucket)) c.unwrap-listed.ensures) ∙ c.of.ensures.bucket in
    IfOk-weaker c.priced_vega.result (IsSized (λ (x : NameVolatility). b.sigma) own) (IsVegaSized c.args.params.now (slot.Priced c.args.class c.args.bucket) c.args.lent.now.factors)
    (λ m. said b (priced_bucket_of params.buckets c.args.bucket) is (λ (b : PricedBucket). IsSized (λ (x : NameVolatility). b.sigma) own m))
    (value_sized c.priced_vega.result (λ (x : NameVolatility). b.sigma) own c.priced_vega.ensures.sound c.priced_vega.ensures.near)
