use Rattle.std.proofs.Common.{◌≡◌, ℕ, List, Some, refl, ap, ◌∙◌, sym}
use Rattle.std.specs.Prelude.{option_map}
use Rattle.std.proofs.lemmas.Result.{IfOk-weaker}
use Rattle.class_rates.specs.SimmRules.Params.{PricedBucket}
use Rattle.class_rates.specs.SimmRules.Priced.{priced_params, price_value}
use Rattle.class_rates.specs.SimmParams.ListedBuckets.{priced_bucket_of, priced_bucket_view}
use Rattle.class_priced.specs.Names.{name_nets, AreNames}
use Rattle.class_margin.specs.names_delta.Values.{IsSized}
use Rattle.class_priced.specs.declared.listed.ListedPriced.{ListedPriced}
use Rattle.class_rates.specs.FactorBook.declared.slot.Slot.TheVariants as slot
use Rattle.class_margin.specs.value.Delta.{delta_of, IsDeltaSized}
use Rattle.class_margin.proofs.names_delta.Told.{told, said, heard, found}
use Rattle.class_margin.proofs.names_delta.ValueSized.{value_sized}
use Rattle.class_margin.proofs.value.delta.priced.Goals as goal

pub unwrap-listed-requires : goal.unwrap-listed-requires
unwrap-listed-requires g c =
    let params = priced_params c.args.params.now c.args.class in
    let own = name_nets c.args.lent.now.factors in
    found (λ (listed : ListedPriced). priced_bucket_view listed.bucket) c.of.result (priced_bucket_of params.buckets c.args.bucket) c.of.ensures.bucket (λ (b : PricedBucket). AreNames (b.terms).weight own) c.requires

pub priced_delta-requires : goal.priced_delta-requires
priced_delta-requires g c =
    let listed = c.unwrap-listed.result in
    let b = priced_bucket_view listed.bucket in
    let params = priced_params c.args.params.now c.args.class in
    let own = name_nets c.args.lent.now.factors in
    let is = sym (ap (option_map (λ (listed : ListedPriced). priced_bucket_view listed.bucket)) c.unwrap-listed.ensures) ∙ c.of.ensures.bucket in
    heard b (priced_bucket_of params.buckets c.args.bucket) is (λ (b : PricedBucket). AreNames (b.terms).weight own) c.requires

pub returns-clause-value : goal.returns-clause-value
returns-clause-value g c =
    let listed = c.unwrap-listed.result in
    let b = priced_bucket_view listed.bucket in
    let params = priced_params c.args.params.now c.args.class in
    let own = name_nets c.args.lent.now.factors in
    let is = sym (ap (option_map (λ (listed : ListedPriced). priced_bucket_view listed.bucket)) c.unwrap-listed.ensures) ∙ c.of.ensures.bucket in
    IfOk-weaker c.priced_delta.result (λ m. m ≡ price_value b own) (λ m. Some m ≡ delta_of c.args.params.now (slot.Priced c.args.class c.args.bucket) c.args.lent.now.factors)
    (told b (priced_bucket_of params.buckets c.args.bucket) is (λ (x : PricedBucket). price_value x own)) c.priced_delta.ensures.value

pub returns-clause-sized : goal.returns-clause-sized
returns-clause-sized g c =
    let listed = c.unwrap-listed.result in
    let b = priced_bucket_view listed.bucket in
    let params = priced_params c.args.params.now c.args.class in
    let own = name_nets c.args.lent.now.factors in
    let is = sym (ap (option_map (λ (listed : ListedPriced). priced_bucket_view listed.bucket)) c.unwrap-listed.ensures) ∙ c.of.ensures.bucket in
    IfOk-weaker c.priced_delta.result (IsSized (λ (x : List ℕ). (b.terms).weight) own) (IsDeltaSized c.args.params.now (slot.Priced c.args.class c.args.bucket) c.args.lent.now.factors)
    (λ m. said b (priced_bucket_of params.buckets c.args.bucket) is (λ (b : PricedBucket). IsSized (λ (x : List ℕ). (b.terms).weight) own m))
    (value_sized c.priced_delta.result (λ (x : List ℕ). (b.terms).weight) own (price_value b own) c.priced_delta.ensures.value refl c.priced_delta.ensures.sound c.priced_delta.ensures.near)
