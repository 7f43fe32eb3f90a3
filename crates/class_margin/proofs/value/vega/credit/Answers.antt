use Rattle.std.proofs.Common.{◌≡◌, Some, pos, ap, ◌∙◌, sym}
use Rattle.std.specs.Prelude.{option_map}
use Rattle.std.proofs.lemmas.Result.{IfOk-weaker}
use Rattle.class_rates.specs.SimmRules.Params.{CreditBucket}
use Rattle.class_rates.specs.SimmRules.Credit.{credit_params, credit_vega_value}
use Rattle.class_rates.specs.SimmParams.ListedBuckets.{credit_bucket_of, credit_bucket_view}
use Rattle.class_rates.specs.MeasuredBucket.Values.{alone}
use Rattle.class_credit.specs.Points.{point_nets, ArePoints}
use Rattle.class_margin.specs.vega.Values.{IsSized}
use Rattle.class_credit.specs.declared.listed.ListedCredit.{ListedCredit}
use Rattle.class_rates.specs.FactorBook.declared.slot.Slot.TheVariants as slot
use Rattle.class_margin.specs.value.Vega.{vega_of, IsVegaSized}
use Rattle.class_margin.proofs.names_delta.Told.{told, said, heard, found}
use Rattle.class_margin.proofs.vega.ValueSized.{risk_sized}
use Rattle.class_margin.proofs.value.vega.credit.Goals as goal

pub unwrap-listed-requires : goal.unwrap-listed-requires
unwrap-listed-requires g c =
    let params = credit_params c.args.params.now c.args.class in
    let own = point_nets c.args.lent.now.factors in
    found (λ (listed : ListedCredit). credit_bucket_view listed.bucket) c.of.result (credit_bucket_of params.buckets c.args.bucket) c.of.ensures (λ (b : CreditBucket). ArePoints (pos 10000) own) c.requires

pub credit_vega-requires : goal.credit_vega-requires
credit_vega-requires g c =
    let listed = c.unwrap-listed.result in
    let b = credit_bucket_view listed.bucket in
    let params = credit_params c.args.params.now c.args.class in
    let own = point_nets c.args.lent.now.factors in
    let is = sym (ap (option_map (λ (listed : ListedCredit). credit_bucket_view listed.bucket)) c.unwrap-listed.ensures) ∙ c.of.ensures in
    heard b (credit_bucket_of params.buckets c.args.bucket) is (λ (b : CreditBucket). ArePoints (pos 10000) own) c.requires

pub returns-clause-value : goal.returns-clause-value
returns-clause-value g c =
    let listed = c.unwrap-listed.result in
    let b = credit_bucket_view listed.bucket in
    let params = credit_params c.args.params.now c.args.class in
    let own = point_nets c.args.lent.now.factors in
    let is = sym (ap (option_map (λ (listed : ListedCredit). credit_bucket_view listed.bucket)) c.unwrap-listed.ensures) ∙ c.of.ensures in
    IfOk-weaker c.credit_vega.result (λ m. m ≡ credit_vega_value b own) (λ m. Some m ≡ vega_of c.args.params.now (slot.Credit c.args.class c.args.bucket) c.args.lent.now.factors)
    (told b (credit_bucket_of params.buckets c.args.bucket) is (λ (x : CreditBucket). credit_vega_value x own)) c.credit_vega.ensures.value

pub returns-clause-sized : goal.returns-clause-sized
returns-clause-sized g c =
    let listed = c.unwrap-listed.result in
    let b = credit_bucket_view listed.bucket in
    let params = credit_params c.args.params.now c.args.class in
    let own = point_nets c.args.lent.now.factors in
    let is = sym (ap (option_map (λ (listed : ListedCredit). credit_bucket_view listed.bucket)) c.unwrap-listed.ensures) ∙ c.of.ensures in
    IfOk-weaker c.credit_vega.result (IsSized alone own) (IsVegaSized c.args.params.now (slot.Credit c.args.class c.args.bucket) c.args.lent.now.factors)
    (λ m. said b (credit_bucket_of params.buckets c.args.bucket) is (λ (b : CreditBucket). IsSized alone own m))
    (risk_sized c.credit_vega.result own c.credit_vega.ensures.sound c.credit_vega.ensures.near)
