use Rattle.std.proofs.Common.{ℕ, ap, refl, Some, Ok}
use Rattle.class_rates.specs.SimmRules.declared.values.BucketMargin.{BucketMargin}
use Rattle.class_rates.specs.SimmRules.BaseCorrelation.{base_value}
use Rattle.class_rates.specs.FactorBook.declared.value.PlaceValue.TheVariants as value
use Rattle.class_credit.specs.Base.{index_nets, index_weight}
use Rattle.class_margin.proofs.names_delta.ValueSized.{value_sized}
use Rattle.class_margin.proofs.value.place.base.Goals as goal

pub returns-clause-value : goal.returns-clause-value
returns-clause-value g c = ap (λ (m : BucketMargin). Some (value.BaseCorrelation m)) c.in_ok-value.ensures.value

pub returns-clause-sized : goal.returns-clause-sized
returns-clause-sized g c =
    let p = c.args.params.now in
    let own = index_nets c.args.lent.now.factors in
    value_sized {E = ℕ} (Ok c.in_ok-value.value) (index_weight p) own (base_value p own) c.in_ok-value.ensures.value refl c.in_ok-value.ensures.sound c.in_ok-value.ensures.near
