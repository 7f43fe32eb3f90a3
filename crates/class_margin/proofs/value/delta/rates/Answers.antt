use Rattle.std.proofs.lemmas.Result.{IfOk-weaker}
use Rattle.class_rates.specs.MeasuredBucket.Measured.{IsSound}
use Rattle.class_margin.specs.rates_delta.Range.{IsPart}
use Rattle.class_margin.proofs.rates_delta.Buckets.{part_sound}
use Rattle.class_margin.proofs.value.delta.rates.Goals as goal

pub returns-clause-sized : goal.returns-clause-sized
returns-clause-sized g c = IfOk-weaker c.currency_delta.result IsSound IsPart part_sound c.currency_delta.ensures.sound
