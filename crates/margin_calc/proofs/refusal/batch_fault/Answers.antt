use Rattle.std.proofs.Common.{subst, refl, inl}
use Rattle.margin_calc.specs.Calc.{Says}
use Rattle.margin_calc.proofs.CalcLemmas.{unknown_fails, range_fails}
use Rattle.margin_calc.proofs.refusal.batch_fault.Goals as goal

pub returns-in-BucketUnknown : goal.returns-in-BucketUnknown
returns-in-BucketUnknown c = λ p trades says. unknown_fails p trades c.in-BucketUnknown.trade c.in-BucketUnknown.row c.refused.result (subst (Says p trades) c.in-BucketUnknown.is says) c.refused.ensures

pub returns-in-Range : goal.returns-in-Range
returns-in-Range c = λ p trades says. range_fails p trades c.in-Range.fault c.refused-in-Range.result (subst (Says p trades) c.in-Range.is says) c.refused-in-Range.ensures

pub returns-in-Memory : goal.returns-in-Memory
returns-in-Memory c = λ p trades says. inl refl
