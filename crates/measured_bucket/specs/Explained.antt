-- What the weighted values of the factors of a bucket are made of.
-- (ISDA SIMM methodology: weighted sensitivities, concentration and curvature risk exposures.)
use Rattle.std.specs.Prelude.{Option, Some, None, ℤ}
use Rattle.simm_params.specs.SimmRules.Concentration.{one, cr}
use Rattle.simm_params.specs.SimmRules.Bucket.{Weighted}
use Rattle.measured_bucket.specs.declared.weighing.Group.{Group}
use Rattle.measured_bucket.specs.declared.weighing.Weighing.{Weighing}
use Rattle.measured_bucket.specs.declared.explained.Explained.{Explained}

-- a factor before it is weighed: what it is of, and what its weighted value is made of
pub record Unweighed (A : Type 0) : Type 0 where
  pub of : A
  pub from : Weighing

-- the concentration factor of a group; 1 where there is none
abbrev pub cr_of : Option Group → ℤ
cr_of None = one
cr_of (Some group) = cr group.net group.threshold

-- weighed: the value that a weight, an amount and a concentration factor come to
abbrev pub weighted_from : {A : Type 0} → (ℤ → ℤ → ℤ → ℤ) → Unweighed A → Weighted A
weighted_from weigh factor = record {
  of = factor.of;
  w = weigh ((factor.from).weight).0 (factor.from).amount (cr_of (factor.from).group);
  cr = cr_of (factor.from).group;
}

-- what a factor is weighed from, by amount, group and weight
abbrev pub from_group : ℤ → ℤ → ℤ → ℤ → Weighing
from_group weight threshold net amount = record {
  amount = amount;
  group = Some (record { net = net; threshold = threshold });
  weight = record { 0 = weight };
}

-- of a factor that is a group by itself
abbrev pub from_itself : ℤ → ℤ → ℤ → Weighing
from_itself weight threshold amount = from_group weight threshold amount amount

abbrev pub without_group : ℤ → ℤ → Weighing
without_group weight amount = record { amount = amount; group = None; weight = record { 0 = weight } }

-- ---- as the code has them

abbrev pub unweighed_view : {N A : Type 0} → (N → A) → Explained N → Unweighed A
unweighed_view of e = record { of = of e.net; from = e.from }

abbrev pub weighted_view : {N A : Type 0} → (N → A) → Explained N → Weighted A
weighted_view of e = record { of = of e.net; w = (e.weighed).w; cr = ((e.weighed).cr).0 }
