-- A factor that is a concentration group by itself: its weighted value and its concentration factor.
-- (ISDA SIMM methodology: weighted sensitivities and concentration.)
use Rattle.std.specs.Prelude.{ℤ}
use Rattle.simm_params.specs.SimmRules.Concentration.{cr}
use Rattle.simm_params.specs.SimmRules.Bucket.{weighted_value}
use Rattle.weighted_bucket.specs.declared.weighed.Weighed.{Weighed}

abbrev pub weighed_alone : ℤ → ℤ → ℤ → Weighed
weighed_alone weight threshold amount = record { w = weighted_value weight amount (cr amount threshold); cr = record { 0 = cr amount threshold } }
