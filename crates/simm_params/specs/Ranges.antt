-- The ranges of the parameters.
use Rattle.std.specs.Prelude.{◌^◌, Bool, ℤ, pos, neg_ℤ, int_le, ◌≤ℤ◌, ◌*ℤ◌}
use Rattle.toml_values.specs.declared.range.Range.{Range}
use Rattle.toml_values.specs.Ranges.{dollars_in_cents}
pub use Rattle.toml_values.specs.Ranges.{IsWithin}

-- a risk weight, in ten-thousandths: 0.0001 to 10,000
abbrev pub weights : Range
weights = record { least = pos 1; most = pos (10 ^ 8) }

-- a correlation, in ten-thousandths: -1 to 1
abbrev pub correlations : Range
correlations = record { least = neg_ℤ (pos 10000); most = pos 10000 }

-- a volatility, in ten-thousandths: 0 to 1,000
abbrev pub sigmas : Range
sigmas = record { least = pos 0; most = pos (10 ^ 7) }

-- a vega risk weight, in ten-thousandths: 0 to 2
abbrev pub vega_weights : Range
vega_weights = record { least = pos 0; most = pos 20000 }

-- a historical volatility ratio of another class than interest rates, in ten-thousandths: 0 to 1.2
abbrev pub hvrs : Range
hvrs = record { least = pos 0; most = pos 12000 }

-- a historical volatility ratio of interest rates, in ten-thousandths: 0.2 to 2
abbrev pub ir_hvrs : Range
ir_hvrs = record { least = pos 2000; most = pos 20000 }

-- the base of the curvature scale, in millionths: 0 to 10
abbrev pub lambda_bases : Range
lambda_bases = record { least = pos 0; most = pos (10 ^ 7) }

-- a threshold, in cents
abbrev pub thresholds : Range
thresholds = dollars_in_cents

-- The product of weight and threshold is at least 10^12: no concentration factor outgrows the root of the weighted size that it is of.
abbrev pub is_thick : ℤ → ℤ → Bool
is_thick weight threshold = int_le (pos (10 ^ 12)) (weight *ℤ threshold)

abbrev pub IsThick : ℤ → ℤ → Type 0
IsThick weight threshold = pos (10 ^ 12) ≤ℤ (weight *ℤ threshold)
