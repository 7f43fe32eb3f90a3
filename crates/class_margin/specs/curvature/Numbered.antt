-- The two parts of a class of which the file lists buckets.
-- (ISDA SIMM methodology, curvature margin: aggregation across buckets, and the residual bucket.)
use Rattle.std.specs.Prelude.{ℕ, ◌+◌, ◌*◌, List, sum_by, ℤ, unsigned_abs}
use Rattle.class_rates.specs.SimmKinds.declared.bucket.Bucket.{Bucket}
use Rattle.class_rates.specs.SimmKinds.Order.{same_bucket}
use Rattle.class_rates.specs.SimmRules.declared.values.BucketMargin.{BucketMargin}
use Rattle.class_rates.specs.SimmRules.Params.{Params}
use Rattle.class_rates.specs.SimmRules.Sums.{total_by}
use Rattle.class_rates.specs.SimmRules.Across.{outer, numbered, residual, gamma_squared}
use Rattle.class_rates.specs.SimmRules.Curvature.{curvature_part}
use Rattle.class_margin.specs.Parts.{as_parts}
use Rattle.class_margin.specs.names_delta.Combine.{listed_in, gamma_in, margins_of}
use Rattle.class_margin.specs.declared.listed.ListedClass.{ListedClass}

abbrev pub numbered_part : Params → ListedClass → List (Bucket × BucketMargin) → ℤ
numbered_part p class parts =
    curvature_part p.lambda_base (numbered (as_parts parts))
    (outer same_bucket (gamma_squared (listed_in p class) (gamma_in p class)) (numbered (as_parts parts)))

abbrev pub residual_part : Params → List (Bucket × BucketMargin) → ℤ
residual_part p parts =
    curvature_part p.lambda_base (residual (as_parts parts)) (total_by (λ b. (b.value).k) (residual (as_parts parts)))

-- ---- their sizes

abbrev pub bound_of : List BucketMargin → ℕ
bound_of values = sum_by (λ b. unsigned_abs b.gross) values + 10 * sum_by (λ b. unsigned_abs b.k) values

abbrev pub numbered_bound : List (Bucket × BucketMargin) → ℕ
numbered_bound parts = bound_of (margins_of (numbered (as_parts parts)))

abbrev pub residual_bound : List (Bucket × BucketMargin) → ℕ
residual_bound parts = bound_of (margins_of (residual (as_parts parts)))
