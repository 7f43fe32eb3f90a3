-- What the buckets of a class that are read keep.
use Rattle.std.specs.Prelude.{◌<◌, ◌≤◌, List, length}
use Rattle.std.specs.List.{All}
use Rattle.params_file.specs.declared.bucket_form.OwnRate.{OwnRate}
use Rattle.simm_params.specs.Ranges.{IsWithin}
use Rattle.simm_params.specs.Buckets.{ClassBucket}
use Rattle.params_file.specs.Classes.{own_range}
use Rattle.simm_params.specs.ClassRanges.{AreTerms}

-- ---- a bucket: each number is in its range

pub record IsClassBucket (kind : OwnRate) (b : ClassBucket) : Type 0 where
  pub terms : AreTerms b.terms
  pub own : IsWithin (own_range kind) b.own

-- ---- a class: one bucket at least and 65 at most, in order, and a matrix with a row and a column for each numbered one

pub record AreClassBuckets (kind : OwnRate) (buckets : List ClassBucket) : Type 0 where
  pub some : 0 < length buckets
  pub few : length buckets ≤ 65
  pub each : All (IsClassBucket kind) buckets
