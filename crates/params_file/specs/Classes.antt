-- The table of a class that has buckets, of credit, equity or commodities: its tests in order. A path is given by its words;
-- places count from 1.
use Rattle.std.specs.Prelude.{ℕ, ◌==◌, Bool, true, ◌&&◌, nat_le, if◌then◌else◌, List, [], ◌∷◌, ◌++◌, map, Option, Some, None, option_map, option_and_then, ok_or, Result, Ok, Err, ℤ, codes, decimal}
use Rattle.std.specs.Str.{bytes_eq}
use Rattle.toml.specs.Data.{Data, Items, Members, get_member}
use Rattle.simm_params.specs.SimmKinds.declared.bucket.Bucket.{Bucket}
use Rattle.simm_params.specs.SimmKinds.declared.bucket.Bucket.TheVariants.{Number, Residual}
use Rattle.simm_params.specs.SimmKinds.BucketNumber.{bucket_number_named}
use Rattle.simm_params.specs.SimmRules.Params.{CreditParams, PricedParams}
use Rattle.simm_params.specs.TomlValues.declared.range.Range.{Range}
use Rattle.simm_params.specs.TomlValues.declared.fault.ValueFault.{ValueFault}
use Rattle.simm_params.specs.TomlValues.declared.fault.ValueFault.TheVariants.{Missing, BadNumber}
use Rattle.simm_params.specs.TomlValues.Paths.{joined}
use Rattle.simm_params.specs.TomlValues.Answers.{◌>>=◌}
use Rattle.simm_params.specs.TomlValues.Values.{items_count, text_of, flag_of, table_of, array_of}
use Rattle.simm_params.specs.TomlValues.Places.{each_of}
use Rattle.params_file.specs.declared.bucket_form.OwnRate.{OwnRate}
use Rattle.params_file.specs.declared.bucket_form.OwnRate.TheVariants.{Same, Sigma}
use Rattle.simm_params.specs.Ranges.{weights, correlations, sigmas, vega_weights, hvrs}
use Rattle.params_file.specs.Matrix.{matrix_of}
use Rattle.params_file.specs.Thresholds.{thresholds_of}
use Rattle.params_file.specs.KeyRate.{key_rate}
use Rattle.simm_params.specs.Buckets.{ClassBucket, ids_of, is_behind, numbered_count}
use Rattle.simm_params.specs.Classes.{credit_bucket, priced_bucket}

-- ---- a bucket

-- the rate that only classes of one kind have, and its range
abbrev pub own_key : OwnRate → List ℕ
own_key Same = codes "same"
own_key Sigma = codes "sigma"

abbrev pub own_range : OwnRate → Range
own_range Same = correlations
own_range Sigma = sigmas

-- whether there is curvature
unfoldable pub curvature_of : List (List ℕ) → Members → Result Bool ValueFault
curvature_of path table = flag_of (joined (path ++ codes "curvature" ∷ [])) (get_member (codes "curvature") table)

-- `Residual`, spelled so, or the decimal of a number
abbrev pub id_named : List ℕ → Option Bucket
id_named text = if bytes_eq text (codes "Residual") then Some Residual else option_map Number (bucket_number_named text)

-- The residual bucket stands only where it may.
abbrev pub may_stand : Bool → Bucket → Bool
may_stand residual (Number n) = true
may_stand residual Residual = residual

-- the id that a text names, where it may stand behind the buckets before it
abbrev pub next_id : Bool → List ClassBucket → List ℕ → Option Bucket
next_id residual before text = option_and_then (λ id. if may_stand residual id && is_behind (ids_of before) id then Some id else None) (id_named text)

unfoldable pub id_of : List (List ℕ) → Bool → List ClassBucket → Members → Result Bucket ValueFault
id_of path residual before table = do
  text ← text_of (joined (path ++ codes "id" ∷ [])) (get_member (codes "id") table)
  ok_or (next_id residual before text) (BadNumber (joined (path ++ codes "id" ∷ [])))

-- behind the id
unfoldable pub bucket_of_id : List (List ℕ) → OwnRate → Bucket → Members → Result ClassBucket ValueFault
bucket_of_id path own id table = do
  weight ← key_rate path (codes "weight") weights table
  thresholds ← thresholds_of path table
  rho ← key_rate path (codes "rho") correlations table
  rate ← key_rate path (own_key own) (own_range own) table
  vrw ← key_rate path (codes "vrw") vega_weights table
  curvature ← curvature_of path table
  Ok (record {
    terms = record { id = id; weight = weight; thresholds = thresholds; rho = rho; vrw = vrw; curvature = curvature };
    own = rate;
  })

unfoldable pub bucket_of_table : List (List ℕ) → OwnRate → Bool → List ClassBucket → Members → Result ClassBucket ValueFault
bucket_of_table path own residual before table = do
  id ← id_of path residual before table
  bucket_of_id path own id table

-- a bucket at a place of the array of so many at a path; where the class has a residual bucket, it is the last
unfoldable pub bucket_at : List (List ℕ) → OwnRate → Bool → ℕ → ℕ → List ClassBucket → Data → Result ClassBucket ValueFault
bucket_at path own residual count number before value = do
  table ← table_of (joined (path ++ decimal number ∷ [])) (Some value)
  bucket_of_table (path ++ decimal number ∷ []) own (residual && (number == count)) before table

-- ---- all buckets

-- at least one, and at most 64 numbered ones and the residual one
abbrev pub is_bucket_count : ℕ → Bool
is_bucket_count n = nat_le 1 n && nat_le n 65

unfoldable pub bucket_places : List (List ℕ) → Option Data → Result Items ValueFault
bucket_places path value = do
  places ← array_of (joined path) value
  if is_bucket_count (items_count places) then Ok places else Err (Missing (joined path))

unfoldable pub buckets_of : List (List ℕ) → OwnRate → Bool → Option Data → Result (List ClassBucket) ValueFault
buckets_of path own residual value = do
  places ← bucket_places path value
  each_of (bucket_at path own residual (items_count places)) 1 [] places

-- ---- the classes

-- the words of the path of a key of a class
abbrev pub class_words : List ℕ → List ℕ → List (List ℕ)
class_words class key = class ∷ key ∷ []

unfoldable pub class_buckets : List ℕ → OwnRate → Bool → Members → Result (List ClassBucket) ValueFault
class_buckets class own residual table = buckets_of (class_words class (codes "bucket")) own residual (get_member (codes "bucket") table)

-- a row and a column for each numbered bucket
unfoldable pub class_gamma : List ℕ → List ClassBucket → Members → Result (List (List ℤ)) ValueFault
class_gamma class buckets table = matrix_of (class_words class (codes "gamma")) (numbered_count buckets) correlations (get_member (codes "gamma") table)

unfoldable pub credit_of : List ℕ → Members → Result CreditParams ValueFault
credit_of class table = do
  buckets ← class_buckets class Same true table
  gamma ← class_gamma class buckets table
  Ok (record { buckets = map credit_bucket buckets; gamma = gamma })

-- equity, which has a residual bucket, or commodities, which have none
unfoldable pub priced_of : List ℕ → Bool → Members → Result PricedParams ValueFault
priced_of class residual table = do
  buckets ← class_buckets class Sigma residual table
  hvr ← key_rate (class ∷ []) (codes "hvr") hvrs table
  gamma ← class_gamma class buckets table
  Ok (record { buckets = map priced_bucket buckets; hvr = hvr; gamma = gamma })

-- the weight and the correlation of base correlations
unfoldable pub base_of : Members → Result (ℤ × ℤ) ValueFault
base_of credit_q = do
  weight ← key_rate (codes "credit_q" ∷ []) (codes "base_weight") weights credit_q
  rho ← key_rate (codes "credit_q" ∷ []) (codes "base_rho") correlations credit_q
  Ok (weight, rho)
