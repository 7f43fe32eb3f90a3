-- The buckets of credit, equity and commodity, and their words.
use Rattle.std.specs.Prelude.{ℕ, List, Option, Some, option_map, if◌then◌else◌, codes, decimal}
use Rattle.simm_kinds.specs.declared.bucket.Bucket.{Bucket}
use Rattle.simm_kinds.specs.declared.bucket.Bucket.TheVariants as bucket
use Rattle.simm_kinds.specs.BucketNumber.{bucket_number_named}
use Rattle.simm_kinds.specs.Words.{is_word}

-- `Residual` in any case, or the decimal of a number
abbrev pub bucket_named : List ℕ → Option Bucket
bucket_named text = if is_word (codes "Residual") text then Some bucket.Residual else option_map bucket.Number (bucket_number_named text)

-- the word of a bucket in files and printed text
abbrev pub bucket_text : Bucket → List ℕ
bucket_text (bucket.Number n) = decimal n
bucket_text bucket.Residual = codes "Residual"
