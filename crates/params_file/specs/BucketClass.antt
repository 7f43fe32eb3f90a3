-- The risk classes that have buckets: the key of the table of each, and whether it may have a residual bucket.
use Rattle.std.specs.Prelude.{ℕ, List, Bool, true, false, codes}
use Rattle.params_file.specs.declared.bucket_class.BucketClass.{BucketClass}
use Rattle.params_file.specs.declared.bucket_class.BucketClass.TheVariants as class

abbrev pub class_key : BucketClass → List ℕ
class_key class.CreditQ = codes "credit_q"
class_key class.CreditNonQ = codes "credit_nq"
class_key class.Equity = codes "equity"
class_key class.Commodity = codes "commodity"

abbrev pub has_residual : BucketClass → Bool
has_residual class.CreditQ = true
has_residual class.CreditNonQ = true
has_residual class.Equity = true
has_residual class.Commodity = false
