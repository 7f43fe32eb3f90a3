-- The buckets that a class has.
use Rattle.std.specs.Prelude.{◌≡◌, ℕ, ◌-◌, ◌<◌, ◌==◌, Bool, true, false, nat_lt, if◌then◌else◌, List, [], ◌∷◌, map, Option, Some, None, ℤ}
use Rattle.std.specs.List.{list_all, list_any, find, count_by}
use Rattle.simm_rules.specs.SimmKinds.declared.bucket.Bucket.{Bucket}
use Rattle.simm_rules.specs.SimmKinds.declared.bucket.Bucket.TheVariants.{Number, Residual}
use Rattle.simm_rules.specs.SimmKinds.BucketNumber.{is_bucket_number}
use Rattle.simm_rules.specs.Params.{BucketTerms}

-- a bucket of any class, with the rate that only classes of its kind have
pub record ClassBucket : Type 0 where
  pub terms : BucketTerms
  pub own : ℤ

-- ---- the order of buckets

-- the number of a numbered one is 1 to 64
abbrev pub IsBucket : Bucket → Type 0
IsBucket (Number n) = is_bucket_number n ≡ true
IsBucket Residual = Unit {0}

-- the place among all buckets that a class may have, counted from 0: the numbered ones by number, and then the residual one
abbrev pub bucket_slot : Bucket → ℕ
bucket_slot (Number n) = n - 1
bucket_slot Residual = 64

abbrev pub precedes : Bucket → Bucket → Bool
precedes a b = nat_lt (bucket_slot a) (bucket_slot b)

-- each comes before the next
abbrev pub AreInOrder : List Bucket → Type 0
AreInOrder [] = Unit {0}
AreInOrder (id ∷ []) = Unit {0}
AreInOrder (id ∷ next ∷ ids) = (bucket_slot id < bucket_slot next) × AreInOrder (next ∷ ids)

-- each of them comes before it
abbrev pub is_behind : List Bucket → Bucket → Bool
is_behind listed id = list_all (λ other. precedes other id) listed

-- ---- numbered buckets

abbrev pub is_numbered : Bucket → Bool
is_numbered (Number n) = true
is_numbered Residual = false

abbrev pub numbered_count : List ClassBucket → ℕ
numbered_count buckets = count_by (λ b. is_numbered b.terms.id) buckets

-- ---- the bucket of an id

abbrev pub same_id : Bucket → Bucket → Bool
same_id (Number m) (Number n) = m == n
same_id (Number m) Residual = false
same_id Residual (Number n) = false
same_id Residual Residual = true

abbrev pub lists : List Bucket → Bucket → Bool
lists listed id = list_any (same_id id) listed

-- how many of them come before it
abbrev pub place_among : List Bucket → Bucket → ℕ
place_among listed id = count_by (λ other. precedes other id) listed

-- where it is listed, its place, counted from 0
abbrev pub place_of : List Bucket → Bucket → Option ℕ
place_of listed id = if lists listed id then Some (place_among listed id) else None

abbrev pub ids_of : List ClassBucket → List Bucket
ids_of buckets = map (λ b. b.terms.id) buckets

abbrev pub bucket_of : Bucket → List ClassBucket → Option ClassBucket
bucket_of id buckets = find (λ b. same_id id b.terms.id) buckets
