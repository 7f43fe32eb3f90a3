-- The buckets of a class with their values.
use Rattle.std.proofs.Common.{List, map}
use Rattle.class_rates.specs.SimmKinds.declared.kinds.BucketId.{BucketId}
use Rattle.class_rates.specs.SimmKinds.declared.bucket.Bucket.{Bucket}
use Rattle.class_rates.specs.SimmKinds.Factors.{bucket_id_of}
use Rattle.class_rates.specs.SimmRules.declared.values.BucketMargin.{BucketMargin}
use Rattle.class_rates.specs.FactorBook.declared.slot.Slot.{Slot}
use Rattle.class_rates.specs.FactorBook.Place.{slot_bucket}

-- a slot with its value
abbrev pub Slotted : Type 0
Slotted = Slot × BucketMargin

abbrev pub ids : List Slotted → List BucketId
ids parts = map (λ part. slot_bucket part.0) parts

-- a bucket that the file lists, with its value
abbrev pub Whole : Type 0
Whole = Bucket × BucketMargin

abbrev pub listed_ids : List Whole → List BucketId
listed_ids parts = map (λ part. bucket_id_of part.0) parts
