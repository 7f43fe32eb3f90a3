-- The records of a file that are left, the newest that was read, and that they can be read on.
use Rattle.std.specs.Prelude.{ℕ, List}
use Rattle.csv.specs.Records.{fields_of}
use Rattle.crif_records.specs.declared.records.Records.{Records}
use Rattle.crif_records.specs.declared.records.Records.TheVariants.{Quoted, Plain}
use Rattle.crif_records.specs.Plain.{plain_fields, plain_left, IsPlain}
use Rattle.crif_records.specs.Records.{reader_left, IsBetweenRecords}

abbrev pub records_left : Records → List (List (List ℕ))
records_left (Quoted quoted) = reader_left quoted.value.reader
records_left (Plain plain) = plain_left plain

-- the fields of the newest record, of which there are none before the first is read
abbrev pub newest : Records → List (List ℕ)
newest (Quoted quoted) = fields_of quoted.value.newest
newest (Plain plain) = plain_fields plain

-- csv's reader stands between two records, or no quote is left
abbrev pub IsReading : Records → Type 0
IsReading (Quoted quoted) = IsBetweenRecords quoted.value.reader
IsReading (Plain plain) = IsPlain plain
