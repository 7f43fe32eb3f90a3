-- Bytes without quotes, which are cut into records in place.
use Rattle.std.specs.Prelude.{◌≡◌, ℕ, List, [], ◌∷◌, ◌==◌, ◌||◌, Bool, false, true, map, Option, Some, IsTrue, if◌then◌else◌}
use Rattle.std.specs.Str.{IsAscii}
use Rattle.std.specs.List.{list_any, AllByRecursion}
use Rattle.csv.specs.Machine.{Read, ends_with, next_record}
use Rattle.csv.specs.Reading.{records}
use Rattle.csv.specs.declared.parser.State.{State}
use Rattle.csv.specs.declared.parser.State.TheVariants as st
use Rattle.csv.specs.declared.parser.Terminator.TheVariants as term
use Rattle.crif_records.specs.declared.plain.PlainRecords.{PlainRecords}
use Rattle.crif_records.specs.Records.{csv_by}

-- a quote stands in the bytes
abbrev pub has_quote : List ℕ → Bool
has_quote bytes = list_any (λ b. b == 34) bytes

abbrev pub is_line_end : ℕ → Bool
is_line_end b = ends_with term.CRLF b

abbrev pub ends_field : ℕ → ℕ → Bool
ends_field delimiter b = b == delimiter || is_line_end b

-- the bytes from the first on that ends no line
abbrev pub without_leading_line_ends : List ℕ → List ℕ
without_leading_line_ends [] = []
without_leading_line_ends (b ∷ bs) = if is_line_end b then without_leading_line_ends bs else b ∷ bs

-- the records that csv reads in what is left
abbrev pub plain_left : PlainRecords → List (List (List ℕ))
plain_left plain = records (csv_by plain.delimiter) plain.rest.now

-- the fields of the newest record, so far
abbrev pub plain_fields : PlainRecords → List (List ℕ)
plain_fields plain = map (λ field. field.now) plain.fields.items

-- No quote is left. Where all bytes are known to be ASCII, so are those that are left, and the fields.
pub record IsPlain (plain : PlainRecords) : Type 0 where
  pub quoteless : has_quote plain.rest.now ≡ false
  pub left : IsTrue plain.is_ascii → IsAscii plain.rest.now
  pub fields : IsTrue plain.is_ascii → AllByRecursion IsAscii (plain_fields plain)

-- what csv reads of a record further: behind its fields so far, in a field of which nothing is read yet
abbrev pub read_further : PlainRecords → Option Read
read_further plain = next_record (csv_by plain.delimiter) st.InField (plain_fields plain) [] plain.rest.now

-- a field was taken: csv reads the record further behind it as before it, or the record is over with it
abbrev pub TakesField : Bool → PlainRecords → PlainRecords → Type 0
TakesField true old new = read_further old ≡ read_further new
TakesField false old new = (s : State) × (read_further old ≡ Some (plain_fields new, s, new.rest.now))
