-- The records of a file, as csv reads them, and those that csv's reader has left.
use Rattle.std.specs.Prelude.{◌≡◌, ℕ, ◌+◌, List, [], ◌∷◌, ◌==◌, ◌||◌, Bool, false, true, length, Option, Some, None, IsSome, if◌then◌else◌}
use Rattle.std.specs.Borrow.{Bor}
use Rattle.csv.specs.Machine.{ends_at_end}
use Rattle.csv.specs.Reading.{default_config, is_flexible, reader_config, reader_state, reader_trim, records, records_from, source_of, strip_bom, Ready}
use Rattle.csv.specs.declared.parser.Config.{Config}
use Rattle.csv.specs.declared.parser.State.{State}
use Rattle.csv.specs.declared.reader.Reader.{Reader}
use Rattle.csv.specs.declared.reader.Trim.TheVariants as trim

-- a tab stands before the first LF
abbrev pub has_tab : List ℕ → Bool
has_tab [] = false
has_tab (b ∷ bs) = if b == 10 then false else (b == 9 || has_tab bs)

-- a tab where the first line has one, else a comma
abbrev pub delimiter_of : List ℕ → ℕ
delimiter_of bytes = if has_tab bytes then 9 else 44

-- csv's quotes, double quotes and line ends, with this byte between fields
abbrev pub csv_by : ℕ → Config
csv_by delimiter = record default_config { delimiter = delimiter }

-- all records, each a list of fields; a byte order mark at the start is left off
unfoldable pub records_of : List ℕ → List (List (List ℕ))
records_of bytes = records (csv_by (delimiter_of bytes)) (strip_bom bytes)

-- ---- a reader of a file that lies in memory

-- the records of the bytes that are left, from the state that the machine is in
abbrev pub records_after : Config → State → Option (List ℕ) → List (List (List ℕ))
records_after config state None = []
records_after config state (Some bytes) = records_from config (length bytes + 1) state bytes

abbrev pub source_left : Reader (Bor (List ℕ)) → Option (List ℕ)
source_left reader = source_of (λ (s : Bor (List ℕ)). Some s.now) reader

unfoldable pub reader_left : Reader (Bor (List ℕ)) → List (List (List ℕ))
reader_left reader = records_after (reader_config reader) (reader_state reader) (source_left reader)

-- it stands between two records, of which each may have its own length, and nothing has failed
pub record IsBetweenRecords (reader : Reader (Bor (List ℕ))) : Type 0 where
  pub trim : reader_trim reader ≡ trim.None
  pub ready : Ready reader
  pub flexible : is_flexible reader ≡ true
  pub between : ends_at_end (reader_state reader) ≡ false
  pub known : IsSome (source_left reader)
