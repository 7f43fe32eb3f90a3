-- The lines of the bytes that were taken from a source, and the way they stop.
use Rattle.std.specs.Prelude.{ℕ, ◌+◌, ◌-◌, List, [], ◌∷◌, ◌++◌, length, reverse, take, Bool, nat_le, nat_lt, ◌==◌, if◌then◌else◌}
use Rattle.std.specs.List.{slice_split}
use Rattle.mh_io.specs.Limits.{most_bytes, line_bytes}

-- the way the bytes stop: the input ended; bytes without LF stand at the end and more may come; a line has no LF among
-- its first 65,536 bytes; the LF that ends a line isn't among the first 33,554,432 bytes
pub data Stop : Type 0 where
  Whole : Stop
  Open : Stop
  Long : Stop
  Over : Stop

pub record LineRun : Type 0 where
  pub lines : List (List ℕ)
  pub stop : Stop

abbrev pub stopped : Stop → LineRun
stopped stop = record { lines = []; stop = stop }

abbrev pub with_lines : List (List ℕ) → LineRun → LineRun
with_lines lines run = record { lines = lines ++ run.lines; stop = run.stop }

-- LF
abbrev pub is_lf : ℕ → Bool
is_lf b = b == 10

abbrev pub without_first_cr : List ℕ → List ℕ
without_first_cr [] = []
without_first_cr (b ∷ bs) = if b == 13 then bs else b ∷ bs

-- a CR before the LF is left off
abbrev pub without_cr : List ℕ → List ℕ
without_cr text = reverse (without_first_cr (reverse text))

-- the bytes before the end of input are a line too, where there are some
abbrev pub last_line : List ℕ → LineRun
last_line [] = stopped Whole
last_line (b ∷ bs) = record { lines = (b ∷ bs) ∷ []; stop = Whole }

-- the bytes that no LF follows
abbrev pub at_rest : List ℕ → Bool → Bool → LineRun
at_rest rest over ended =
    if nat_le line_bytes (length rest) then stopped Long
    else if over then stopped Over
    else if ended then last_line rest
    else stopped Open

-- The lines of the parts between the LFs. The last part has no LF behind it; over says that more bytes came than are
-- looked at, and ended that the input ended behind them.
abbrev pub cut : List (List ℕ) → Bool → Bool → LineRun
cut [] over ended = stopped Open
cut (rest ∷ []) over ended = at_rest rest over ended
cut (text ∷ next ∷ more) over ended =
    if nat_le line_bytes (length text) then stopped Long
    else with_lines (without_cr text ∷ []) (cut (next ∷ more) over ended)

-- the lines of what comes behind `passed` bytes; LFs are looked for among the first 33,554,432 bytes of all
unfoldable pub lines_behind : ℕ → List ℕ → Bool → LineRun
lines_behind passed bytes ended = cut (slice_split is_lf (take (most_bytes - passed) bytes)) (nat_lt most_bytes (passed + length bytes)) ended

-- the lines of all bytes that were taken, where `ended` says that the source gave its end of input
abbrev pub lines : List ℕ → Bool → LineRun
lines taken ended = lines_behind 0 taken ended
