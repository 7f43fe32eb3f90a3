-- Which words are a command.
use Rattle.std.specs.Prelude.{ℕ, List, [], ◌∷◌, length, Option, Some, None, Bool, false, ◌&&◌, not, ◌==◌, nat_le, codes, if◌then◌else◌}
use Rattle.std.specs.List.{list_all}
use Rattle.std.specs.Str.{bytes_eq}
use Rattle.margin_schedule.specs.ScheduleIm.IsoDates.declared.date.DateNumbers.{DateNumbers}
use Rattle.margin_schedule.specs.ScheduleIm.EndDates.{end_date_of}
use Rattle.feed_reader.specs.Values.{number}
use Rattle.margin_whatif.specs.Words.{is_trade_word}
use Rattle.margin_pool.specs.PoolFeed.Values.{some_amount}

-- the forms of a command, each with its file words and names, and a sample with its numbers
pub data Form : Type 0 where
  Calc : (params crif : List ℕ) → Form
  Explain : (params crif : List ℕ) → Form
  Schedule : (day : DateNumbers) (crif : List ℕ) → Form
  WhatIf : (params crif candidate : List ℕ) (names : List (List ℕ)) → Form
  Sample : (feeds seed : ℕ) → Form
  Run : (params terms : List ℕ) (feeds : List (List ℕ)) → Form
  Audit : (params terms : List ℕ) (feeds : List (List ℕ)) → Form
  Verify : (params terms audit : List ℕ) → Form
  Pool : (terms : List ℕ) (total : ℕ) (feeds : List (List ℕ)) → Form

-- a word that names something: it isn't empty, and doesn't begin with `-`
abbrev pub is_name_word : List ℕ → Bool
is_name_word [] = false
is_name_word (b ∷ bs) = not (b == 45)

-- words that name 1 to 32 feeds
abbrev pub are_feed_words : List (List ℕ) → Bool
are_feed_words words = not (length words == 0) && nat_le (length words) 32 && list_all is_name_word words

-- a margin by the schedule, where the word has a day
abbrev pub schedule_form : Option DateNumbers → List ℕ → Option Form
schedule_form None crif = None
schedule_form (Some day) crif = Some (Schedule day crif)

-- a margin of one CRIF file: `calc PARAMS CRIF`, `explain PARAMS CRIF` and `schedule DATE CRIF`
abbrev pub margin_form : List ℕ → List ℕ → List ℕ → Option Form
margin_form command first crif =
    if bytes_eq command (codes "calc") && is_name_word first && is_name_word crif then Some (Calc first crif)
    else if bytes_eq command (codes "explain") && is_name_word first && is_name_word crif then Some (Explain first crif)
    else if bytes_eq command (codes "schedule") && is_name_word crif then schedule_form (end_date_of first) crif
    else None

-- a number up to 4,294,967,295 in decimal, without a sign, and without a leading zero unless it is 0
abbrev pub number_of : List ℕ → Option ℕ
number_of word = if bytes_eq word (codes "0") then Some 0 else number word

-- a sample of 1 to 32 feeds, where both words are numbers
abbrev pub few_feeds : Option ℕ → Option ℕ → Option Form
few_feeds (Some feeds) (Some seed) = if nat_le 1 feeds && nat_le feeds 32 then Some (Sample feeds seed) else None
few_feeds (Some feeds) None = None
few_feeds None seed = None

abbrev pub sample_form : List ℕ → List ℕ → Option Form
sample_form feeds seed = few_feeds (number_of feeds) (number_of seed)

-- three words: `sample N SEED`, or a margin of one CRIF file
abbrev pub short_form : List ℕ → List ℕ → List ℕ → Option Form
short_form command first second =
    if bytes_eq command (codes "sample") then sample_form first second else margin_form command first second

-- a total that sets share, where the word has one
abbrev pub pool_form : List ℕ → Option ℕ → List (List ℕ) → Option Form
pool_form terms None feeds = None
pool_form terms (Some total) feeds = Some (Pool terms total feeds)

-- `run PARAMS TERMS FEED..`, `audit PARAMS TERMS FEED..`, and `pool TERMS TOTAL FEED..` with a total of 1 to 10^15 cents, each with
-- 1 to 32 feeds
abbrev pub feeds_form : List ℕ → List ℕ → List ℕ → List (List ℕ) → Option Form
feeds_form command first second feeds =
    if bytes_eq command (codes "run") && is_name_word first && is_name_word second && are_feed_words feeds then Some (Run first second feeds)
    else if bytes_eq command (codes "audit") && is_name_word first && is_name_word second && are_feed_words feeds then Some (Audit first second feeds)
    else if bytes_eq command (codes "pool") && is_name_word first && are_feed_words feeds then pool_form first (some_amount second) feeds
    else None

-- words that name 0 to 100 trades
abbrev pub are_trade_words : List (List ℕ) → Bool
are_trade_words words = nat_le (length words) 100 && list_all (λ word. is_name_word word && is_trade_word word) words

-- `whatif PARAMS CRIF CANDIDATE NAME..` with 0 to 100 names of trades
abbrev pub what_if_form : List ℕ → List ℕ → List (List ℕ) → Option Form
what_if_form params crif [] = None
what_if_form params crif (candidate ∷ names) =
    if is_name_word params && is_name_word crif && is_name_word candidate && are_trade_words names then Some (WhatIf params crif candidate names) else None

-- `verify PARAMS TERMS AUDIT`
abbrev pub verify_form : List ℕ → List ℕ → List (List ℕ) → Option Form
verify_form params terms (audit ∷ []) =
    if is_name_word params && is_name_word terms && is_name_word audit then Some (Verify params terms audit) else None
verify_form params terms _ = None

-- four words or more: a what-if, a verification, or feeds
abbrev pub long_form : List ℕ → List ℕ → List ℕ → List (List ℕ) → Option Form
long_form command first second rest =
    if bytes_eq command (codes "whatif") then what_if_form first second rest
    else if bytes_eq command (codes "verify") then verify_form first second rest
    else feeds_form command first second rest

-- these; all other words are no form
abbrev pub form_of : List (List ℕ) → Option Form
form_of (command ∷ first ∷ second ∷ []) = short_form command first second
form_of (command ∷ first ∷ second ∷ third ∷ rest) = long_form command first second (third ∷ rest)
form_of _ = None
