-- What a pool prints: per feed its messages with their replies, the lines that are none, and what its set holds; and then what
-- is left of the total.
use Rattle.std.specs.Prelude.{ℕ, ◌+◌, List, [], ◌∷◌, ◌++◌, codes, decimal, pos}
use Rattle.std.specs.List.{flat_map}
use Rattle.mh_units.specs.Money.{money_text}
use Rattle.feed_runs.specs.declared.feed_end.FeedEnd.{FeedEnd}
use Rattle.fault_text.specs.Fields.{field, last_field}
use Rattle.fault_text.specs.FeedFields.{end_field, refused_fields}
use Rattle.pool_gate.specs.declared.job.PoolReport.{PoolReport}

-- a line that is no message
abbrev pub refused_line : ℕ → ℕ → List ℕ
refused_line feed line = refused_fields feed line ++ last_field (decimal 1)

-- what the set of a feed holds, and how the feed ended
abbrev pub held_line : ℕ → ℕ → FeedEnd → List ℕ
held_line feed held end = field (codes "HELD") ++ field (decimal feed) ++ field (money_text (pos held)) ++ end_field end

-- a feed: its report has the lines of its messages
abbrev pub report_text : ℕ → PoolReport → List ℕ
report_text feed r = r.text ++ flat_map (refused_line feed) r.refused ++ held_line feed r.held r.end

-- the feeds from this number on
abbrev pub texts_from : ℕ → List PoolReport → List ℕ
texts_from from [] = []
texts_from from (r ∷ reports) = report_text from r ++ texts_from (from + 1) reports

-- what is left of the total
abbrev pub rest_line : ℕ → List ℕ
rest_line rest = field (codes "REST") ++ last_field (money_text (pos rest))

-- all that is printed, the feeds in the order of the words
abbrev pub pool_text : List PoolReport → ℕ → List ℕ
pool_text reports rest = texts_from 0 reports ++ rest_line rest
