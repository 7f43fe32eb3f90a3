-- What the reports of feeds of any kind print alike.
use Rattle.std.specs.Prelude.{ℕ, List, ◌++◌, codes, decimal}
use Rattle.feed_runs.specs.declared.feed_end.FeedEnd.{FeedEnd}
use Rattle.feed_runs.specs.declared.feed_end.FeedEnd.TheVariants as end
use Rattle.fault_text.specs.Fields.{field, last_field}

-- of a refused message: its feed, and its line
abbrev pub refused_fields : ℕ → ℕ → List ℕ
refused_fields feed line = field (codes "REFUSED") ++ field (decimal feed) ++ field (decimal line)

-- how a feed ended, with the line, or the bytes that were taken of one that is too long
abbrev pub end_field : FeedEnd → List ℕ
end_field end.End = last_field (codes "END")
end_field (end.Cut line) = field (codes "CUT") ++ last_field (decimal line)
end_field (end.LineLong line) = field (codes "LONG") ++ last_field (decimal line)
end_field (end.TooLong taken) = field (codes "TOOLONG") ++ last_field (decimal taken)
end_field end.ReadFault = last_field (codes "READ")
end_field (end.Memory line) = field (codes "MEMORY") ++ last_field (decimal line)
