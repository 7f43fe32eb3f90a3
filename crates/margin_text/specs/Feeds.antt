-- What became of a feed: each message that made no call, then how many did, how many didn't, and how the feed ended.
use Rattle.std.specs.Prelude.{ℕ, List, [], ◌++◌, length, Option, Some, None, slice_get, codes, decimal}
use Rattle.std.specs.List.{flat_map}
use Rattle.feed_gate.specs.declared.report.RefusedMessage.{RefusedMessage}
use Rattle.feed_gate.specs.declared.report.RefusedMessage.TheVariants as refused
use Rattle.feed_runs.specs.declared.feed_end.FeedEnd.{FeedEnd}
use Rattle.feed_gate.specs.Numbers.{refused_number}
use Rattle.crif_reader.specs.Faults.{crif_fault_number}
use Rattle.fault_text.specs.Fields.{field, last_field, numbered_line}
use Rattle.fault_text.specs.CrifLine.{crif_fields}
use Rattle.fault_text.specs.ParamsLine.{params_fields}
use Rattle.params_file.specs.Faults.{param_fault_number}
use Rattle.fault_text.specs.FeedFields.{refused_fields, end_field}

abbrev pub if_named : Option (List ℕ) → List ℕ
if_named None = []
if_named (Some name) = name

-- the name of the set at a place, from 0
abbrev pub name_at : List (List ℕ) → ℕ → List ℕ
name_at names place = if_named (slice_get names place)

-- the number of a refused message; of a block the fault of its records, as a CRIF file has it, or of its tables, as a parameter
-- file has it; of tables that are too long their bytes; where the journal was full, the set's name and the journal's entries and rows
abbrev pub refused_line : ℕ → List (List ℕ) → RefusedMessage → List ℕ
refused_line feed names (refused.BadLine line) = refused_fields feed line ++ last_field (decimal (refused_number (refused.BadLine line)))
refused_line feed names (refused.UnknownSet line) = refused_fields feed line ++ last_field (decimal (refused_number (refused.UnknownSet line)))
refused_line feed names (refused.BadBatch line fault) =
    numbered_line (refused_fields feed line ++ field (decimal (refused_number (refused.BadBatch line fault)))) (crif_fault_number fault)
    (λ code. crif_fields code fault)
refused_line feed names (refused.BadTables line fault) =
    numbered_line (refused_fields feed line ++ field (decimal (refused_number (refused.BadTables line fault)))) (param_fault_number fault)
    (λ code. params_fields code fault)
refused_line feed names (refused.LongTables line bytes) =
    refused_fields feed line ++ field (decimal (refused_number (refused.LongTables line bytes))) ++ last_field (decimal bytes)
refused_line feed names (refused.Full line set entries rows) =
    refused_fields feed line ++ field (decimal (refused_number (refused.Full line set entries rows)))
    ++ field (name_at names set) ++ field (decimal entries) ++ last_field (decimal rows)

abbrev pub feed_line : ℕ → ℕ → ℕ → FeedEnd → List ℕ
feed_line feed done refused ended =
    field (codes "FEED") ++ field (decimal feed) ++ field (decimal done) ++ field (decimal refused) ++ end_field ended

-- the refused messages in order, then the feed's own line; `names` are those of the sets
abbrev pub feed_text : ℕ → List (List ℕ) → ℕ → List RefusedMessage → FeedEnd → List ℕ
feed_text feed names done refused ended = flat_map (refused_line feed names) refused ++ feed_line feed done (length refused) ended
