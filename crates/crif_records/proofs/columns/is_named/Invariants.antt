use Rattle.std.proofs.Common.{◌≡◌, drop}
use Rattle.std.specs.List.{filter}
use Rattle.simm_kinds.specs.Words.{is_word}
use Rattle.crif_records.specs.Columns.{is_counted}
use Rattle.crif_records.proofs.columns.is_named.Given as goal

-- what is left of the field is to be what is left of the name
abbrev pub invariant-loop-byte : goal.invariant-loop-byte
invariant-loop-byte l = is_word l.rest (filter is_counted (drop l.byte-index l.field)) ≡ is_word l.fn.name (filter is_counted l.fn.field)
