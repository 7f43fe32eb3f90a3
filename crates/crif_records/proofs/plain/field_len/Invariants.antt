use Rattle.std.proofs.Common.{◌≡◌, ◌+◌, drop}
use Rattle.std.specs.List.{position_or_len}
use Rattle.crif_records.specs.Plain.{ends_field}
use Rattle.crif_records.proofs.plain.field_len.Given as goal

abbrev pub invariant-loop-place : goal.invariant-loop-place
invariant-loop-place l = position_or_len (ends_field l.delimiter) l.bytes ≡ l.place + position_or_len (ends_field l.delimiter) (drop l.place l.bytes)
