use Rattle.std.proofs.Common.{◌≡◌, drop}
use Rattle.crif_records.specs.Columns.{place_from, place_named}
use Rattle.crif_records.specs.Reading.{newest}
use Rattle.crif_records.proofs.columns.place_named.Given as goal

abbrev pub invariant-loop-place : goal.invariant-loop-place
invariant-loop-place l = place_from l.place l.name (drop l.place (newest l.header)) ≡ place_named (newest l.fn.header) l.fn.name
