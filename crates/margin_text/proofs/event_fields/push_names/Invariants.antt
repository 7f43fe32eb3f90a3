use Rattle.std.proofs.Common.{◌≡◌, ◌++◌, drop}
use Rattle.std.specs.List.{flat_map}
use Rattle.fault_text.specs.Fields.{field}
use Rattle.margin_text.proofs.event_fields.push_names.Given as goal

-- the text so far and what is left to add are the whole
abbrev pub invariant-loop-name : goal.invariant-loop-name
invariant-loop-name l = l.text ++ flat_map field (drop l.name-index l.names) ≡ l.fn.text ++ flat_map field l.names
