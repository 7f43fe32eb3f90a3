use Rattle.std.proofs.Common.{◌≡◌, ◌++◌, drop, flat_map}
use Rattle.audit_file.specs.Written.{entry_text}
use Rattle.audit_file.proofs.audit_text.push_entries.Given as goal

-- the text so far and what is left to add are the whole
abbrev pub invariant-loop-index : goal.invariant-loop-index
invariant-loop-index l = l.text ++ flat_map (entry_text l.name) (drop l.index l.set.journal) ≡ l.fn.text ++ flat_map (entry_text l.name) l.set.journal
