use Rattle.std.proofs.Common.{◌≡◌, ◌++◌, flat_map, drop}
use Rattle.feed_writer.specs.Messages.{next_field}
use Rattle.feed_writer.proofs.messages.push_names.Given as goal

-- the text so far and what is left to add are the whole
abbrev pub invariant-loop-name : goal.invariant-loop-name
invariant-loop-name l = l.text ++ flat_map next_field (drop l.name-index l.names) ≡ l.fn.text ++ flat_map next_field l.names
