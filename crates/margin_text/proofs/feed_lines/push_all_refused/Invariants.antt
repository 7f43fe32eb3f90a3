use Rattle.std.proofs.Common.{◌≡◌, ◌++◌, drop, map}
use Rattle.std.specs.List.{flat_map}
use Rattle.margin_text.specs.Feeds.{refused_line}
use Rattle.margin_text.proofs.feed_lines.push_all_refused.Given as goal

-- the text so far and what is left to add are the whole
abbrev pub invariant-loop-message : goal.invariant-loop-message
invariant-loop-message l = l.text ++ flat_map (refused_line l.feed (map (λ s. s.collect.name) l.sets)) (drop l.message-index l.messages) ≡ l.fn.text ++ flat_map (refused_line l.feed (map (λ s. s.collect.name) l.sets)) l.messages
