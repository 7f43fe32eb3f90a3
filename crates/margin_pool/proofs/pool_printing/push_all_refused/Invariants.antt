use Rattle.std.proofs.Common.{◌≡◌, ◌++◌, drop}
use Rattle.std.specs.List.{flat_map}
use Rattle.margin_pool.specs.PoolText.{refused_line}
use Rattle.margin_pool.proofs.pool_printing.push_all_refused.Given as goal

-- the lines so far and what is left to add are the whole
abbrev pub invariant-loop-line : goal.invariant-loop-line
invariant-loop-line l =
    l.text ++ flat_map (refused_line l.feed) (drop l.line-index l.lines) ≡ l.fn.text ++ flat_map (refused_line l.feed) l.lines
