use Rattle.std.proofs.Common.{◌≡◌, ◌++◌, take}
use Rattle.margin_run.proofs.NoticeLemmas.{notices_in}
use Rattle.margin_run.proofs.telling.push_notices.Given as goal

abbrev pub invariant-loop-index : goal.invariant-loop-index
invariant-loop-index l =
    l.notices.items ≡ l.fn.notices.items ++ notices_in l.set.terms.collect.name (take l.index l.set.journal)
