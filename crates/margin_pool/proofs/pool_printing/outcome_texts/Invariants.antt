use Rattle.std.proofs.Common.{◌≡◌, ◌+◌, ◌≤◌, ◌++◌, length}
use Rattle.std.specs.List.{flat_map}
use Rattle.std.specs.VecDeque.{deque_len}
use Rattle.margin_pool.specs.PoolText.{texts_from}
use Rattle.margin_pool.proofs.pool_printing.outcome_texts.Given as goal

-- the texts so far and what is left to make are all
abbrev pub invariant-loop-report : goal.invariant-loop-report
invariant-loop-report l = record {
  all : flat_map (λ t. t) l.texts.items ++ texts_from (length l.texts.items) l.waiting.items ≡ texts_from 0 l.fn.run.reports.items;
  few : length l.texts.items + deque_len l.waiting ≤ 32;
}

abbrev pub decreases-loop-report : goal.decreases-loop-report
decreases-loop-report l = deque_len l.waiting
