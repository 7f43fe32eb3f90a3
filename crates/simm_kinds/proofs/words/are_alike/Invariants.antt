use Rattle.std.proofs.Common.{◌≡◌, ℕ, ◌<◌, ◌≤◌, length}
use Rattle.simm_kinds.proofs.Letters.{lower_at}
use Rattle.simm_kinds.proofs.words.are_alike.Given as goal

-- the bytes from here on are the same in any case
abbrev pub invariant-loop-place : goal.invariant-loop-place
invariant-loop-place l = (k : ℕ) → l.place ≤ k → k < length l.text → lower_at l.text k ≡ lower_at l.word k
