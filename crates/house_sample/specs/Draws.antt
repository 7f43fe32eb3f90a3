-- The draws of a feed: a linear congruential generator of 64 bits, of which the upper 31 are drawn.
use Rattle.std.specs.Prelude.{ℕ, ◌+◌, ◌*◌, ◌^◌, ◌/◌, ◌%◌}

-- the state before the first draw
abbrev pub first_state : ℕ → ℕ → ℕ
first_state seed feed = seed * 64 + feed

-- the state that a draw leaves
abbrev pub next_state : ℕ → ℕ
next_state x = (x * 6364136223846793005 + 1442695040888963407) % 2 ^ 64

-- what the draw that left this state gave
abbrev pub drawn : ℕ → ℕ
drawn x = x / 2 ^ 33
