-- The pairs of places of which some are marked.
use Rattle.std.specs.Prelude.{ℕ, zero, suc, ◌+◌, List, Bool, nat_lt, ◌==◌, ◌||◌, ◌&&◌, ℤ, pos, if◌then◌else◌}
use Rattle.pair_sum.specs.PairTotal.{pair_total}

-- the correlations of the pairs with a marked place, and 0 elsewhere
abbrev pub with_marked : (ℕ → Bool) → (ℕ → ℕ → ℤ) → ℕ → ℕ → ℤ
with_marked marked c i j = if marked i || marked j then c i j else pos 0

-- the sum over all ordered pairs (i, j) of which at least one place is marked
abbrev pub marked_total : (ℕ → Bool) → (ℕ → ℕ → ℤ) → List ℤ → ℤ
marked_total marked c ws = pair_total (with_marked marked c) ws

-- how many of the first n places are marked
abbrev pub count_marked : (ℕ → Bool) → ℕ → ℕ
count_marked marked zero = 0
count_marked marked (suc n) = count_marked marked n + (if marked n then 1 else 0)

-- ---- one marked place after another

-- a marked place before k
abbrev pub marked_before : (ℕ → Bool) → ℕ → ℕ → Bool
marked_before marked k i = nat_lt i k && marked i

-- the correlations of a row with the other places, but for the marked ones before it
abbrev pub beside : (ℕ → Bool) → (ℕ → ℕ → ℤ) → ℕ → ℕ → ℤ
beside marked c row j = if row == j || marked_before marked row j then pos 0 else c row j
