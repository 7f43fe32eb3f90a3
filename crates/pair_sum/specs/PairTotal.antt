-- Sums over places, and the sums over all ordered pairs of items or of buckets.
-- (ISDA SIMM methodology: aggregation within a bucket and across buckets.)
use Rattle.std.specs.Prelude.{ℕ, zero, suc, List, map, length, slice_index_or, ◌==◌, ℤ, pos, ◌+ℤ◌, ◌*ℤ◌, if◌then◌else◌}
use Rattle.simm_rules.specs.declared.values.BucketMargin.{BucketMargin}
use Rattle.simm_rules.specs.Concentration.{one}
use Rattle.pair_sum.specs.declared.item.Item.{Item}

-- f 0 + .. + f (n - 1)
abbrev pub sum_below : (ℕ → ℤ) → ℕ → ℤ
sum_below f zero = pos 0
sum_below f (suc n) = sum_below f n +ℤ f n

abbrev pub weights : List Item → List ℤ
weights items = map (λ item. item.w) items

-- the amount at a place
abbrev pub at_place : List ℤ → ℕ → ℤ
at_place ws i = slice_index_or ws i (pos 0)

-- c i j times the amounts at i and j
abbrev pub term : (ℕ → ℕ → ℤ) → List ℤ → ℕ → ℕ → ℤ
term c ws i j = c i j *ℤ at_place ws i *ℤ at_place ws j

-- the sum over all ordered pairs (i, j)
abbrev pub pair_total : (ℕ → ℕ → ℤ) → List ℤ → ℤ
pair_total c ws = sum_below (λ i. sum_below (λ j. term c ws i j) (length ws)) (length ws)

-- the margins of buckets, and their sums held between the margins
abbrev pub margins : List BucketMargin → List ℤ
margins parts = map (λ part. part.k) parts

abbrev pub held_sums : List BucketMargin → List ℤ
held_sums parts = map (λ part. part.s) parts

-- the term of two different places
abbrev pub term_apart : (ℕ → ℕ → ℤ) → List ℤ → ℕ → ℕ → ℤ
term_apart c ws i j = if i == j then pos 0 else term c ws i j

-- the squares of the margins, and the sum over all ordered pairs of different buckets
abbrev pub outer_total : (ℕ → ℕ → ℤ) → List BucketMargin → ℤ
outer_total c parts =
    one *ℤ sum_below (λ i. at_place (margins parts) i *ℤ at_place (margins parts) i) (length parts)
    +ℤ sum_below (λ i. sum_below (λ j. term_apart c (held_sums parts) i j) (length parts)) (length parts)
