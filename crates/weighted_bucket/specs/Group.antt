-- Concentration groups: the sum of the amounts of a group over its threshold.
-- (ISDA SIMM methodology, concentration: the concentration risk factor of a group of sensitivities.)
use Rattle.std.specs.Prelude.{ℕ, ◌*◌, ◌^◌, ◌≤◌, List, slice_index_or, ◌==◌, ℤ, pos, ◌≤ℤ◌, unsigned_abs}
use Rattle.std.specs.List.{filter}
use Rattle.concentration.specs.SimmRules.Concentration.{cr}
use Rattle.concentration.specs.SimmRules.Sums.{total_by}
use Rattle.weighted_bucket.specs.declared.group.Grouped.{Grouped}

-- the sum of the amounts of a group
abbrev pub group_net : List Grouped → ℕ → ℤ
group_net amounts group = total_by (λ amount. amount.x) (filter (λ amount. amount.group == group) amounts)

-- the concentration factor of an amount's group
abbrev pub group_factor : List Grouped → Grouped → ℤ
group_factor amounts amount = cr (group_net amounts amount.group) amount.threshold

-- a net sensitivity and a threshold in the range of concentration factors
pub record CanConcentrate (net threshold : ℤ) : Type 0 where
  pub positive : pos 1 ≤ℤ threshold
  pub threshold_in_range : threshold ≤ℤ pos (10 ^ 15)
  pub net_in_range : unsigned_abs net ≤ 120000 * unsigned_abs threshold

-- the amount at a place
abbrev pub at : List Grouped → ℕ → Grouped
at amounts k = slice_index_or amounts k (record { group = 0; x = pos 0; threshold = pos 0 })
