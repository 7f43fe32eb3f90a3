-- What the concentration groups of currencies keep beside them: the thresholds of each currency that they list.
use Rattle.std.specs.Prelude.{◌≡◌, ℕ, List, Option, Some, option_map, if◌then◌else◌}
use Rattle.std.specs.List.{find}
use Rattle.std.specs.Map.{lookup}
use Rattle.simm_rules.specs.SimmKinds.Order.{same_name}
use Rattle.simm_rules.specs.Params.{Thresholds, CurrencyGroup}
use Rattle.simm_rules.specs.Lookups.{is_listed}
use Rattle.simm_params.specs.declared.thresholds.Thresholds.{Thresholds as Held}
use Rattle.simm_params.specs.ThresholdView.{thresholds_view}

-- the thresholds of the first group that lists a currency, where one does
abbrev pub group_thresholds : List CurrencyGroup → List ℕ → Option Thresholds
group_thresholds groups currency = option_map (λ g. g.thresholds) (find (λ g. is_listed g.currencies currency) groups)

-- the thresholds kept at a currency
abbrev pub kept_thresholds : List (List ℕ × Held) → List ℕ → Option Thresholds
kept_thresholds entries currency = option_map thresholds_view (lookup (same_name currency) entries)

-- they are those of the groups
abbrev pub AreGrouped : List CurrencyGroup → List (List ℕ × Held) → Type 0
AreGrouped groups entries = (currency : List ℕ) → kept_thresholds entries currency ≡ group_thresholds groups currency

-- a group's thresholds are kept at each of its currencies, and each other currency has what it had
abbrev pub IsKept : CurrencyGroup → List (List ℕ × Held) → List (List ℕ × Held) → Type 0
IsKept group before after =
    (currency : List ℕ) → kept_thresholds after currency ≡ (if is_listed group.currencies currency then Some group.thresholds else kept_thresholds before currency)
