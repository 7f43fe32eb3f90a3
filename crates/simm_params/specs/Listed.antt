-- What a list of currencies keeps beside its different currencies.
use Rattle.std.specs.Prelude.{◌≡◌, ℕ, List, true}
use Rattle.std.specs.List.{AllByRecursion}
use Rattle.simm_rules.specs.SimmKinds.NameText.{is_currency}
use Rattle.simm_rules.specs.Lookups.{is_listed}

-- each is a currency, and the different ones are those of the list
pub record AreListed (listed different : List (List ℕ)) : Type 0 where
  pub currencies : AllByRecursion (λ c. is_currency c ≡ true) listed
  pub same : (c : List ℕ) → is_listed different c ≡ is_listed listed c
