-- The nets of a book, the amounts of a bucket in range, and its terms.
use Rattle.std.specs.Prelude.{◌*◌, ◌^◌, ◌≤◌, List, map, length, ℤ, pos, ◌≤ℤ◌, unsigned_abs}
use Rattle.std.specs.List.{AllByRecursion}
use Rattle.simm_params.specs.SimmKinds.declared.kinds.ProductClass.{ProductClass}
use Rattle.simm_params.specs.SimmKinds.declared.key.FactorKey.{FactorKey}
use Rattle.simm_params.specs.SimmRules.Net.{Sensitivity, in_product}
use Rattle.simm_params.specs.SimmRules.Risks.{Amount}
use Rattle.simm_params.specs.SimmRules.Bucket.{Weighted}
use Rattle.simm_params.specs.SimmRules.Gross.{size_by}
use Rattle.simm_params.specs.Facts.{IsWeighed}
use Rattle.factor_book.specs.declared.holding.Holding.{Holding}
use Rattle.factor_book.specs.declared.place.Place.{Place}
use Rattle.factor_book.specs.Factors.{net_of}
use Rattle.factor_book.specs.Places.{factors_at}
use Rattle.weighted_bucket.specs.declared.weighed.Weighed.{Weighed}

-- the net sensitivities of a product class among the factors of a book, in key order
abbrev pub nets_in : ProductClass → List (FactorKey × Holding) → List Sensitivity
nets_in product factors = in_product product (map net_of factors)

-- the nets of factors, and those of a place
abbrev pub nets : List (FactorKey × Holding) → List ℤ
nets factors = map (λ f. (f.1).net) factors

abbrev pub nets_at : Place → List (FactorKey × Holding) → List ℤ
nets_at place factors = nets (factors_at place factors)

-- the factors of a bucket in range: no more than 2,000, whose weighted sizes come to at most 10^13 cents
pub record IsInRange {A : Type 0} (weight : A → ℤ) (amounts : List (Amount A)) : Type 0 where
  pub few : length amounts ≤ 2000
  pub small : size_by weight amounts ≤ℤ pos (10 ^ 17)

-- the size of one of them, weighted, in ten-thousandths of a cent
abbrev pub IsSmall : ℤ → ℤ → Type 0
IsSmall weight amount = unsigned_abs amount * unsigned_abs weight ≤ 10 ^ 17

abbrev pub AreSmall : {A : Type 0} → (A → ℤ) → List (Amount A) → Type 0
AreSmall weight amounts = AllByRecursion (λ a. IsSmall (weight a.of) a.amount) amounts

-- amounts that count as they are: volatilities of rates and of credit are already volatility times vega
abbrev pub alone : {A : Type 0} → A → ℤ
alone a = pos 10000

-- a weight that is not 0, and a threshold that is thick beside it
pub record AreTerms (weight threshold : ℤ) : Type 0 where
  pub weighed : IsWeighed weight threshold
  pub some : pos 1 ≤ℤ weight

-- a factor of the rule as the engine has it
abbrev pub weighed_as : {A : Type 0} → Weighted A → Weighed
weighed_as f = record { w = f.w; cr = record { 0 = f.cr } }
