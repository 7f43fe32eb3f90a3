-- Where the factors of a currency stand in a book, and which they are.
-- (ISDA SIMM methodology, interest rate risk: one bucket a currency.)
use Rattle.std.specs.Prelude.{ℕ, List}
use Rattle.measured_bucket.specs.SimmKinds.declared.kinds.ProductClass.{ProductClass}
use Rattle.measured_bucket.specs.SimmKinds.declared.key.FactorKey.{FactorKey}
use Rattle.measured_bucket.specs.SimmRules.Risks.{Amount}
use Rattle.measured_bucket.specs.SimmRules.Rates.{RateIn, VolatilityIn, rates_in, volatilities_in}
use Rattle.measured_bucket.specs.FactorBook.declared.place.Place.{Place}
use Rattle.measured_bucket.specs.FactorBook.declared.place.Stand.TheVariants as stand
use Rattle.measured_bucket.specs.FactorBook.declared.slot.Slot.TheVariants as slot
use Rattle.measured_bucket.specs.FactorBook.declared.holding.Holding.{Holding}
use Rattle.measured_bucket.specs.Values.{nets_in}

abbrev pub rates_place : List ℕ → ProductClass → Place
rates_place currency product = record { product = product; stand = stand.Delta (slot.Rates currency) }

abbrev pub volatilities_place : List ℕ → ProductClass → Place
volatilities_place currency product = record { product = product; stand = stand.Volatility (slot.Rates currency) }

-- ---- the nets of a currency in a product class, in key order

abbrev pub rates_of : List ℕ → ProductClass → List (FactorKey × Holding) → List (Amount RateIn)
rates_of currency product factors = rates_in currency (nets_in product factors)

abbrev pub volatilities_of : List ℕ → ProductClass → List (FactorKey × Holding) → List (Amount VolatilityIn)
volatilities_of currency product factors = volatilities_in currency (nets_in product factors)
