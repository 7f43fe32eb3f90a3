-- A bucket has no more amounts than factors.
use Rattle.std.proofs.Common.{ℕ, ◌≤◌, List, length, ap, arith}
use Rattle.class_rates.specs.SimmKinds.declared.kinds.ProductClass.{ProductClass}
use Rattle.class_rates.specs.SimmKinds.declared.bucket.Bucket.{Bucket}
use Rattle.class_rates.specs.SimmKinds.declared.key.FactorKey.{FactorKey}
use Rattle.class_rates.specs.SimmRules.Params.{Params}
use Rattle.class_rates.specs.SimmRules.declared.classes.CreditClass.{CreditClass}
use Rattle.class_rates.specs.SimmRules.declared.classes.PricedClass.{PricedClass}
use Rattle.class_rates.specs.SimmRules.Rates.{rates_in}
use Rattle.class_rates.specs.FactorBook.declared.holding.Holding.{Holding}
use Rattle.class_rates.specs.FactorBook.Places.{factors_at}
use Rattle.class_rates.specs.Places.{rates_place}
use Rattle.class_rates.proofs.RatePlaces.{rates_there}
use Rattle.class_credit.specs.Base.{base_place, indices_of}
use Rattle.class_credit.specs.Points.{points_place, points_in, as_point}
use Rattle.class_credit.proofs.CreditPoints.{points_there}
use Rattle.class_credit.proofs.Indices.{indices_there}
use Rattle.class_exchange.specs.Currencies.{currency_place, currencies_in, as_risky}
use Rattle.class_exchange.proofs.RiskyCurrencies.{currencies_there}
use Rattle.class_priced.specs.Names.{names_place, names_in, as_name}
use Rattle.class_priced.proofs.PricedNames.{names_there}
use Rattle.class_margin.specs.names_delta.Values.{nets_in}
use Rattle.class_margin.proofs.value.Counts.{few, indices_few as few_indices, rates_few as few_rates}

module _ (product : ProductClass) (fs : List (FactorKey × Holding)) where
  pub rates_few : (currency : List ℕ) → length (rates_in currency (nets_in product fs)) ≤ length (factors_at (rates_place currency product) fs)
  rates_few currency = omega (arith, ap length (rates_there currency product fs), few_rates (factors_at (rates_place currency product) fs) currency)

  pub points_few : (class : CreditClass) (b : Bucket) → length (points_in class b product fs) ≤ length (factors_at (points_place class b product) fs)
  points_few class b = omega (arith, ap length (points_there class b product fs), few (factors_at (points_place class b product) fs) as_point)

  pub names_few : (class : PricedClass) (b : Bucket) → length (names_in class b product fs) ≤ length (factors_at (names_place class b product) fs)
  names_few class b = omega (arith, ap length (names_there class b product fs), few (factors_at (names_place class b product) fs) as_name)

  pub currencies_few : (p : Params) → length (currencies_in p product fs) ≤ length (factors_at (currency_place product) fs)
  currencies_few p = omega (arith, ap length (currencies_there p product fs), few (factors_at (currency_place product) fs) (as_risky p))

  pub indices_few : length (indices_of product fs) ≤ length (factors_at (base_place product) fs)
  indices_few = omega (arith, ap length (indices_there product fs), few_indices (factors_at (base_place product) fs))
