-- A bucket has no more of the rule's factors than stand at its place.
use Rattle.std.proofs.Common.{◌≤◌, ℕ, List, map, length, Option, arith}
use Rattle.std.proofs.lemmas.List.{length-map}
use Rattle.class_rates.specs.SimmKinds.declared.key.FactorKey.{FactorKey}
use Rattle.class_rates.specs.SimmRules.Risks.{Risk, Rate, Amount, select}
use Rattle.class_rates.specs.SimmRules.Rates.{RateIn}
use Rattle.class_rates.specs.SimmRules.BaseCorrelation.{as_index}
use Rattle.class_rates.specs.FactorBook.declared.holding.Holding.{Holding}
use Rattle.class_rates.specs.FactorBook.Factors.{net_of}
use Rattle.class_rates.specs.Rates.{as_rate_alone, rate_nets, rates_among}
use Rattle.class_credit.specs.Base.{index_nets}
use Rattle.class_margin.proofs.delta.Lists.{select-length}

module _ (its : List (FactorKey × Holding)) where
  pub few : {A : Type 0} (sort : Risk → Option A) → length (select sort (map net_of its)) ≤ length its
  few sort = omega (arith, select-length sort (map net_of its), length-map its net_of)

  pub rates_few : (currency : List ℕ) → length (rates_among currency its) ≤ length its
  rates_few currency =
      let with_currency : Amount Rate → Amount RateIn = λ a. record { of = record { currency = currency; rate = a.of }; amount = a.amount } in
      omega (arith, few as_rate_alone, length-map (rate_nets its) with_currency)

  pub indices_few : length (index_nets its) ≤ length its
  indices_few = few as_index
