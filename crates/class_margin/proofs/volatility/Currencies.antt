-- The volatilities of all currencies together.
use Rattle.std.proofs.Common.{◌≡◌, ℕ, List, length, sym, ap, ◌∙◌, pos, ◌*◌, unsigned_abs, arith}
use Rattle.std.specs.Prelude.{sum_by}
use Rattle.std.proofs.lemmas.Int.{ints}
use Rattle.class_rates.specs.SimmRules.Sums.{total_by}
use Rattle.class_rates.specs.SimmRules.Net.{Sensitivity}
use Rattle.class_rates.specs.SimmRules.Risks.{Amount, select}
use Rattle.class_rates.specs.SimmRules.Gross.{size_by}
use Rattle.class_rates.specs.SimmRules.Rates.{VolatilityIn, as_rate_volatility, volatilities_in, volatility_currencies}
use Rattle.class_margin.proofs.rates_delta.Sums.{sum_by-agrees, sum_by-ones, total_by-pos}
use Rattle.class_rates.proofs.MeasuredBucket.Sizes.{size_all, size_is}
use Rattle.class_margin.specs.volatilities.Ranges.{alone}
use Rattle.class_rates.proofs.MeasuredBucket.Gathered.{over_names}

abbrev currency_at : Amount VolatilityIn → List ℕ
currency_at a = (a.of).currency

module _ (ss : List Sensitivity) where
  abbrev all : List (Amount VolatilityIn)
  all = select as_rate_volatility ss

  pub counts : sum_by (λ currency. length (volatilities_in currency ss)) (volatility_currencies ss) ≡ length (select as_rate_volatility ss)
  counts =
      sum_by-agrees (λ currency. length (volatilities_in currency ss)) (λ currency. sum_by (λ a. 1) (volatilities_in currency ss)) (volatility_currencies ss) (λ currency. sym (sum_by-ones (volatilities_in currency ss)))
      ∙ over_names currency_at all (λ a. 1) ∙ sum_by-ones all

  whole : (amounts : List (Amount VolatilityIn)) → size_by alone amounts ≡ pos (size_all alone amounts)
  whole amounts = size_is alone (λ x. omega (arith, ints)) amounts

  pub sizes : total_by (λ currency. size_by alone (volatilities_in currency ss)) (volatility_currencies ss) ≡ size_by alone (select as_rate_volatility ss)
  sizes =
      total_by-pos (λ currency. size_by alone (volatilities_in currency ss)) (λ currency. size_all alone (volatilities_in currency ss)) (volatility_currencies ss) (λ currency. whole (volatilities_in currency ss))
      ∙ ap pos (over_names currency_at all (λ a. unsigned_abs a.amount * unsigned_abs (alone a.of))) ∙ sym (whole all)
