-- The volatilities of each bucket of a book in range are in range.
use Rattle.std.proofs.Common.{◌≡◌, ℕ, List, true, pos, ◌≤ℤ◌, arith}
use Rattle.std.specs.Prelude.{IsSomeAnd}
use Rattle.std.specs.List.{list_all}
use Rattle.std.proofs.lemmas.Int.{ints}
use Rattle.class_rates.specs.SimmKinds.declared.kinds.ProductClass.{ProductClass}
use Rattle.class_rates.specs.SimmKinds.declared.bucket.Bucket.{Bucket}
use Rattle.class_rates.specs.SimmKinds.declared.key.FactorKey.{FactorKey}
use Rattle.class_rates.specs.SimmKinds.declared.row.CrifRow.{CrifRow}
use Rattle.class_rates.specs.SimmKinds.Batch.{is_in_range}
use Rattle.class_rates.specs.SimmKinds.Order.{same_name}
use Rattle.class_rates.specs.SimmRules.Params.{Params, CreditBucket, PricedBucket}
use Rattle.class_rates.specs.SimmRules.Risks.{select}
use Rattle.class_rates.specs.SimmRules.declared.classes.CreditClass.{CreditClass}
use Rattle.class_rates.specs.SimmRules.declared.classes.PricedClass.{PricedClass}
use Rattle.class_rates.specs.SimmRules.Admits.{lists}
use Rattle.class_rates.specs.SimmRules.Rates.{VolatilityIn, as_rate_volatility}
use Rattle.class_rates.specs.SimmRules.Credit.{credit_params, listed_credit}
use Rattle.class_rates.specs.SimmRules.Priced.{priced_params, listed_priced}
use Rattle.class_rates.specs.SimmParams.Facts.{IsParams}
use Rattle.class_rates.specs.SimmParams.ListedBuckets.{credit_bucket_of, priced_bucket_of}
use Rattle.class_rates.specs.FactorBook.declared.holding.Holding.{Holding}
use Rattle.class_rates.specs.FactorBook.Factors.{factors_of}
use Rattle.book_range.specs.Bounded.{IsBounded}
use Rattle.class_margin.specs.names_delta.Values.{nets_in, IsInRange}
use Rattle.class_margin.proofs.names_delta.Shrinking.{SizesAreNetted, filter_shrinks}
use Rattle.class_rates.specs.MeasuredBucket.Runs.{AreRunsInRange}
use Rattle.class_margin.specs.volatilities.Places.{volatilities_of, points_of, name_volatilities}
use Rattle.class_margin.specs.volatilities.Ranges.{alone}
use Rattle.class_margin.proofs.volatility.Bounds.{rates_range, names_sizes, credit_class, priced_class}
use Rattle.class_margin.proofs.delta.Owned.{ready}
use Rattle.class_margin.proofs.volatility.Parts.{some_and}

module _ (p : Params) (facts : IsParams p) (held : List CrifRow) (bounded : IsBounded p held) (amounts : list_all is_in_range held ≡ true) (product : ProductClass) (sizes : SizesAreNetted held) where
  abbrev fs : List (FactorKey × Holding)
  fs = factors_of held

  -- ---- interest rates

  pub each_range : (currency : List ℕ) → IsInRange alone (volatilities_of currency product fs)
  each_range currency =
      let its = rates_range p facts held bounded amounts product sizes in
      let low : (v : VolatilityIn) → pos 0 ≤ℤ alone v = λ v. omega (arith, ints) in
      record {
        few = its.few_each currency;
        small = omega (arith, ints, filter_shrinks alone low (λ a. same_name (a.of).currency currency) (select as_rate_volatility (nets_in product fs)), its.small);
      }

  -- ---- credit

  pub credit_found : (c : CreditClass) (b : Bucket) → lists (listed_credit (credit_params p c)) b ≡ true → IsSomeAnd (credit_bucket_of (credit_params p c).buckets b) (λ _. IsInRange alone (points_of c b product (factors_of held)))
  credit_found c b h =
      ready (λ (x : CreditBucket). (x.terms).id) (λ x. pos 10000) (λ a. points_of c a product fs) (credit_params p c).buckets (credit_class p facts held bounded amounts product sizes c) b h

  -- ---- equity and commodities

  pub priced_found : (c : PricedClass) (b : Bucket) → lists (listed_priced (priced_params p c)) b ≡ true → IsSomeAnd (priced_bucket_of (priced_params p c).buckets b) (λ x. AreRunsInRange (λ _. x.sigma) (name_volatilities c b product (factors_of held)))
  priced_found c b h =
      some_and (λ (x : PricedBucket). IsInRange (λ _. x.sigma) (name_volatilities c b product fs)) (λ x. AreRunsInRange (λ _. x.sigma) (name_volatilities c b product fs))
      (λ x r. record { weighed = r; sizes = names_sizes p facts held bounded amounts product sizes c b }) _
      (ready (λ (x : PricedBucket). (x.terms).id) (λ x. x.sigma) (λ a. name_volatilities c a product fs) (priced_params p c).buckets (priced_class p facts held bounded amounts product sizes c) b h)
