-- What the parts of a class come to: those of currencies, and parts without sensitivities.
use Rattle.std.proofs.Common.{◌≡◌, ℕ, List, [], ◌∷◌, map, Bool, false, refl, ap, ◌∙◌, ℤ, pos}
use Rattle.std.specs.List.{filter}
use Rattle.class_rates.specs.MhUnits.Rounding.{clamp}
use Rattle.class_rates.proofs.MhUnits.Roundings.{root_square}
use Rattle.class_rates.specs.SimmKinds.declared.bucket.Bucket.{Bucket}
use Rattle.class_rates.specs.SimmKinds.Order.{same_name, same_pair}
use Rattle.class_rates.specs.SimmRules.declared.values.BucketMargin.{BucketMargin}
use Rattle.class_rates.specs.SimmRules.Params.{Params, CreditBucket, PricedBucket, CreditParams, PricedParams}
use Rattle.class_rates.specs.SimmRules.Net.{Sensitivity}
use Rattle.class_rates.specs.SimmRules.Risks.{select}
use Rattle.class_rates.specs.SimmRules.declared.classes.CreditClass.{CreditClass}
use Rattle.class_rates.specs.SimmRules.declared.classes.PricedClass.{PricedClass}
use Rattle.class_rates.specs.SimmRules.Concentration.{one}
use Rattle.class_rates.specs.SimmRules.Bucket.{Weighted, concentrated, bucket_value}
use Rattle.class_rates.specs.SimmRules.Across.{Part, outer, margin_over}
use Rattle.class_rates.specs.SimmRules.Rates.{volatilities_in, volatility_currencies, currency_vega_value, across_currencies, rate_vega}
use Rattle.class_rates.specs.SimmRules.Credit.{as_credit_volatility, same_point, credit_rho, listed_credit, credit_vega_value, credit_vega_parts, credit_vega}
use Rattle.class_rates.specs.SimmRules.ForeignExchange.{as_pair_volatility, pair_rho, fx_vega_value, fx_vega}
use Rattle.class_rates.specs.SimmRules.Priced.{as_price_volatility, name_rho, listed_priced, price_vega_value, price_vega_parts, price_vega}
use Rattle.class_margin.specs.Parts.{as_parts}
use Rattle.class_margin.specs.rates_delta.Parts.{margin_over as over_currencies}
use Rattle.class_rates.proofs.MeasuredBucket.Lists.{each_always, each_map}
use Rattle.class_margin.proofs.names_delta.Empty.{no_value, kept_margin}
use Rattle.class_margin.specs.vega.Combine.{currency_buckets}

-- ---- currencies

module _ (p : Params) (ss : List Sensitivity) where
  abbrev value_at : List ℕ → BucketMargin
  value_at currency = currency_vega_value p currency (volatilities_in currency ss)

  parts_at : (currencies : List (List ℕ)) → as_parts (map {B = List ℕ × BucketMargin} (λ currency. (currency, value_at currency)) currencies) ≡ map (λ currency. record { at = currency; value = value_at currency }) currencies
  parts_at [] = refl
  parts_at (currency ∷ currencies) = ap (λ rest. record { at = currency; value = value_at currency } ∷ rest) (parts_at currencies)

  pub whole : over_currencies p (currency_buckets p ss) ≡ rate_vega p ss
  whole = ap (outer same_name (across_currencies p)) (parts_at (volatility_currencies ss))

-- ---- parts without sensitivities

value-none : {A : Type 0} (corr : Weighted A → Weighted A → ℤ) → bucket_value corr one [] ≡ no_value
value-none corr = ap with_root (root_square (pos 0))
  where
    with_root : ℤ → BucketMargin
    with_root k = record { q = pos 0; k = k; s = clamp (pos 0) k; sum = pos 0; gross = pos 0; cr = record { 0 = one } }

pub credit_kept : (c : CreditParams) (class : CreditClass) (ss : List Sensitivity) (test : Bucket → Bool) → ((b : Bucket) → test b ≡ false → select (as_credit_volatility class b) ss ≡ []) → margin_over (listed_credit c) c.gamma (filter (λ part. test part.at) (credit_vega_parts c class ss)) ≡ credit_vega c class ss
credit_kept c class ss test empty =
    let part : CreditBucket → Part Bucket = λ b. record { at = (b.terms).id; value = credit_vega_value b (select (as_credit_volatility class (b.terms).id) ss) } in
    kept_margin (λ (p : Part Bucket). test p.at) (listed_credit c) c.gamma (credit_vega_parts c class ss)
    (each_map (λ (p : Part Bucket). test p.at ≡ false → p.value ≡ no_value) part c.buckets
    (each_always (λ (b : CreditBucket). test (b.terms).id ≡ false → credit_vega_value b (select (as_credit_volatility class (b.terms).id) ss) ≡ no_value)
    (λ b e. ap (credit_vega_value b) (empty (b.terms).id e) ∙ value-none (concentrated same_point (credit_rho b))) c.buckets))

pub priced_kept : (c : PricedParams) (class : PricedClass) (ss : List Sensitivity) (test : Bucket → Bool) → ((b : Bucket) → test b ≡ false → select (as_price_volatility class b) ss ≡ []) → margin_over (listed_priced c) c.gamma (filter (λ part. test part.at) (price_vega_parts c class ss)) ≡ price_vega c class ss
priced_kept c class ss test empty =
    let part : PricedBucket → Part Bucket = λ b. record { at = (b.terms).id; value = price_vega_value c.hvr b (select (as_price_volatility class (b.terms).id) ss) } in
    kept_margin (λ (p : Part Bucket). test p.at) (listed_priced c) c.gamma (price_vega_parts c class ss)
    (each_map (λ (p : Part Bucket). test p.at ≡ false → p.value ≡ no_value) part c.buckets
    (each_always (λ (b : PricedBucket). test (b.terms).id ≡ false → price_vega_value c.hvr b (select (as_price_volatility class (b.terms).id) ss) ≡ no_value)
    (λ b e. ap (price_vega_value c.hvr b) (empty (b.terms).id e) ∙ value-none (concentrated same_name (name_rho b))) c.buckets))

pub pairs_none : (p : Params) (ss : List Sensitivity) → select as_pair_volatility ss ≡ [] → fx_vega p ss ≡ pos 0
pairs_none p ss e = ap (λ amounts. (fx_vega_value p amounts).k) e ∙ ap (λ (v : BucketMargin). v.k) (value-none (concentrated same_pair (pair_rho p)))
