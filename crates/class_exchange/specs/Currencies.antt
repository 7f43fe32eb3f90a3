-- The currencies of a product class among the factors of a book: where they stand, which can be measured, and how two correlate.
-- (ISDA SIMM methodology, foreign exchange risk: delta.)
use Rattle.std.specs.Prelude.{ℕ, ◌≡◌, List, [], map, slice_index_or, Option, Some, None, false, if◌then◌else◌, All, ℤ, pos}
use Rattle.std.specs.List.Sorted.{IsStrictlySortedBy}
use Rattle.measured_bucket.specs.SimmKinds.declared.kinds.ProductClass.{ProductClass}
use Rattle.measured_bucket.specs.SimmKinds.declared.key.FactorKey.{FactorKey}
use Rattle.measured_bucket.specs.SimmKinds.Order.{name_cmp}
use Rattle.measured_bucket.specs.SimmRules.Params.{Params}
use Rattle.measured_bucket.specs.SimmRules.Lookups.{six}
use Rattle.measured_bucket.specs.SimmRules.Risks.{Risk, Amount, select}
use Rattle.measured_bucket.specs.SimmRules.ForeignExchange.{as_currency, is_own_currency, fx_weight, currencies_of, weighted_currency}
use Rattle.measured_bucket.specs.SimmParams.declared.category.VolatilityCategory.{VolatilityCategory}
use Rattle.measured_bucket.specs.SimmParams.declared.category.VolatilityCategory.TheVariants.{Regular}
use Rattle.measured_bucket.specs.SimmParams.Categories.{volatility, category_rho}
use Rattle.measured_bucket.specs.FactorBook.declared.place.Place.{Place}
use Rattle.measured_bucket.specs.FactorBook.declared.place.Stand.TheVariants as stand
use Rattle.measured_bucket.specs.FactorBook.declared.slot.Slot.TheVariants as slot
use Rattle.measured_bucket.specs.FactorBook.declared.holding.Holding.{Holding}
use Rattle.measured_bucket.specs.FactorBook.Factors.{net_of}
use Rattle.measured_bucket.specs.WeightedBucket.declared.weighed.Weighed.{Weighed}
use Rattle.measured_bucket.specs.Values.{nets_in, weighed_as, IsInRange, IsSmall}
use Rattle.class_exchange.specs.declared.currencies.CurrencyNet.{CurrencyNet}

-- where they stand: there is one bucket
abbrev pub currency_place : ProductClass → Place
currency_place product = record { product = product; stand = stand.Delta slot.Exchange }

-- ---- those that have a risk

abbrev pub currencies_in : Params → ProductClass → List (FactorKey × Holding) → List (Amount (List ℕ))
currencies_in p product factors = currencies_of p (nets_in product factors)

-- the currency of a risk that is one of another currency than the calculation currency
abbrev pub unless_own : Params → Option (List ℕ) → Option (List ℕ)
unless_own p None = None
unless_own p (Some currency) = if is_own_currency p currency then None else Some currency

abbrev pub as_risky : Params → Risk → Option (List ℕ)
as_risky p risk = unless_own p (as_currency risk)

-- those among the factors of a place
abbrev pub risky_nets : Params → List (FactorKey × Holding) → List (Amount (List ℕ))
risky_nets p factors = select (as_risky p) (map net_of factors)

-- those that can be measured: different ones in order, in range
pub record AreRisky (p : Params) (amounts : List (Amount (List ℕ))) : Type 0 where
  pub ascends : IsStrictlySortedBy name_cmp (map (λ a. a.of) amounts)
  pub range : IsInRange (fx_weight p) amounts

-- a currency's factor, weighed
abbrev pub weighed_currency : Params → Amount (List ℕ) → Weighed
weighed_currency p a = weighed_as (weighted_currency p a)

-- ---- as the code has them

-- with its category
abbrev pub currency_net : Params → Amount (List ℕ) → CurrencyNet
currency_net p a = record { currency = a.of; category = volatility p a.of; net = a.amount }

abbrev pub currency_view : CurrencyNet → Amount (List ℕ)
currency_view n = record { of = n.currency; amount = n.net }

abbrev pub currencies_view : List CurrencyNet → List (Amount (List ℕ))
currencies_view nets = map currency_view nets

-- a currency other than the calculation currency, with its category
pub record IsRisky (p : Params) (n : CurrencyNet) : Type 0 where
  pub other : is_own_currency p n.currency ≡ false
  pub category : n.category ≡ volatility p n.currency

-- those that can be measured: different ones in order, in range
pub record AreCurrencies (p : Params) (nets : List CurrencyNet) : Type 0 where
  pub ascends : IsStrictlySortedBy name_cmp (map (λ a. a.of) (currencies_view nets))
  pub range : IsInRange (fx_weight p) (currencies_view nets)
  pub risky : All (IsRisky p) nets

-- one that can be weighed
pub record CanWeigh (p : Params) (n : CurrencyNet) : Type 0 where
  pub risky : IsRisky p n
  pub small : IsSmall (fx_weight p n.currency) n.net

-- ---- the correlation of two

-- of these categories, in millionths
abbrev pub rho_of : Params → VolatilityCategory → VolatilityCategory → ℤ
rho_of p a b = six (category_rho p a b)

-- of those at two places
abbrev pub net_at : List CurrencyNet → ℕ → CurrencyNet
net_at nets i = slice_index_or nets i (record { currency = []; category = Regular; net = pos 0 })

abbrev pub rho_at : Params → List CurrencyNet → ℕ → ℕ → ℤ
rho_at p nets i j = rho_of p (net_at nets i).category (net_at nets j).category
