-- The names of a bucket of equity or of commodities, and their volatilities, among the factors of a book: where they stand, and which
-- can be measured.
-- (ISDA SIMM methodology, equity and commodity risk.)
use Rattle.std.specs.Prelude.{ℕ, List, map, Option, Some, None, ℤ}
use Rattle.std.specs.declared.cmp.Ordering.{Ordering}
use Rattle.std.specs.Ordering.{nat_cmp, ordering_then}
use Rattle.std.specs.List.Sorted.{IsStrictlySortedBy}
use Rattle.measured_bucket.specs.SimmKinds.declared.kinds.ProductClass.{ProductClass}
use Rattle.measured_bucket.specs.SimmKinds.declared.bucket.Bucket.{Bucket}
use Rattle.measured_bucket.specs.SimmKinds.declared.key.FactorKey.{FactorKey}
use Rattle.measured_bucket.specs.SimmKinds.Order.{name_cmp, tenor_place}
use Rattle.measured_bucket.specs.SimmRules.Risks.{Risk, Of_rate, Of_rate_volatility, Of_credit, Of_credit_volatility, Of_base_correlation, Of_price, Of_price_volatility, Of_currency, Of_pair_volatility, Amount, select}
use Rattle.measured_bucket.specs.SimmRules.declared.classes.PricedClass.{PricedClass}
use Rattle.measured_bucket.specs.SimmRules.Priced.{NameVolatility, as_price, as_price_volatility}
use Rattle.measured_bucket.specs.FactorBook.declared.place.Place.{Place}
use Rattle.measured_bucket.specs.FactorBook.declared.place.Stand.TheVariants as stand
use Rattle.measured_bucket.specs.FactorBook.declared.slot.Slot.TheVariants as slot
use Rattle.measured_bucket.specs.FactorBook.declared.holding.Holding.{Holding}
use Rattle.measured_bucket.specs.FactorBook.Factors.{net_of}
use Rattle.measured_bucket.specs.Runs.{AreRunsInRange}
use Rattle.measured_bucket.specs.Values.{nets_in, IsInRange}
use Rattle.class_priced.specs.declared.names.NameNet.{NameNet}

-- ---- where they stand

abbrev pub names_place : PricedClass → Bucket → ProductClass → Place
names_place class at product = record { product = product; stand = stand.Delta (slot.Priced class at) }

abbrev pub volatilities_place : PricedClass → Bucket → ProductClass → Place
volatilities_place class at product = record { product = product; stand = stand.Volatility (slot.Priced class at) }

-- ---- their nets, in key order

abbrev pub names_in : PricedClass → Bucket → ProductClass → List (FactorKey × Holding) → List (Amount (List ℕ))
names_in class at product factors = select (as_price class at) (nets_in product factors)

abbrev pub volatilities_in : PricedClass → Bucket → ProductClass → List (FactorKey × Holding) → List (Amount NameVolatility)
volatilities_in class at product factors = select (as_price_volatility class at) (nets_in product factors)

-- the name that a risk is of, and the volatility of a name, in whichever bucket
abbrev pub as_name : Risk → Option (List ℕ)
as_name (Of_rate currency rate) = None
as_name (Of_rate_volatility currency v) = None
as_name (Of_credit class b point) = None
as_name (Of_credit_volatility class b point) = None
as_name (Of_base_correlation index) = None
as_name (Of_price class b name) = Some name
as_name (Of_price_volatility class b name tenor) = None
as_name (Of_currency currency) = None
as_name (Of_pair_volatility pair tenor) = None

abbrev pub as_name_volatility : Risk → Option NameVolatility
as_name_volatility (Of_rate currency rate) = None
as_name_volatility (Of_rate_volatility currency v) = None
as_name_volatility (Of_credit class b point) = None
as_name_volatility (Of_credit_volatility class b point) = None
as_name_volatility (Of_base_correlation index) = None
as_name_volatility (Of_price class b name) = None
as_name_volatility (Of_price_volatility class b name tenor) = Some (record { name = name; tenor = tenor })
as_name_volatility (Of_currency currency) = None
as_name_volatility (Of_pair_volatility pair tenor) = None

abbrev pub name_nets : List (FactorKey × Holding) → List (Amount (List ℕ))
name_nets factors = select as_name (map net_of factors)

abbrev pub volatility_nets : List (FactorKey × Holding) → List (Amount NameVolatility)
volatility_nets factors = select as_name_volatility (map net_of factors)

-- names that can be measured: different ones in order, in range by this weight
pub record AreNames (weight : ℤ) (names : List (Amount (List ℕ))) : Type 0 where
  pub ascends : IsStrictlySortedBy name_cmp (map (λ a. a.of) names)
  pub range : IsInRange (λ _. weight) names

-- ---- the order of their volatilities: by name and tenor

abbrev pub name_volatility_cmp : NameVolatility → NameVolatility → Ordering
name_volatility_cmp x y =
    ordering_then (name_cmp x.name y.name) (nat_cmp (tenor_place x.tenor) (tenor_place y.tenor))

-- those that can be measured: different ones in order, in range at this volatility
pub record AreNameVolatilities (sigma : ℤ) (amounts : List (Amount NameVolatility)) : Type 0 where
  pub ascends : IsStrictlySortedBy name_volatility_cmp (map (λ a. a.of) amounts)
  pub range : AreRunsInRange (λ _. sigma) amounts

-- ---- as the code has them

abbrev pub name_view : NameNet → Amount (List ℕ)
name_view n = record { of = n.name.now; amount = n.net }

abbrev pub names_view : List NameNet → List (Amount (List ℕ))
names_view nets = map name_view nets
