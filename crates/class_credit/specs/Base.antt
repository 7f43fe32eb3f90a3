-- The index families of a product class among the factors of a book.
-- (ISDA SIMM methodology, base correlation margin.)
use Rattle.std.specs.Prelude.{ℕ, ◌^◌, List, map, ℤ, pos, ◌*ℤ◌}
use Rattle.std.specs.List.Sorted.{IsStrictlySortedBy}
use Rattle.measured_bucket.specs.MhUnits.Rounding.{away}
use Rattle.measured_bucket.specs.SimmKinds.declared.kinds.ProductClass.{ProductClass}
use Rattle.measured_bucket.specs.SimmKinds.declared.key.FactorKey.{FactorKey}
use Rattle.measured_bucket.specs.SimmKinds.Order.{name_cmp}
use Rattle.measured_bucket.specs.SimmRules.Params.{Params}
use Rattle.measured_bucket.specs.SimmRules.Risks.{Amount, select}
use Rattle.measured_bucket.specs.SimmRules.Concentration.{one}
use Rattle.measured_bucket.specs.SimmRules.BaseCorrelation.{as_index}
use Rattle.measured_bucket.specs.FactorBook.declared.place.Place.{Place}
use Rattle.measured_bucket.specs.FactorBook.declared.place.Stand.TheVariants as stand
use Rattle.measured_bucket.specs.FactorBook.declared.holding.Holding.{Holding}
use Rattle.measured_bucket.specs.FactorBook.Factors.{net_of}
use Rattle.measured_bucket.specs.WeightedBucket.declared.weighed.Weighed.{Weighed}
use Rattle.measured_bucket.specs.Values.{nets_in, IsInRange}
use Rattle.class_credit.specs.declared.base.IndexNet.{IndexNet}

-- where they stand: there is one bucket
abbrev pub base_place : ProductClass → Place
base_place product = record { product = product; stand = stand.BaseCorrelation }

abbrev pub indices_of : ProductClass → List (FactorKey × Holding) → List (Amount (List ℕ))
indices_of product factors = select as_index (nets_in product factors)

-- those among the factors of a place
abbrev pub index_nets : List (FactorKey × Holding) → List (Amount (List ℕ))
index_nets factors = select as_index (map net_of factors)

abbrev pub index_weight : Params → List ℕ → ℤ
index_weight p index = p.base_weight

-- the net of an index family, weighed
abbrev pub weighed_net : ℤ → ℤ → Weighed
weighed_net weight net = record { w = away (weight *ℤ net) (pos (10 ^ 4)); cr = record { 0 = one } }

-- those that can be measured: different ones in order, in range
pub record AreIndices (p : Params) (indices : List (Amount (List ℕ))) : Type 0 where
  pub ascends : IsStrictlySortedBy name_cmp (map (λ a. a.of) indices)
  pub range : IsInRange (index_weight p) indices

-- ---- as the code has them

abbrev pub index_view : IndexNet → Amount (List ℕ)
index_view n = record { of = n.index.now; amount = n.net }

abbrev pub indices_view : List IndexNet → List (Amount (List ℕ))
indices_view nets = map index_view nets
