-- The factors of a book place by place.
use Rattle.std.specs.Prelude.{List, map, Bool, ◌&&◌}
use Rattle.std.specs.List.{filter}
use Rattle.simm_rules.specs.SimmKinds.declared.kinds.ProductClass.{ProductClass}
use Rattle.simm_rules.specs.SimmKinds.declared.kinds.RiskClass.{RiskClass}
use Rattle.simm_rules.specs.SimmKinds.declared.key.FactorKey.{FactorKey}
use Rattle.simm_rules.specs.SimmKinds.Factors.{class_of, side_of}
use Rattle.simm_rules.specs.SimmKinds.Order.{same_product, same_class}
use Rattle.simm_rules.specs.Sums.{different}
use Rattle.factor_book.specs.declared.address.Address.{Address}
use Rattle.factor_book.specs.declared.holding.Holding.{Holding}
use Rattle.factor_book.specs.declared.place.BookSide.{BookSide}
use Rattle.factor_book.specs.declared.place.Place.{Place}
use Rattle.factor_book.specs.Address.{book_side, same_side, is_filed_at}
use Rattle.factor_book.specs.Place.{address_of, place_of, place_cmp, stand_class, stand_side}

-- the key is of the place's product class, of its risk class and side, and of its bucket
abbrev pub stands_at : Place → FactorKey → Bool
stands_at place k = is_filed_at (address_of place) k

-- those that stand at a place, in their order
abbrev pub factors_at : Place → List (FactorKey × Holding) → List (FactorKey × Holding)
factors_at place factors = filter (λ f. stands_at place f.0) factors

-- a place with its factors, as a book lends it
pub record Lent : Type 0 where
  pub place : Place
  pub factors : List (FactorKey × Holding)

abbrev pub lent_at : List (FactorKey × Holding) → Place → Lent
lent_at factors place = record { place = place; factors = factors_at place factors }

-- the different places of the factors, in order
abbrev pub places_of : List (FactorKey × Holding) → List Place
places_of factors = different place_cmp (map (λ f. place_of f.0) factors)

-- each place with its factors
abbrev pub by_place : List (FactorKey × Holding) → List Lent
by_place factors = map (lent_at factors) (places_of factors)

-- behind what it is sorted by
abbrev pub addressed : Lent → Address × Lent
addressed lent = (address_of lent.place, lent)

-- ---- those of a side of a risk class in a product class

abbrev pub is_on : ProductClass → RiskClass → BookSide → Place → Bool
is_on product class side place =
    same_product place.product product && (same_class (stand_class place.stand) class && same_side (stand_side place.stand) side)

abbrev pub by_side : ProductClass → RiskClass → BookSide → List (FactorKey × Holding) → List Lent
by_side product class side factors = filter (λ lent. is_on product class side lent.place) (by_place factors)

-- whether a key is one
abbrev pub is_key_on : ProductClass → RiskClass → BookSide → FactorKey → Bool
is_key_on product class side k =
    same_product k.product product && (same_class (class_of k.factor) class && same_side (book_side (side_of k.factor)) side)
