-- How the factors of a book are filed: by the address of their place, and there by key. Nobody who reads a book has to read this.
use Rattle.std.specs.Prelude.{ℕ, ◌≡◌, ◌≢◌, ◌+◌, ◌*◌, ◌^◌, ◌<◌, Bool, ◌&&◌, List, [], ◌∷◌, ◌++◌, length, cond, map, Option, Some, None, IsSome, IfSome, ℤ}
use Rattle.std.specs.List.{filter, flat_map, AllByRecursion}
use Rattle.std.specs.List.Sorted.{IsStrictlySortedBy}
use Rattle.std.specs.Map.{lookup, keys_of}
use Rattle.std.specs.BTreeMap.{insert_entry, is_at}
use Rattle.simm_rules.specs.SimmKinds.declared.key.FactorKey.{FactorKey}
use Rattle.simm_rules.specs.SimmKinds.Order.{product_place, class_place, same_product, same_class, same_key, key_cmp}
use Rattle.simm_rules.specs.SimmKinds.declared.kinds.BucketId.TheVariants as id
use Rattle.simm_rules.specs.Sums.{different}
use Rattle.simm_rules.specs.Net.{Sensitivity}
use Rattle.factor_book.specs.declared.address.Address.{Address}
use Rattle.factor_book.specs.declared.holding.Holding.{Holding}
use Rattle.factor_book.specs.declared.filing.Left.{Left}
use Rattle.factor_book.specs.declared.filing.Left.TheVariants as left
use Rattle.factor_book.specs.Address.{key_address, book_side_place, address_cmp, same_side, is_filed_at}
use Rattle.factor_book.specs.Place.{address_of}
use Rattle.factor_book.specs.Places.{Lent}
use Rattle.factor_book.specs.Holdings.{IsSmall, shrunk}
use Rattle.factor_book.specs.Factors.{factors_in}

-- the factors that are sorted in at an address
abbrev pub filed_at : Address → List (FactorKey × Holding) → List (FactorKey × Holding)
filed_at at factors = filter (λ f. is_filed_at at f.0) factors

abbrev pub addresses_of : List (FactorKey × Holding) → List Address
addresses_of factors = different address_cmp (map (λ f. key_address f.0) factors)

abbrev pub by_address : List (FactorKey × Holding) → List (Address × List (FactorKey × Holding))
by_address factors = map (λ at. (at, filed_at at factors)) (addresses_of factors)

-- ---- what is filed

-- the factors of each place, by its address
abbrev pub factors_by : List (Address × Lent) → List (Address × List (FactorKey × Holding))
factors_by filed = map (λ e. (e.0, (e.1).factors)) filed

-- each place is filed at its address
abbrev pub AreAddressed : List (Address × Lent) → Type 0
AreAddressed filed = (at : Address) → IfSome (lookup (is_at (address_cmp at)) filed) (λ lent. address_of lent.place ≡ at)

-- what the sensitivities to the key come to in its place
abbrev pub found_in : Option (List (FactorKey × Holding)) → FactorKey → Option Holding
found_in None k = None
found_in (Some factors) k = lookup (same_key k) factors

abbrev pub found : List (Address × List (FactorKey × Holding)) → FactorKey → Option Holding
found filed k = found_in (lookup (is_at (address_cmp (key_address k))) filed) k

-- these factors are in order, and each has the place
pub record StandAt (place : Address) (factors : List (FactorKey × Holding)) : Type 0 where
  pub ordered : IsStrictlySortedBy key_cmp (keys_of factors)
  pub placed : (k : FactorKey) → IsSome (lookup (same_key k) factors) → key_address k ≡ place

-- and there is one at least
pub record FillPlace (place : Address) (factors : List (FactorKey × Holding)) : Type 0 where
  pub stand : StandAt place factors
  pub some : factors ≢ []

-- places are in order, each has a factor, and each factor stands at its place
pub record AreFiled (filed : List (Address × List (FactorKey × Holding))) : Type 0 where
  pub ordered : IsStrictlySortedBy address_cmp (keys_of filed)
  pub placed : (place : Address) → IfSome (lookup (is_at (address_cmp place)) filed) (FillPlace place)

-- entries in key order
abbrev pub in_order : List (FactorKey × Holding) → List (FactorKey × Holding)
in_order [] = []
in_order (e ∷ es) = insert_entry key_cmp (in_order es) e.0 e.1

-- all factors, in key order
abbrev pub gathered : List (Address × List (FactorKey × Holding)) → List (FactorKey × Holding)
gathered filed = in_order (flat_map (λ e. e.1) filed)

abbrev pub AreSmall : List Sensitivity → Type 0
AreSmall ss = AllByRecursion (λ s. IsSmall s.amount) ss

-- the factors are those of some sensitivities
pub record AreNetted (factors : List (FactorKey × Holding)) : Type 0 where
  pub held : List Sensitivity
  pub are : factors ≡ factors_in held
  pub amounts : AreSmall held

-- the places are filed at their addresses, each with its factors
pub record ArePlaced (filed : List (Address × Lent)) : Type 0 where
  pub filing : AreFiled (factors_by filed)
  pub addressed : AreAddressed filed

pub record IsFiledBook (filed : List (Address × List (FactorKey × Holding))) (keys : ℕ) : Type 0 where
  pub filing : AreFiled filed
  pub netted : AreNetted (gathered filed)
  pub counted : keys ≡ length (gathered filed)

pub record IsPlacedBook (filed : List (Address × Lent)) (keys : ℕ) : Type 0 where
  pub book : IsFiledBook (factors_by filed) keys
  pub addressed : AreAddressed filed

-- there is room for these sensitivities
pub record HasRoomFor (more : List Sensitivity) (factors : List (FactorKey × Holding)) : Type 0 where
  pub held : List Sensitivity
  pub are : factors ≡ factors_in held
  pub few : length held + length more < 2 ^ 32

-- these sensitivities are among those that are held
pub record Holds (taken : List Sensitivity) (factors : List (FactorKey × Holding)) : Type 0 where
  pub others : List Sensitivity
  pub are : factors ≡ factors_in (taken ++ others)
  pub amounts : AreSmall (taken ++ others)

-- What is left of what had been found of a key, and of the factors of its place
abbrev pub Leaves : Left → Option Holding → List (FactorKey × Holding) → Type 0
Leaves left.Key h factors = IsSome h
Leaves left.Others h factors = (h ≡ None) × (factors ≢ [])
Leaves left.Nothing h factors = (h ≡ None) × (factors ≡ [])

-- A sensitivity was taken at its place: what stands there now, and that nothing else has changed.
pub record TakesAt (old new : List (Address × List (FactorKey × Holding))) (key : FactorKey) (amount : ℤ) (rest : Left) : Type 0 where
  pub factors : List (FactorKey × Holding)
  pub ordered : IsStrictlySortedBy address_cmp (keys_of new)
  pub update : (q : Address) → lookup (is_at (address_cmp q)) new ≡ cond (is_at (address_cmp (key_address key)) q) (Some factors) (lookup (is_at (address_cmp q)) old)
  pub stand : StandAt (key_address key) factors
  pub taken : (k : FactorKey) → lookup (same_key k) factors
      ≡ cond (same_key key k) (shrunk (found old key) amount) (found_in (lookup (is_at (address_cmp (key_address key))) old) k)
  pub leaves : Leaves rest (shrunk (found old key) amount) factors

-- and each place is filed at its address still
pub record TakesPlaced (old new : List (Address × Lent)) (key : FactorKey) (amount : ℤ) (rest : Left) : Type 0 where
  pub takes : TakesAt (factors_by old) (factors_by new) key amount rest
  pub addressed : AreAddressed new

-- ---- the addresses of a side stand together

-- the last that a side may have: no bucket comes after `Single`
abbrev pub last_of : Address → Address
last_of at = record { product = at.product; class = at.class; side = at.side; bucket = id.Single }

-- whether it is of the side of an address
abbrev pub is_of : Address → Address → Bool
is_of at place = same_product place.product at.product && (same_class place.class at.class && same_side place.side at.side)

-- how many sides stand before it
abbrev pub sides_before : Address → ℕ
sides_before at = product_place at.product * 12 + (class_place at.class * 2 + book_side_place at.side)
