-- Values that are kept at the addresses of places, as one comes or goes.
use Rattle.std.proofs.Common.{◌≡◌, List, [], Bool, true, false, cond, Option, Some, None, IfSome, refl, sym, subst}
use Rattle.std.specs.Map.{lookup}
use Rattle.std.specs.BTreeMap.{is_at}
use Rattle.factor_book.specs.declared.address.Address.{Address}
use Rattle.factor_book.specs.contracts.address.AddressOrd.TheImpl as address_order
use Rattle.factor_book.specs.declared.place.Place.{Place}
use Rattle.factor_book.specs.declared.value.PlaceValue.{PlaceValue}
use Rattle.factor_book.specs.Address.{address_cmp}
use Rattle.factor_book.specs.Place.{address_of}
use Rattle.factor_book.proofs.Addresses.{one_address, updated_address}
use Rattle.kept_buckets.specs.Kept.{AreOfPlaces}

abbrev Values : Type 0
Values = List (Address × PlaceValue)

if_some : {A : Type 0} (C : Type 0) (o : Option A) → C → IfSome o (λ x. C)
if_some C None h = tt
if_some C (Some x) h = h

pub updated_filed : (old new : Values) (at : Address) (place : Place) (w : Option PlaceValue) → at ≡ address_of place
    → ((q : Address) → lookup (is_at ((address_order.cmp-value).it q)) new ≡ cond (is_at ((address_order.cmp-value).it at) q) w (lookup (is_at ((address_order.cmp-value).it q)) old))
    → AreOfPlaces old → AreOfPlaces new
updated_filed old new at place w same h f q =
    subst (λ (o : Option PlaceValue). IfSome o (λ v. (r : Place) × (address_of r ≡ q))) (sym (updated_address old new at (address_of place) w same h q)) (by (is_at (address_cmp (address_of place)) q) refl)
  where
    by : (t : Bool) → is_at (address_cmp (address_of place)) q ≡ t → IfSome (cond t w (lookup (is_at (address_cmp q)) old)) (λ v. (r : Place) × (address_of r ≡ q))
    by true e = if_some ((r : Place) × (address_of r ≡ q)) w (place, one_address (address_of place) q e)
    by false e = f q

pub none_filed : (values : Values) → values ≡ [] → AreOfPlaces values
none_filed values e = subst AreOfPlaces (sym e) (λ at. tt)
