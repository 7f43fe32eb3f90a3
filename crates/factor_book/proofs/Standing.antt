-- Places: those that are sorted alike are one, and which keys stand at them.
use Rattle.std.proofs.Common.{◌≡◌, true, Option, Some, None, refl, sym, ap, ◌∙◌}
use Rattle.std.specs.Prelude.{option_map}
use Rattle.std.specs.declared.cmp.Ordering.TheVariants.{Equal}
use Rattle.std.specs.Ordering.{is_eq}
use Rattle.std.specs.Option.{unwrap_or}
use Rattle.std.specs.Cmp.{IsTotalOrder}
use Rattle.std.proofs.lemmas.Cmp.{on_total}
use Rattle.std.proofs.lemmas.Map.Lookups.{CmpEqualImpliesEq}
use Rattle.simm_rules.specs.SimmKinds.declared.kinds.ProductClass.{ProductClass}
use Rattle.simm_rules.specs.SimmKinds.declared.kinds.RiskClass.{RiskClass}
use Rattle.simm_rules.specs.SimmKinds.declared.kinds.RiskClass.TheVariants as class
use Rattle.simm_rules.specs.SimmKinds.declared.kinds.BucketId.{BucketId}
use Rattle.simm_rules.specs.SimmKinds.declared.kinds.BucketId.TheVariants as id
use Rattle.simm_rules.specs.SimmKinds.declared.bucket.Bucket.TheVariants as bucket
use Rattle.simm_rules.specs.SimmKinds.declared.factor.Factor.{Factor}
use Rattle.simm_rules.specs.SimmKinds.declared.factor.Factor.TheVariants as factor
use Rattle.simm_rules.specs.SimmKinds.declared.key.FactorKey.{FactorKey}
use Rattle.simm_rules.specs.SimmKinds.Factors.{class_of, side_of, bucket_of}
use Rattle.simm_rules.specs.declared.classes.CreditClass.TheVariants as credit
use Rattle.simm_rules.specs.declared.classes.PricedClass.TheVariants as priced
use Rattle.simm_rules.specs.Risks.{risk}
use Rattle.factor_book.specs.declared.address.Address.{Address}
use Rattle.factor_book.specs.declared.place.BookSide.{BookSide}
use Rattle.factor_book.specs.declared.place.BookSide.TheVariants as book
use Rattle.factor_book.specs.declared.place.Place.{Place}
use Rattle.factor_book.specs.declared.place.Stand.{Stand}
use Rattle.factor_book.specs.declared.place.Stand.TheVariants as stand
use Rattle.factor_book.specs.declared.slot.Slot.TheVariants as slot
use Rattle.factor_book.specs.Address.{book_side, key_address, address_cmp}
use Rattle.factor_book.specs.Place.{stand_of, place_of, stand_class, stand_side, stand_bucket, address_of, place_cmp, rates_slot, credit_slot, priced_slot, exchange_slot, slot_named}
use Rattle.factor_book.specs.Places.{stands_at}
use Rattle.factor_book.proofs.Keys.{is_eq-Equal}
use Rattle.factor_book.proofs.Addresses.{address_total, exact_addresses, own_address, tied_address, at_address}

-- ---- no two places have one address

qualifying_named : BucketId → Option Stand
qualifying_named (id.Number n) = Some (stand.Delta (slot.Credit credit.Qualifying (bucket.Number n)))
qualifying_named id.Residual = Some (stand.Delta (slot.Credit credit.Qualifying bucket.Residual))
qualifying_named (id.Currency currency) = None
qualifying_named id.Single = Some stand.BaseCorrelation

delta_named : RiskClass → BucketId → Option Stand
delta_named class.IR b = option_map stand.Delta (rates_slot b)
delta_named class.CreditQ b = qualifying_named b
delta_named class.CreditNonQ b = option_map stand.Delta (credit_slot credit.NonQualifying b)
delta_named class.Equity b = option_map stand.Delta (priced_slot priced.Equities b)
delta_named class.Commodity b = option_map stand.Delta (priced_slot priced.Commodities b)
delta_named class.FX b = option_map stand.Delta (exchange_slot b)

-- what stands at an address
named : RiskClass → BookSide → BucketId → Option Stand
named c book.Delta b = delta_named c b
named c book.Volatility b = option_map stand.Volatility (slot_named c b)

abbrev IsNamed : Stand → Type 0
IsNamed s = named (stand_class s) (stand_side s) (stand_bucket s) ≡ Some s

read_back : (s : Stand) → IsNamed s
unfolding named delta_named qualifying_named
read_back (stand.Delta (slot.Rates currency)) = refl
read_back (stand.Delta (slot.Credit credit.Qualifying (bucket.Number n))) = refl
read_back (stand.Delta (slot.Credit credit.Qualifying bucket.Residual)) = refl
read_back (stand.Delta (slot.Credit credit.NonQualifying (bucket.Number n))) = refl
read_back (stand.Delta (slot.Credit credit.NonQualifying bucket.Residual)) = refl
read_back (stand.Delta (slot.Priced priced.Equities (bucket.Number n))) = refl
read_back (stand.Delta (slot.Priced priced.Equities bucket.Residual)) = refl
read_back (stand.Delta (slot.Priced priced.Commodities (bucket.Number n))) = refl
read_back (stand.Delta (slot.Priced priced.Commodities bucket.Residual)) = refl
read_back (stand.Delta slot.Exchange) = refl
read_back stand.BaseCorrelation = refl
read_back (stand.Volatility (slot.Rates currency)) = refl
read_back (stand.Volatility (slot.Credit credit.Qualifying (bucket.Number n))) = refl
read_back (stand.Volatility (slot.Credit credit.Qualifying bucket.Residual)) = refl
read_back (stand.Volatility (slot.Credit credit.NonQualifying (bucket.Number n))) = refl
read_back (stand.Volatility (slot.Credit credit.NonQualifying bucket.Residual)) = refl
read_back (stand.Volatility (slot.Priced priced.Equities (bucket.Number n))) = refl
read_back (stand.Volatility (slot.Priced priced.Equities bucket.Residual)) = refl
read_back (stand.Volatility (slot.Priced priced.Commodities (bucket.Number n))) = refl
read_back (stand.Volatility (slot.Priced priced.Commodities bucket.Residual)) = refl
read_back (stand.Volatility slot.Exchange) = refl

pub address_exact : (p q : Place) → address_of p ≡ address_of q → p ≡ q
address_exact p q e =
    let both : Some p.stand ≡ Some q.stand = sym (read_back p.stand) ∙ (λ i. named (e i).class (e i).side (e i).bucket) ∙ read_back q.stand in
    let stand_is : p.stand ≡ q.stand = ap (λ o. unwrap_or o p.stand) both in
    λ i. record { product = (e i).product; stand = stand_is i }

pub exact_places : CmpEqualImpliesEq place_cmp
exact_places p q e = address_exact p q (exact_addresses (address_of p) (address_of q) e)

pub place_total : IsTotalOrder place_cmp
place_total = on_total address_of address_total

pub one_place : (p q : Place) → is_eq (place_cmp p q) ≡ true → p ≡ q
one_place p q e = exact_places p q (is_eq-Equal (place_cmp p q) e)

pub own_place : (p : Place) → is_eq (place_cmp p p) ≡ true
own_place p = own_address (address_of p)

pub tied_place : (q p r : Place) → place_cmp p r ≡ Equal → is_eq (place_cmp q p) ≡ is_eq (place_cmp q r)
tied_place q p r e = tied_address (address_of q) (address_of p) (address_of r) e

-- ---- of a key

abbrev address_by : ProductClass → Factor → Address
address_by c f = record { product = c; class = class_of f; side = book_side (side_of f); bucket = bucket_of f }

filed_by : (c : ProductClass) (f : Factor) → address_of (record { product = c; stand = stand_of (risk f) }) ≡ address_by c f
filed_by c (factor.IrCurve n t s) = refl
filed_by c (factor.Inflation n) = refl
filed_by c (factor.XccyBasis n) = refl
filed_by c (factor.IrVol n t) = refl
filed_by c (factor.InflationVol n t) = refl
filed_by c (factor.CreditQ i b t l) = refl
filed_by c (factor.CreditVol i b t l) = refl
filed_by c (factor.CreditNonQ i b t l) = refl
filed_by c (factor.CreditVolNonQ i b t l) = refl
filed_by c (factor.BaseCorr i) = refl
filed_by c (factor.Equity i b) = refl
filed_by c (factor.EquityVol i b t) = refl
filed_by c (factor.Commodity n b) = refl
filed_by c (factor.CommodityVol n b t) = refl
filed_by c (factor.Fx n) = refl
filed_by c (factor.FxVol p t) = refl

-- a key is filed under the address of its place
pub filed_under : (k : FactorKey) → address_of (place_of k) ≡ key_address k
filed_under k = filed_by k.product k.factor

-- a key stands at a place where the place is the key's
pub at_place : (p : Place) (k : FactorKey) → stands_at p k ≡ is_eq (place_cmp p (place_of k))
at_place p k = at_address (address_of p) k ∙ ap (λ a. is_eq (address_cmp (address_of p) a)) (sym (filed_under k))
