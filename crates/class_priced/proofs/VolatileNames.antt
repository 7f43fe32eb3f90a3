-- Volatilities of names that have a price: where they stand, and in which order.
use Rattle.std.proofs.Common.{◌≡◌, ℕ, List, [], ◌∷◌, map, true, false, Some, None, refl, sym, ap, ◌∙◌}
use Rattle.std.specs.declared.cmp.Ordering.{Ordering}
use Rattle.std.specs.declared.cmp.Ordering.TheVariants.{Less, Equal}
use Rattle.std.specs.Ordering.{nat_cmp, ordering_then}
use Rattle.std.specs.List.Sorted.{IsStrictlySortedBy}
use Rattle.std.proofs.lemmas.Cmp.{nat_list_cmp_total}
use Rattle.std.proofs.lemmas.Map.Lookups.{exact_bytes}
use Rattle.measured_bucket.specs.SimmKinds.declared.kinds.ProductClass.{ProductClass}
use Rattle.measured_bucket.specs.SimmKinds.declared.kinds.BucketId.TheVariants as id
use Rattle.measured_bucket.specs.SimmKinds.declared.bucket.Bucket.{Bucket}
use Rattle.measured_bucket.specs.SimmKinds.declared.bucket.Bucket.TheVariants as bucket
use Rattle.measured_bucket.specs.SimmKinds.declared.factor.Factor.{Factor}
use Rattle.measured_bucket.specs.SimmKinds.declared.factor.Factor.TheVariants as factor
use Rattle.measured_bucket.specs.SimmKinds.declared.key.FactorKey.{FactorKey}
use Rattle.measured_bucket.specs.SimmKinds.Factors.{bucket_id_of}
use Rattle.measured_bucket.specs.SimmKinds.Order.{same_product, key_cmp, name_cmp, same_name, tenor_place, bucket_numbers, same_bucket, same_bucket_id}
use Rattle.measured_bucket.specs.SimmRules.Risks.{risk, Amount}
use Rattle.measured_bucket.specs.SimmRules.declared.classes.PricedClass.{PricedClass}
use Rattle.measured_bucket.specs.SimmRules.declared.classes.PricedClass.TheVariants.{Equities, Commodities}
use Rattle.measured_bucket.specs.SimmRules.Priced.{NameVolatility, as_price_volatility}
use Rattle.measured_bucket.specs.FactorBook.declared.holding.Holding.{Holding}
use Rattle.measured_bucket.specs.FactorBook.Factors.{IsBook}
use Rattle.measured_bucket.specs.FactorBook.Places.{stands_at, factors_at}
use Rattle.measured_bucket.proofs.Keys.{then_Equal, and_last, and_other, and_side, and_bucket, key_with, by_factor, bucket_ids, tied_buckets, chosen, not_chosen}
use Rattle.measured_bucket.proofs.Lists.{map-itself}
use Rattle.measured_bucket.proofs.OverTenors.{Things, volatility_cmp}
use Rattle.measured_bucket.proofs.Selected.{issuers_place, select_ascends}
use Rattle.class_priced.specs.Names.{volatilities_place, volatilities_in, as_name_volatility, volatility_nets}

-- ---- which factors they are

record IsEquity (at : Bucket) (f : Factor) (x : NameVolatility) : Type 0 where
  of : Bucket
  is : f ≡ factor.EquityVol x.name of x.tenor
  inside : same_bucket of at ≡ true

record IsCommodity (at : Bucket) (f : Factor) (x : NameVolatility) : Type 0 where
  of : ℕ
  is : f ≡ factor.CommodityVol x.name of x.tenor
  inside : same_bucket (bucket.Number of) at ≡ true

is_equity : (at : Bucket) (f : Factor) (x : NameVolatility) → as_price_volatility Equities at (risk f) ≡ Some x → IsEquity at f x
is_equity at (factor.IrCurve n t s) x h = absurd (cc)
is_equity at (factor.Inflation n) x h = absurd (cc)
is_equity at (factor.XccyBasis n) x h = absurd (cc)
is_equity at (factor.IrVol n t) x h = absurd (cc)
is_equity at (factor.InflationVol n t) x h = absurd (cc)
is_equity at (factor.CreditQ i b t l) x h = absurd (cc)
is_equity at (factor.CreditVol i b t l) x h = absurd (cc)
is_equity at (factor.CreditNonQ i b t l) x h = absurd (cc)
is_equity at (factor.CreditVolNonQ i b t l) x h = absurd (cc)
is_equity at (factor.BaseCorr i) x h = absurd (cc)
is_equity at (factor.Equity i b) x h = absurd (cc)
is_equity at (factor.EquityVol i b t) x h =
    let both = chosen (same_bucket b at) (record { name = i; tenor = t }) x h in
    record { of = b; is = ap (λ (z : NameVolatility). factor.EquityVol z.name b z.tenor) both.1; inside = both.0 }
is_equity at (factor.Commodity n b) x h = absurd (cc)
is_equity at (factor.CommodityVol n b t) x h = absurd (cc)
is_equity at (factor.Fx n) x h = absurd (cc)
is_equity at (factor.FxVol p t) x h = absurd (cc)

is_commodity : (at : Bucket) (f : Factor) (x : NameVolatility) → as_price_volatility Commodities at (risk f) ≡ Some x → IsCommodity at f x
is_commodity at (factor.IrCurve n t s) x h = absurd (cc)
is_commodity at (factor.Inflation n) x h = absurd (cc)
is_commodity at (factor.XccyBasis n) x h = absurd (cc)
is_commodity at (factor.IrVol n t) x h = absurd (cc)
is_commodity at (factor.InflationVol n t) x h = absurd (cc)
is_commodity at (factor.CreditQ i b t l) x h = absurd (cc)
is_commodity at (factor.CreditVol i b t l) x h = absurd (cc)
is_commodity at (factor.CreditNonQ i b t l) x h = absurd (cc)
is_commodity at (factor.CreditVolNonQ i b t l) x h = absurd (cc)
is_commodity at (factor.BaseCorr i) x h = absurd (cc)
is_commodity at (factor.Equity i b) x h = absurd (cc)
is_commodity at (factor.EquityVol i b t) x h = absurd (cc)
is_commodity at (factor.Commodity n b) x h = absurd (cc)
is_commodity at (factor.CommodityVol n b t) x h =
    let both = chosen (same_bucket (bucket.Number b) at) (record { name = n; tenor = t }) x h in
    record { of = b; is = ap (λ (z : NameVolatility). factor.CommodityVol z.name b z.tenor) both.1; inside = both.0 }
is_commodity at (factor.Fx n) x h = absurd (cc)
is_commodity at (factor.FxVol p t) x h = absurd (cc)

-- ---- where they stand

stands : (class : PricedClass) (at : Bucket) (product : ProductClass) (k : FactorKey) (x : NameVolatility) → as_price_volatility class at (risk k.factor) ≡ Some x → stands_at (volatilities_place class at product) k ≡ same_product k.product product
stands Equities at product k x e =
    let i = is_equity at k.factor x e in
    ap (λ f. stands_at (volatilities_place Equities at product) (key_with k.product f)) i.is
    ∙ and_last (same_product k.product product) (same_bucket_id (bucket_id_of i.of) (bucket_id_of at)) (bucket_ids i.of at ∙ i.inside)
stands Commodities at product k x e =
    let i = is_commodity at k.factor x e in
    ap (λ f. stands_at (volatilities_place Commodities at product) (key_with k.product f)) i.is
    ∙ and_last (same_product k.product product) (same_bucket_id (bucket_id_of (bucket.Number i.of)) (bucket_id_of at)) (bucket_ids (bucket.Number i.of) at ∙ i.inside)

-- it is the volatility of its risk
itself : (class : PricedClass) (at : Bucket) (f : Factor) (x : NameVolatility) → as_price_volatility class at (risk f) ≡ Some x → as_name_volatility (risk f) ≡ Some x
itself Equities at f x e = ap (λ g. as_name_volatility (risk g)) (is_equity at f x e).is
itself Commodities at f x e = ap (λ g. as_name_volatility (risk g)) (is_commodity at f x e).is

elsewhere : (class : PricedClass) (at : Bucket) (product c : ProductClass) (f : Factor) → as_price_volatility class at (risk f) ≡ None → stands_at (volatilities_place class at product) (key_with c f) ≡ false
elsewhere Equities at product c (factor.IrCurve n t s) h = and_other (same_product c product) false (same_bucket_id (id.Currency n) (bucket_id_of at))
elsewhere Equities at product c (factor.Inflation n) h = and_other (same_product c product) false (same_bucket_id (id.Currency n) (bucket_id_of at))
elsewhere Equities at product c (factor.XccyBasis n) h = and_other (same_product c product) false (same_bucket_id (id.Currency n) (bucket_id_of at))
elsewhere Equities at product c (factor.IrVol n t) h = and_other (same_product c product) true (same_bucket_id (id.Currency n) (bucket_id_of at))
elsewhere Equities at product c (factor.InflationVol n t) h = and_other (same_product c product) true (same_bucket_id (id.Currency n) (bucket_id_of at))
elsewhere Equities at product c (factor.CreditQ i b t l) h = and_other (same_product c product) false (same_bucket_id (bucket_id_of b) (bucket_id_of at))
elsewhere Equities at product c (factor.CreditVol i b t l) h = and_other (same_product c product) true (same_bucket_id (bucket_id_of b) (bucket_id_of at))
elsewhere Equities at product c (factor.CreditNonQ i b t l) h = and_other (same_product c product) false (same_bucket_id (bucket_id_of b) (bucket_id_of at))
elsewhere Equities at product c (factor.CreditVolNonQ i b t l) h = and_other (same_product c product) true (same_bucket_id (bucket_id_of b) (bucket_id_of at))
elsewhere Equities at product c (factor.BaseCorr i) h = and_other (same_product c product) false (same_bucket_id id.Single (bucket_id_of at))
elsewhere Equities at product c (factor.Equity i b) h = and_side (same_product c product) (same_bucket_id (bucket_id_of b) (bucket_id_of at))
elsewhere Equities at product c (factor.EquityVol i b t) h =
    and_bucket (same_product c product) (same_bucket_id (bucket_id_of b) (bucket_id_of at)) (bucket_ids b at ∙ not_chosen (same_bucket b at) (record { name = i; tenor = t }) h)
elsewhere Equities at product c (factor.Commodity n b) h = and_other (same_product c product) false (same_bucket_id (id.Number b) (bucket_id_of at))
elsewhere Equities at product c (factor.CommodityVol n b t) h = and_other (same_product c product) true (same_bucket_id (id.Number b) (bucket_id_of at))
elsewhere Equities at product c (factor.Fx n) h = and_other (same_product c product) false (same_bucket_id id.Single (bucket_id_of at))
elsewhere Equities at product c (factor.FxVol p t) h = and_other (same_product c product) true (same_bucket_id id.Single (bucket_id_of at))
elsewhere Commodities at product c (factor.IrCurve n t s) h = and_other (same_product c product) false (same_bucket_id (id.Currency n) (bucket_id_of at))
elsewhere Commodities at product c (factor.Inflation n) h = and_other (same_product c product) false (same_bucket_id (id.Currency n) (bucket_id_of at))
elsewhere Commodities at product c (factor.XccyBasis n) h = and_other (same_product c product) false (same_bucket_id (id.Currency n) (bucket_id_of at))
elsewhere Commodities at product c (factor.IrVol n t) h = and_other (same_product c product) true (same_bucket_id (id.Currency n) (bucket_id_of at))
elsewhere Commodities at product c (factor.InflationVol n t) h = and_other (same_product c product) true (same_bucket_id (id.Currency n) (bucket_id_of at))
elsewhere Commodities at product c (factor.CreditQ i b t l) h = and_other (same_product c product) false (same_bucket_id (bucket_id_of b) (bucket_id_of at))
elsewhere Commodities at product c (factor.CreditVol i b t l) h = and_other (same_product c product) true (same_bucket_id (bucket_id_of b) (bucket_id_of at))
elsewhere Commodities at product c (factor.CreditNonQ i b t l) h = and_other (same_product c product) false (same_bucket_id (bucket_id_of b) (bucket_id_of at))
elsewhere Commodities at product c (factor.CreditVolNonQ i b t l) h = and_other (same_product c product) true (same_bucket_id (bucket_id_of b) (bucket_id_of at))
elsewhere Commodities at product c (factor.BaseCorr i) h = and_other (same_product c product) false (same_bucket_id id.Single (bucket_id_of at))
elsewhere Commodities at product c (factor.Equity i b) h = and_other (same_product c product) false (same_bucket_id (bucket_id_of b) (bucket_id_of at))
elsewhere Commodities at product c (factor.EquityVol i b t) h = and_other (same_product c product) true (same_bucket_id (bucket_id_of b) (bucket_id_of at))
elsewhere Commodities at product c (factor.Commodity n b) h = and_side (same_product c product) (same_bucket_id (id.Number b) (bucket_id_of at))
elsewhere Commodities at product c (factor.CommodityVol n b t) h =
    and_bucket (same_product c product) (same_bucket_id (bucket_id_of (bucket.Number b)) (bucket_id_of at)) (bucket_ids (bucket.Number b) at ∙ not_chosen (same_bucket (bucket.Number b) at) (record { name = n; tenor = t }) h)
elsewhere Commodities at product c (factor.Fx n) h = and_other (same_product c product) false (same_bucket_id id.Single (bucket_id_of at))
elsewhere Commodities at product c (factor.FxVol p t) h = and_other (same_product c product) true (same_bucket_id id.Single (bucket_id_of at))

-- the volatilities of the place are those of the bucket's names
pub volatilities_there : (class : PricedClass) (at : Bucket) (product : ProductClass) (fs : List (FactorKey × Holding)) → volatility_nets (factors_at (volatilities_place class at product) fs) ≡ volatilities_in class at product fs
volatilities_there class at product fs =
    issuers_place (as_price_volatility class at) as_name_volatility (λ x. x) (volatilities_place class at product) (stands class at product) (λ k x e. itself class at k.factor x e) (λ k e. elsewhere class at product k.product k.factor e) fs
    ∙ map-itself (λ (a : Amount NameVolatility). record { of = a.of; amount = a.amount }) (λ a. refl) (volatilities_in class at product fs)

-- ---- what they are of

abbrev pub names : Things (List ℕ) NameVolatility
names = record {
  cmp = name_cmp;
  order = nat_list_cmp_total;
  exact = exact_bytes;
  same = same_name;
  tests = λ x y. refl;
  key = λ x. x.name;
  tenor = λ x. x.tenor;
}

-- ---- in which order

abbrev parts_then : Ordering → Ordering → Ordering → Ordering
parts_then a b c = ordering_then a (ordering_then b (ordering_then c Equal))

by_parts : (x y : NameVolatility) (b c at : Bucket) → same_bucket b at ≡ true → same_bucket c at ≡ true
    → parts_then (name_cmp x.name y.name) (name_cmp (bucket_numbers b) (bucket_numbers c)) (name_cmp (tenor_place x.tenor ∷ []) (tenor_place y.tenor ∷ [])) ≡ volatility_cmp names x y
by_parts x y b c at p q =
    let name = name_cmp x.name y.name in
    let tenor = nat_cmp (tenor_place x.tenor) (tenor_place y.tenor) in
    ap (λ o. parts_then name o (name_cmp (tenor_place x.tenor ∷ []) (tenor_place y.tenor ∷ []))) (tied_buckets b c at p q)
    ∙ ap (ordering_then name) (then_Equal (name_cmp (tenor_place x.tenor ∷ []) (tenor_place y.tenor ∷ [])) ∙ then_Equal tenor)

-- a commodity's bucket is compared by its number
by_number : (x y : NameVolatility) (m n : ℕ) (at : Bucket) → same_bucket (bucket.Number m) at ≡ true → same_bucket (bucket.Number n) at ≡ true
    → parts_then (name_cmp x.name y.name) (name_cmp (m ∷ []) (n ∷ [])) (name_cmp (tenor_place x.tenor ∷ []) (tenor_place y.tenor ∷ [])) ≡ volatility_cmp names x y
by_number x y m n at p q = by_parts x y (bucket.Number m) (bucket.Number n) at p q

less : (class : PricedClass) (at : Bucket) (product : ProductClass) (k l : FactorKey) (x y : NameVolatility) → same_product k.product product ≡ true → same_product l.product product ≡ true → as_price_volatility class at (risk k.factor) ≡ Some x → as_price_volatility class at (risk l.factor) ≡ Some y → key_cmp k l ≡ Less → volatility_cmp names x y ≡ Less
less Equities at product k l x y p q e d h =
    let i = is_equity at k.factor x e in
    let j = is_equity at l.factor y d in
    sym (by_factor product k l (factor.EquityVol x.name i.of x.tenor) (factor.EquityVol y.name j.of y.tenor) p q i.is j.is ∙ by_parts x y i.of j.of at i.inside j.inside) ∙ h
less Commodities at product k l x y p q e d h =
    let i = is_commodity at k.factor x e in
    let j = is_commodity at l.factor y d in
    sym (by_factor product k l (factor.CommodityVol x.name i.of x.tenor) (factor.CommodityVol y.name j.of y.tenor) p q i.is j.is ∙ by_number x y i.of j.of at i.inside j.inside) ∙ h

pub volatilities_ascend : (class : PricedClass) (at : Bucket) (product : ProductClass) (fs : List (FactorKey × Holding)) → IsBook fs → IsStrictlySortedBy (volatility_cmp names) (map (λ a. a.of) (volatilities_in class at product fs))
volatilities_ascend class at product fs book = select_ascends (as_price_volatility class at) (volatility_cmp names) product (less class at product) fs book
