-- Names that have a price: where they stand, and in which order.
use Rattle.std.proofs.Common.{◌≡◌, ℕ, List, map, true, false, Some, None, refl, sym, ap, ◌∙◌}
use Rattle.std.specs.declared.cmp.Ordering.TheVariants.{Less, Equal}
use Rattle.std.specs.Ordering.{ordering_then}
use Rattle.std.specs.List.Sorted.{IsStrictlySortedBy}
use Rattle.measured_bucket.specs.SimmKinds.declared.kinds.ProductClass.{ProductClass}
use Rattle.measured_bucket.specs.SimmKinds.declared.kinds.BucketId.TheVariants as id
use Rattle.measured_bucket.specs.SimmKinds.declared.bucket.Bucket.{Bucket}
use Rattle.measured_bucket.specs.SimmKinds.declared.bucket.Bucket.TheVariants as bucket
use Rattle.measured_bucket.specs.SimmKinds.declared.factor.Factor.{Factor}
use Rattle.measured_bucket.specs.SimmKinds.declared.factor.Factor.TheVariants as factor
use Rattle.measured_bucket.specs.SimmKinds.declared.key.FactorKey.{FactorKey}
use Rattle.measured_bucket.specs.SimmKinds.Factors.{bucket_id_of}
use Rattle.measured_bucket.specs.SimmKinds.Order.{same_product, key_cmp, name_cmp, same_bucket, same_bucket_id}
use Rattle.measured_bucket.specs.SimmRules.Risks.{risk, Amount}
use Rattle.measured_bucket.specs.SimmRules.declared.classes.PricedClass.{PricedClass}
use Rattle.measured_bucket.specs.SimmRules.declared.classes.PricedClass.TheVariants.{Equities, Commodities}
use Rattle.measured_bucket.specs.SimmRules.Priced.{as_price}
use Rattle.measured_bucket.specs.FactorBook.declared.holding.Holding.{Holding}
use Rattle.measured_bucket.specs.FactorBook.Factors.{IsBook}
use Rattle.measured_bucket.specs.FactorBook.Places.{stands_at, factors_at}
use Rattle.measured_bucket.proofs.Keys.{then_Equal, and_last, and_other, and_side, and_bucket, key_with, by_factor, bucket_ids, tied_buckets, chosen, not_chosen}
use Rattle.measured_bucket.proofs.Lists.{map-itself}
use Rattle.measured_bucket.proofs.Selected.{issuers_place, select_ascends}
use Rattle.class_priced.specs.Names.{names_place, names_in, as_name, name_nets}

-- ---- which factors they are

record IsEquity (at : Bucket) (f : Factor) (x : List ℕ) : Type 0 where
  of : Bucket
  is : f ≡ factor.Equity x of
  inside : same_bucket of at ≡ true

record IsCommodity (at : Bucket) (f : Factor) (x : List ℕ) : Type 0 where
  of : ℕ
  is : f ≡ factor.Commodity x of
  inside : same_bucket (bucket.Number of) at ≡ true

is_equity : (at : Bucket) (f : Factor) (x : List ℕ) → as_price Equities at (risk f) ≡ Some x → IsEquity at f x
is_equity at (factor.IrCurve n t s) x h = absurd (cc)
is_equity at (factor.Inflation n) x h = absurd (cc)
is_equity at (factor.XccyBasis n) x h = absurd (cc)
is_equity at (factor.IrVol n t) x h = absurd (cc)
is_equity at (factor.InflationVol n t) x h = absurd (cc)
is_equity at (factor.CreditQ i b t l) x h = absurd (cc)
is_equity at (factor.CreditVol i b t l) x h = absurd (cc)
is_equity at (factor.CreditNonQ i b t l) x h = absurd (cc)
is_equity at (factor.CreditVolNonQ i b t l) x h = absurd (cc)
is_equity at (factor.BaseCorr i) x h = absurd (cc)
is_equity at (factor.Equity i b) x h =
    let both = chosen (same_bucket b at) i x h in
    record { of = b; is = ap (λ z. factor.Equity z b) both.1; inside = both.0 }
is_equity at (factor.EquityVol i b t) x h = absurd (cc)
is_equity at (factor.Commodity n b) x h = absurd (cc)
is_equity at (factor.CommodityVol n b t) x h = absurd (cc)
is_equity at (factor.Fx n) x h = absurd (cc)
is_equity at (factor.FxVol p t) x h = absurd (cc)

is_commodity : (at : Bucket) (f : Factor) (x : List ℕ) → as_price Commodities at (risk f) ≡ Some x → IsCommodity at f x
is_commodity at (factor.IrCurve n t s) x h = absurd (cc)
is_commodity at (factor.Inflation n) x h = absurd (cc)
is_commodity at (factor.XccyBasis n) x h = absurd (cc)
is_commodity at (factor.IrVol n t) x h = absurd (cc)
is_commodity at (factor.InflationVol n t) x h = absurd (cc)
is_commodity at (factor.CreditQ i b t l) x h = absurd (cc)
is_commodity at (factor.CreditVol i b t l) x h = absurd (cc)
is_commodity at (factor.CreditNonQ i b t l) x h = absurd (cc)
is_commodity at (factor.CreditVolNonQ i b t l) x h = absurd (cc)
is_commodity at (factor.BaseCorr i) x h = absurd (cc)
is_commodity at (factor.Equity i b) x h = absurd (cc)
is_commodity at (factor.EquityVol i b t) x h = absurd (cc)
is_commodity at (factor.Commodity n b) x h =
    let both = chosen (same_bucket (bucket.Number b) at) n x h in
    record { of = b; is = ap (λ z. factor.Commodity z b) both.1; inside = both.0 }
is_commodity at (factor.CommodityVol n b t) x h = absurd (cc)
is_commodity at (factor.Fx n) x h = absurd (cc)
is_commodity at (factor.FxVol p t) x h = absurd (cc)

-- ---- where they stand

stands : (class : PricedClass) (at : Bucket) (product : ProductClass) (k : FactorKey) (x : List ℕ) → as_price class at (risk k.factor) ≡ Some x → stands_at (names_place class at product) k ≡ same_product k.product product
stands Equities at product k x e =
    let i = is_equity at k.factor x e in
    ap (λ f. stands_at (names_place Equities at product) (key_with k.product f)) i.is
    ∙ and_last (same_product k.product product) (same_bucket_id (bucket_id_of i.of) (bucket_id_of at)) (bucket_ids i.of at ∙ i.inside)
stands Commodities at product k x e =
    let i = is_commodity at k.factor x e in
    ap (λ f. stands_at (names_place Commodities at product) (key_with k.product f)) i.is
    ∙ and_last (same_product k.product product) (same_bucket_id (bucket_id_of (bucket.Number i.of)) (bucket_id_of at)) (bucket_ids (bucket.Number i.of) at ∙ i.inside)

-- it is the name of its risk
itself : (class : PricedClass) (at : Bucket) (f : Factor) (x : List ℕ) → as_price class at (risk f) ≡ Some x → as_name (risk f) ≡ Some x
itself Equities at f x e = ap (λ g. as_name (risk g)) (is_equity at f x e).is
itself Commodities at f x e = ap (λ g. as_name (risk g)) (is_commodity at f x e).is

elsewhere : (class : PricedClass) (at : Bucket) (product c : ProductClass) (f : Factor) → as_price class at (risk f) ≡ None → stands_at (names_place class at product) (key_with c f) ≡ false
elsewhere Equities at product c (factor.IrCurve n t s) h = and_other (same_product c product) true (same_bucket_id (id.Currency n) (bucket_id_of at))
elsewhere Equities at product c (factor.Inflation n) h = and_other (same_product c product) true (same_bucket_id (id.Currency n) (bucket_id_of at))
elsewhere Equities at product c (factor.XccyBasis n) h = and_other (same_product c product) true (same_bucket_id (id.Currency n) (bucket_id_of at))
elsewhere Equities at product c (factor.IrVol n t) h = and_other (same_product c product) false (same_bucket_id (id.Currency n) (bucket_id_of at))
elsewhere Equities at product c (factor.InflationVol n t) h = and_other (same_product c product) false (same_bucket_id (id.Currency n) (bucket_id_of at))
elsewhere Equities at product c (factor.CreditQ i b t l) h = and_other (same_product c product) true (same_bucket_id (bucket_id_of b) (bucket_id_of at))
elsewhere Equities at product c (factor.CreditVol i b t l) h = and_other (same_product c product) false (same_bucket_id (bucket_id_of b) (bucket_id_of at))
elsewhere Equities at product c (factor.CreditNonQ i b t l) h = and_other (same_product c product) true (same_bucket_id (bucket_id_of b) (bucket_id_of at))
elsewhere Equities at product c (factor.CreditVolNonQ i b t l) h = and_other (same_product c product) false (same_bucket_id (bucket_id_of b) (bucket_id_of at))
elsewhere Equities at product c (factor.BaseCorr i) h = and_other (same_product c product) true (same_bucket_id id.Single (bucket_id_of at))
elsewhere Equities at product c (factor.Equity i b) h =
    and_bucket (same_product c product) (same_bucket_id (bucket_id_of b) (bucket_id_of at)) (bucket_ids b at ∙ not_chosen (same_bucket b at) i h)
elsewhere Equities at product c (factor.EquityVol i b t) h = and_side (same_product c product) (same_bucket_id (bucket_id_of b) (bucket_id_of at))
elsewhere Equities at product c (factor.Commodity n b) h = and_other (same_product c product) true (same_bucket_id (id.Number b) (bucket_id_of at))
elsewhere Equities at product c (factor.CommodityVol n b t) h = and_other (same_product c product) false (same_bucket_id (id.Number b) (bucket_id_of at))
elsewhere Equities at product c (factor.Fx n) h = and_other (same_product c product) true (same_bucket_id id.Single (bucket_id_of at))
elsewhere Equities at product c (factor.FxVol p t) h = and_other (same_product c product) false (same_bucket_id id.Single (bucket_id_of at))
elsewhere Commodities at product c (factor.IrCurve n t s) h = and_other (same_product c product) true (same_bucket_id (id.Currency n) (bucket_id_of at))
elsewhere Commodities at product c (factor.Inflation n) h = and_other (same_product c product) true (same_bucket_id (id.Currency n) (bucket_id_of at))
elsewhere Commodities at product c (factor.XccyBasis n) h = and_other (same_product c product) true (same_bucket_id (id.Currency n) (bucket_id_of at))
elsewhere Commodities at product c (factor.IrVol n t) h = and_other (same_product c product) false (same_bucket_id (id.Currency n) (bucket_id_of at))
elsewhere Commodities at product c (factor.InflationVol n t) h = and_other (same_product c product) false (same_bucket_id (id.Currency n) (bucket_id_of at))
elsewhere Commodities at product c (factor.CreditQ i b t l) h = and_other (same_product c product) true (same_bucket_id (bucket_id_of b) (bucket_id_of at))
elsewhere Commodities at product c (factor.CreditVol i b t l) h = and_other (same_product c product) false (same_bucket_id (bucket_id_of b) (bucket_id_of at))
elsewhere Commodities at product c (factor.CreditNonQ i b t l) h = and_other (same_product c product) true (same_bucket_id (bucket_id_of b) (bucket_id_of at))
elsewhere Commodities at product c (factor.CreditVolNonQ i b t l) h = and_other (same_product c product) false (same_bucket_id (bucket_id_of b) (bucket_id_of at))
elsewhere Commodities at product c (factor.BaseCorr i) h = and_other (same_product c product) true (same_bucket_id id.Single (bucket_id_of at))
elsewhere Commodities at product c (factor.Equity i b) h = and_other (same_product c product) true (same_bucket_id (bucket_id_of b) (bucket_id_of at))
elsewhere Commodities at product c (factor.EquityVol i b t) h = and_other (same_product c product) false (same_bucket_id (bucket_id_of b) (bucket_id_of at))
elsewhere Commodities at product c (factor.Commodity n b) h =
    and_bucket (same_product c product) (same_bucket_id (bucket_id_of (bucket.Number b)) (bucket_id_of at)) (bucket_ids (bucket.Number b) at ∙ not_chosen (same_bucket (bucket.Number b) at) n h)
elsewhere Commodities at product c (factor.CommodityVol n b t) h = and_side (same_product c product) (same_bucket_id (id.Number b) (bucket_id_of at))
elsewhere Commodities at product c (factor.Fx n) h = and_other (same_product c product) true (same_bucket_id id.Single (bucket_id_of at))
elsewhere Commodities at product c (factor.FxVol p t) h = and_other (same_product c product) false (same_bucket_id id.Single (bucket_id_of at))

-- the names of the place are those of the bucket
pub names_there : (class : PricedClass) (at : Bucket) (product : ProductClass) (fs : List (FactorKey × Holding)) → name_nets (factors_at (names_place class at product) fs) ≡ names_in class at product fs
names_there class at product fs =
    issuers_place (as_price class at) as_name (λ x. x) (names_place class at product) (stands class at product) (λ k x e. itself class at k.factor x e) (λ k e. elsewhere class at product k.product k.factor e) fs
    ∙ map-itself (λ (a : Amount (List ℕ)). record { of = a.of; amount = a.amount }) (λ a. refl) (names_in class at product fs)

-- ---- in which order

less : (class : PricedClass) (at : Bucket) (product : ProductClass) (k l : FactorKey) (x y : List ℕ) → same_product k.product product ≡ true → same_product l.product product ≡ true → as_price class at (risk k.factor) ≡ Some x → as_price class at (risk l.factor) ≡ Some y → key_cmp k l ≡ Less → name_cmp x y ≡ Less
less Equities at product k l x y p q e d h =
    let i = is_equity at k.factor x e in
    let j = is_equity at l.factor y d in
    sym (by_factor product k l (factor.Equity x i.of) (factor.Equity y j.of) p q i.is j.is
    ∙ ap (λ o. ordering_then (name_cmp x y) (ordering_then o Equal)) (tied_buckets i.of j.of at i.inside j.inside) ∙ then_Equal (name_cmp x y)) ∙ h
less Commodities at product k l x y p q e d h =
    let i = is_commodity at k.factor x e in
    let j = is_commodity at l.factor y d in
    sym (by_factor product k l (factor.Commodity x i.of) (factor.Commodity y j.of) p q i.is j.is
    ∙ ap (λ o. ordering_then (name_cmp x y) (ordering_then o Equal)) (tied_buckets (bucket.Number i.of) (bucket.Number j.of) at i.inside j.inside) ∙ then_Equal (name_cmp x y)) ∙ h

pub names_ascend : (class : PricedClass) (at : Bucket) (product : ProductClass) (fs : List (FactorKey × Holding)) → IsBook fs → IsStrictlySortedBy name_cmp (map (λ a. a.of) (names_in class at product fs))
names_ascend class at product fs book = select_ascends (as_price class at) name_cmp product (less class at product) fs book
