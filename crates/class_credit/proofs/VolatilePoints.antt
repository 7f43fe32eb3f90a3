-- Volatilities of credit: where they stand, in which order, and whose they are.
use Rattle.std.proofs.Common.{◌≡◌, List, map, true, false, Some, None, refl, sym, ap, ◌∙◌}
use Rattle.std.specs.declared.cmp.Ordering.TheVariants.{Less}
use Rattle.std.specs.List.Sorted.{IsStrictlySortedBy}
use Rattle.measured_bucket.specs.SimmKinds.declared.kinds.ProductClass.{ProductClass}
use Rattle.measured_bucket.specs.SimmKinds.declared.kinds.BucketId.TheVariants as id
use Rattle.measured_bucket.specs.SimmKinds.declared.bucket.Bucket.{Bucket}
use Rattle.measured_bucket.specs.SimmKinds.declared.factor.Factor.{Factor}
use Rattle.measured_bucket.specs.SimmKinds.declared.factor.Factor.TheVariants as factor
use Rattle.measured_bucket.specs.SimmKinds.declared.key.FactorKey.{FactorKey}
use Rattle.measured_bucket.specs.SimmKinds.Factors.{bucket_id_of}
use Rattle.measured_bucket.specs.SimmKinds.Order.{same_product, key_cmp, same_bucket, same_bucket_id}
use Rattle.measured_bucket.specs.SimmRules.Risks.{risk, CreditPoint, credit_point, Amount}
use Rattle.measured_bucket.specs.SimmRules.declared.classes.CreditClass.{CreditClass}
use Rattle.measured_bucket.specs.SimmRules.declared.classes.CreditClass.TheVariants.{Qualifying, NonQualifying}
use Rattle.measured_bucket.specs.SimmRules.Credit.{as_credit_volatility}
use Rattle.measured_bucket.specs.FactorBook.declared.holding.Holding.{Holding}
use Rattle.measured_bucket.specs.FactorBook.Factors.{IsBook}
use Rattle.measured_bucket.specs.FactorBook.Places.{stands_at, factors_at}
use Rattle.class_credit.proofs.CreditPoints.{by_parts}
use Rattle.measured_bucket.proofs.Keys.{and_last, and_other, and_side, and_bucket, key_with, by_factor, bucket_ids, chosen, not_chosen}
use Rattle.measured_bucket.proofs.Lists.{map-itself}
use Rattle.measured_bucket.proofs.Selected.{issuers_place, select_ascends}
use Rattle.class_credit.specs.Points.{point_cmp, volatilities_place, volatilities_in, as_point, point_nets}

-- ---- which factors they are

record IsQualifying (at : Bucket) (f : Factor) (x : CreditPoint) : Type 0 where
  of : Bucket
  is : f ≡ factor.CreditVol x.issuer of x.tenor x.label
  inside : same_bucket of at ≡ true

record IsNonQualifying (at : Bucket) (f : Factor) (x : CreditPoint) : Type 0 where
  of : Bucket
  is : f ≡ factor.CreditVolNonQ x.issuer of x.tenor x.label
  inside : same_bucket of at ≡ true

is_qualifying : (at : Bucket) (f : Factor) (x : CreditPoint) → as_credit_volatility Qualifying at (risk f) ≡ Some x → IsQualifying at f x
is_qualifying at (factor.IrCurve n t s) x h = absurd (cc)
is_qualifying at (factor.Inflation n) x h = absurd (cc)
is_qualifying at (factor.XccyBasis n) x h = absurd (cc)
is_qualifying at (factor.IrVol n t) x h = absurd (cc)
is_qualifying at (factor.InflationVol n t) x h = absurd (cc)
is_qualifying at (factor.CreditVol i b t l) x h =
    let both = chosen (same_bucket b at) (credit_point i t l) x h in
    record { of = b; is = ap (λ (z : CreditPoint). factor.CreditVol z.issuer b z.tenor z.label) both.1; inside = both.0 }
is_qualifying at (factor.CreditQ i b t l) x h = absurd (cc)
is_qualifying at (factor.CreditVolNonQ i b t l) x h = absurd (cc)
is_qualifying at (factor.CreditNonQ i b t l) x h = absurd (cc)
is_qualifying at (factor.BaseCorr i) x h = absurd (cc)
is_qualifying at (factor.Equity i b) x h = absurd (cc)
is_qualifying at (factor.EquityVol i b t) x h = absurd (cc)
is_qualifying at (factor.Commodity n b) x h = absurd (cc)
is_qualifying at (factor.CommodityVol n b t) x h = absurd (cc)
is_qualifying at (factor.Fx n) x h = absurd (cc)
is_qualifying at (factor.FxVol p t) x h = absurd (cc)

is_non_qualifying : (at : Bucket) (f : Factor) (x : CreditPoint) → as_credit_volatility NonQualifying at (risk f) ≡ Some x → IsNonQualifying at f x
is_non_qualifying at (factor.IrCurve n t s) x h = absurd (cc)
is_non_qualifying at (factor.Inflation n) x h = absurd (cc)
is_non_qualifying at (factor.XccyBasis n) x h = absurd (cc)
is_non_qualifying at (factor.IrVol n t) x h = absurd (cc)
is_non_qualifying at (factor.InflationVol n t) x h = absurd (cc)
is_non_qualifying at (factor.CreditVol i b t l) x h = absurd (cc)
is_non_qualifying at (factor.CreditQ i b t l) x h = absurd (cc)
is_non_qualifying at (factor.CreditVolNonQ i b t l) x h =
    let both = chosen (same_bucket b at) (credit_point i t l) x h in
    record { of = b; is = ap (λ (z : CreditPoint). factor.CreditVolNonQ z.issuer b z.tenor z.label) both.1; inside = both.0 }
is_non_qualifying at (factor.CreditNonQ i b t l) x h = absurd (cc)
is_non_qualifying at (factor.BaseCorr i) x h = absurd (cc)
is_non_qualifying at (factor.Equity i b) x h = absurd (cc)
is_non_qualifying at (factor.EquityVol i b t) x h = absurd (cc)
is_non_qualifying at (factor.Commodity n b) x h = absurd (cc)
is_non_qualifying at (factor.CommodityVol n b t) x h = absurd (cc)
is_non_qualifying at (factor.Fx n) x h = absurd (cc)
is_non_qualifying at (factor.FxVol p t) x h = absurd (cc)

-- ---- where they stand

stands : (class : CreditClass) (at : Bucket) (product : ProductClass) (k : FactorKey) (x : CreditPoint) → as_credit_volatility class at (risk k.factor) ≡ Some x → stands_at (volatilities_place class at product) k ≡ same_product k.product product
stands Qualifying at product k x e =
    let i = is_qualifying at k.factor x e in
    ap (λ f. stands_at (volatilities_place Qualifying at product) (key_with k.product f)) i.is
    ∙ and_last (same_product k.product product) (same_bucket_id (bucket_id_of i.of) (bucket_id_of at)) (bucket_ids i.of at ∙ i.inside)
stands NonQualifying at product k x e =
    let i = is_non_qualifying at k.factor x e in
    ap (λ f. stands_at (volatilities_place NonQualifying at product) (key_with k.product f)) i.is
    ∙ and_last (same_product k.product product) (same_bucket_id (bucket_id_of i.of) (bucket_id_of at)) (bucket_ids i.of at ∙ i.inside)

-- it is the point of its risk
itself : (class : CreditClass) (at : Bucket) (f : Factor) (x : CreditPoint) → as_credit_volatility class at (risk f) ≡ Some x → as_point (risk f) ≡ Some x
itself Qualifying at f x e = ap (λ g. as_point (risk g)) (is_qualifying at f x e).is
itself NonQualifying at f x e = ap (λ g. as_point (risk g)) (is_non_qualifying at f x e).is

elsewhere : (class : CreditClass) (at : Bucket) (product c : ProductClass) (f : Factor) → as_credit_volatility class at (risk f) ≡ None → stands_at (volatilities_place class at product) (key_with c f) ≡ false
elsewhere Qualifying at product c (factor.IrCurve n t s) h = and_other (same_product c product) false (same_bucket_id (id.Currency n) (bucket_id_of at))
elsewhere Qualifying at product c (factor.Inflation n) h = and_other (same_product c product) false (same_bucket_id (id.Currency n) (bucket_id_of at))
elsewhere Qualifying at product c (factor.XccyBasis n) h = and_other (same_product c product) false (same_bucket_id (id.Currency n) (bucket_id_of at))
elsewhere Qualifying at product c (factor.IrVol n t) h = and_other (same_product c product) true (same_bucket_id (id.Currency n) (bucket_id_of at))
elsewhere Qualifying at product c (factor.InflationVol n t) h = and_other (same_product c product) true (same_bucket_id (id.Currency n) (bucket_id_of at))
elsewhere Qualifying at product c (factor.CreditVol i b t l) h =
    and_bucket (same_product c product) (same_bucket_id (bucket_id_of b) (bucket_id_of at)) (bucket_ids b at ∙ not_chosen (same_bucket b at) (credit_point i t l) h)
elsewhere Qualifying at product c (factor.CreditQ i b t l) h = and_side (same_product c product) (same_bucket_id (bucket_id_of b) (bucket_id_of at))
elsewhere Qualifying at product c (factor.CreditVolNonQ i b t l) h = and_other (same_product c product) true (same_bucket_id (bucket_id_of b) (bucket_id_of at))
elsewhere Qualifying at product c (factor.CreditNonQ i b t l) h = and_other (same_product c product) false (same_bucket_id (bucket_id_of b) (bucket_id_of at))
elsewhere Qualifying at product c (factor.BaseCorr i) h = and_side (same_product c product) (same_bucket_id id.Single (bucket_id_of at))
elsewhere Qualifying at product c (factor.Equity i b) h = and_other (same_product c product) false (same_bucket_id (bucket_id_of b) (bucket_id_of at))
elsewhere Qualifying at product c (factor.EquityVol i b t) h = and_other (same_product c product) true (same_bucket_id (bucket_id_of b) (bucket_id_of at))
elsewhere Qualifying at product c (factor.Commodity n b) h = and_other (same_product c product) false (same_bucket_id (id.Number b) (bucket_id_of at))
elsewhere Qualifying at product c (factor.CommodityVol n b t) h = and_other (same_product c product) true (same_bucket_id (id.Number b) (bucket_id_of at))
elsewhere Qualifying at product c (factor.Fx n) h = and_other (same_product c product) false (same_bucket_id id.Single (bucket_id_of at))
elsewhere Qualifying at product c (factor.FxVol p t) h = and_other (same_product c product) true (same_bucket_id id.Single (bucket_id_of at))
elsewhere NonQualifying at product c (factor.IrCurve n t s) h = and_other (same_product c product) false (same_bucket_id (id.Currency n) (bucket_id_of at))
elsewhere NonQualifying at product c (factor.Inflation n) h = and_other (same_product c product) false (same_bucket_id (id.Currency n) (bucket_id_of at))
elsewhere NonQualifying at product c (factor.XccyBasis n) h = and_other (same_product c product) false (same_bucket_id (id.Currency n) (bucket_id_of at))
elsewhere NonQualifying at product c (factor.IrVol n t) h = and_other (same_product c product) true (same_bucket_id (id.Currency n) (bucket_id_of at))
elsewhere NonQualifying at product c (factor.InflationVol n t) h = and_other (same_product c product) true (same_bucket_id (id.Currency n) (bucket_id_of at))
elsewhere NonQualifying at product c (factor.CreditVol i b t l) h = and_other (same_product c product) true (same_bucket_id (bucket_id_of b) (bucket_id_of at))
elsewhere NonQualifying at product c (factor.CreditQ i b t l) h = and_other (same_product c product) false (same_bucket_id (bucket_id_of b) (bucket_id_of at))
elsewhere NonQualifying at product c (factor.CreditVolNonQ i b t l) h =
    and_bucket (same_product c product) (same_bucket_id (bucket_id_of b) (bucket_id_of at)) (bucket_ids b at ∙ not_chosen (same_bucket b at) (credit_point i t l) h)
elsewhere NonQualifying at product c (factor.CreditNonQ i b t l) h = and_side (same_product c product) (same_bucket_id (bucket_id_of b) (bucket_id_of at))
elsewhere NonQualifying at product c (factor.BaseCorr i) h = and_other (same_product c product) false (same_bucket_id id.Single (bucket_id_of at))
elsewhere NonQualifying at product c (factor.Equity i b) h = and_other (same_product c product) false (same_bucket_id (bucket_id_of b) (bucket_id_of at))
elsewhere NonQualifying at product c (factor.EquityVol i b t) h = and_other (same_product c product) true (same_bucket_id (bucket_id_of b) (bucket_id_of at))
elsewhere NonQualifying at product c (factor.Commodity n b) h = and_other (same_product c product) false (same_bucket_id (id.Number b) (bucket_id_of at))
elsewhere NonQualifying at product c (factor.CommodityVol n b t) h = and_other (same_product c product) true (same_bucket_id (id.Number b) (bucket_id_of at))
elsewhere NonQualifying at product c (factor.Fx n) h = and_other (same_product c product) false (same_bucket_id id.Single (bucket_id_of at))
elsewhere NonQualifying at product c (factor.FxVol p t) h = and_other (same_product c product) true (same_bucket_id id.Single (bucket_id_of at))

-- the volatilities of the place are those of the bucket
pub volatilities_there : (class : CreditClass) (at : Bucket) (product : ProductClass) (fs : List (FactorKey × Holding)) → point_nets (factors_at (volatilities_place class at product) fs) ≡ volatilities_in class at product fs
volatilities_there class at product fs =
    issuers_place (as_credit_volatility class at) as_point (λ x. x) (volatilities_place class at product) (stands class at product) (λ k x e. itself class at k.factor x e) (λ k e. elsewhere class at product k.product k.factor e) fs
    ∙ map-itself (λ (a : Amount CreditPoint). record { of = a.of; amount = a.amount }) (λ a. refl) (volatilities_in class at product fs)

-- ---- in which order

less : (class : CreditClass) (at : Bucket) (product : ProductClass) (k l : FactorKey) (x y : CreditPoint) → same_product k.product product ≡ true → same_product l.product product ≡ true → as_credit_volatility class at (risk k.factor) ≡ Some x → as_credit_volatility class at (risk l.factor) ≡ Some y → key_cmp k l ≡ Less → point_cmp x y ≡ Less
less Qualifying at product k l x y p q e d h =
    let i = is_qualifying at k.factor x e in
    let j = is_qualifying at l.factor y d in
    sym (by_factor product k l (factor.CreditVol x.issuer i.of x.tenor x.label) (factor.CreditVol y.issuer j.of y.tenor y.label) p q i.is j.is ∙ by_parts x y i.of j.of at i.inside j.inside) ∙ h
less NonQualifying at product k l x y p q e d h =
    let i = is_non_qualifying at k.factor x e in
    let j = is_non_qualifying at l.factor y d in
    sym (by_factor product k l (factor.CreditVolNonQ x.issuer i.of x.tenor x.label) (factor.CreditVolNonQ y.issuer j.of y.tenor y.label) p q i.is j.is ∙ by_parts x y i.of j.of at i.inside j.inside) ∙ h

pub volatilities_ascend : (class : CreditClass) (at : Bucket) (product : ProductClass) (fs : List (FactorKey × Holding)) → IsBook fs → IsStrictlySortedBy point_cmp (map (λ a. a.of) (volatilities_in class at product fs))
volatilities_ascend class at product fs book = select_ascends (as_credit_volatility class at) point_cmp product (less class at product) fs book
