-- Points of credit curves: where they stand, in which order, and whose they are.
use Rattle.std.proofs.Common.{◌≡◌, List, [], ◌∷◌, map, Bool, true, false, ◌&&◌, ◌==◌, Some, None, refl, sym, ap, ◌∙◌, ◌⊎◌, inl, inr}
use Rattle.std.specs.declared.cmp.Ordering.{Ordering}
use Rattle.std.specs.declared.cmp.Ordering.TheVariants.{Less, Equal, Greater}
use Rattle.std.specs.Ordering.{nat_cmp, ordering_then, is_eq}
use Rattle.std.specs.Cmp.{IsTotalOrder}
use Rattle.std.specs.List.Sorted.{IsStrictlySortedBy}
use Rattle.std.proofs.lemmas.Cmp.{nat_cmp_total, nat_list_cmp_total, then_total, on_total}
use Rattle.measured_bucket.specs.SimmKinds.declared.kinds.ProductClass.{ProductClass}
use Rattle.measured_bucket.specs.SimmKinds.declared.kinds.BucketId.TheVariants as id
use Rattle.measured_bucket.specs.SimmKinds.declared.bucket.Bucket.{Bucket}
use Rattle.measured_bucket.specs.SimmKinds.declared.bucket.Bucket.TheVariants as bucket
use Rattle.measured_bucket.specs.SimmKinds.declared.factor.Factor.{Factor}
use Rattle.measured_bucket.specs.SimmKinds.declared.factor.Factor.TheVariants as factor
use Rattle.measured_bucket.specs.SimmKinds.declared.key.FactorKey.{FactorKey}
use Rattle.measured_bucket.specs.SimmKinds.Factors.{bucket_id_of}
use Rattle.measured_bucket.specs.SimmKinds.Order.{same_product, key_cmp, name_cmp, credit_tenor_place, bucket_numbers, same_bucket, same_bucket_id}
use Rattle.measured_bucket.specs.SimmRules.Risks.{risk, CreditPoint, credit_point, Amount}
use Rattle.measured_bucket.specs.SimmRules.declared.classes.CreditClass.{CreditClass}
use Rattle.measured_bucket.specs.SimmRules.declared.classes.CreditClass.TheVariants.{Qualifying, NonQualifying}
use Rattle.measured_bucket.specs.SimmRules.Credit.{as_credit, same_point}
use Rattle.measured_bucket.specs.FactorBook.declared.holding.Holding.{Holding}
use Rattle.measured_bucket.specs.FactorBook.Factors.{IsBook}
use Rattle.measured_bucket.specs.FactorBook.Places.{stands_at, factors_at}
use Rattle.class_credit.specs.Points.{point_cmp, points_place, points_in, as_point, point_nets}
use Rattle.measured_bucket.proofs.Keys.{is_eq-nat, then_Equal, and_last, and_other, and_side, and_bucket, key_with, by_factor, bucket_ids, tied_buckets, chosen, not_chosen}
use Rattle.measured_bucket.proofs.Lists.{map-itself}
use Rattle.measured_bucket.proofs.Selected.{issuers_place, select_ascends}

-- ---- the order of points

pub point_total : IsTotalOrder point_cmp
point_total = then_total (on_total (λ (x : CreditPoint). x.issuer) nat_list_cmp_total) (then_total (on_total (λ (x : CreditPoint). credit_tenor_place x.tenor) nat_cmp_total) (on_total (λ (x : CreditPoint). x.label) nat_list_cmp_total))

is_eq-then : (o r : Ordering) → is_eq (ordering_then o r) ≡ (is_eq o && is_eq r)
is_eq-then Less r = refl
is_eq-then Equal r = refl
is_eq-then Greater r = refl

and_assoc : (a b c : Bool) → (a && (b && c)) ≡ (a && b && c)
and_assoc true b c = refl
and_assoc false b c = refl

-- two points are the same where their order says so
pub point_tests : (x y : CreditPoint) → same_point x y ≡ is_eq (point_cmp x y)
point_tests x y =
    let a = name_cmp x.issuer y.issuer in
    let b = nat_cmp (credit_tenor_place x.tenor) (credit_tenor_place y.tenor) in
    let c = name_cmp x.label y.label in
    sym (is_eq-then a (ordering_then b c) ∙ ap (λ t. is_eq a && t) (is_eq-then b c) ∙ ap (λ t. is_eq a && (t && is_eq c)) (is_eq-nat (credit_tenor_place x.tenor) (credit_tenor_place y.tenor)) ∙ and_assoc (is_eq a) (credit_tenor_place x.tenor == credit_tenor_place y.tenor) (is_eq c))

-- a point that comes before another is of no later issuer
pub issuer_first : (x y : CreditPoint) → point_cmp x y ≡ Less → (name_cmp x.issuer y.issuer ≡ Less) ⊎ (name_cmp x.issuer y.issuer ≡ Equal)
issuer_first x y h = by (name_cmp x.issuer y.issuer) refl h
  where
    by : (o : Ordering) → name_cmp x.issuer y.issuer ≡ o → ordering_then (name_cmp x.issuer y.issuer) (ordering_then (nat_cmp (credit_tenor_place x.tenor) (credit_tenor_place y.tenor)) (name_cmp x.label y.label)) ≡ Less → (name_cmp x.issuer y.issuer ≡ Less) ⊎ (name_cmp x.issuer y.issuer ≡ Equal)
    by Less e g = inl e
    by Equal e g = inr e
    by Greater e g = absurd (cc)

-- ---- which factors they are

record IsQualifying (at : Bucket) (f : Factor) (x : CreditPoint) : Type 0 where
  of : Bucket
  is : f ≡ factor.CreditQ x.issuer of x.tenor x.label
  inside : same_bucket of at ≡ true

record IsNonQualifying (at : Bucket) (f : Factor) (x : CreditPoint) : Type 0 where
  of : Bucket
  is : f ≡ factor.CreditNonQ x.issuer of x.tenor x.label
  inside : same_bucket of at ≡ true

is_qualifying : (at : Bucket) (f : Factor) (x : CreditPoint) → as_credit Qualifying at (risk f) ≡ Some x → IsQualifying at f x
is_qualifying at (factor.IrCurve n t s) x h = absurd (cc)
is_qualifying at (factor.Inflation n) x h = absurd (cc)
is_qualifying at (factor.XccyBasis n) x h = absurd (cc)
is_qualifying at (factor.IrVol n t) x h = absurd (cc)
is_qualifying at (factor.InflationVol n t) x h = absurd (cc)
is_qualifying at (factor.CreditQ i b t l) x h =
    let both = chosen (same_bucket b at) (credit_point i t l) x h in
    record { of = b; is = ap (λ (z : CreditPoint). factor.CreditQ z.issuer b z.tenor z.label) both.1; inside = both.0 }
is_qualifying at (factor.CreditVol i b t l) x h = absurd (cc)
is_qualifying at (factor.CreditNonQ i b t l) x h = absurd (cc)
is_qualifying at (factor.CreditVolNonQ i b t l) x h = absurd (cc)
is_qualifying at (factor.BaseCorr i) x h = absurd (cc)
is_qualifying at (factor.Equity i b) x h = absurd (cc)
is_qualifying at (factor.EquityVol i b t) x h = absurd (cc)
is_qualifying at (factor.Commodity n b) x h = absurd (cc)
is_qualifying at (factor.CommodityVol n b t) x h = absurd (cc)
is_qualifying at (factor.Fx n) x h = absurd (cc)
is_qualifying at (factor.FxVol p t) x h = absurd (cc)

is_non_qualifying : (at : Bucket) (f : Factor) (x : CreditPoint) → as_credit NonQualifying at (risk f) ≡ Some x → IsNonQualifying at f x
is_non_qualifying at (factor.IrCurve n t s) x h = absurd (cc)
is_non_qualifying at (factor.Inflation n) x h = absurd (cc)
is_non_qualifying at (factor.XccyBasis n) x h = absurd (cc)
is_non_qualifying at (factor.IrVol n t) x h = absurd (cc)
is_non_qualifying at (factor.InflationVol n t) x h = absurd (cc)
is_non_qualifying at (factor.CreditQ i b t l) x h = absurd (cc)
is_non_qualifying at (factor.CreditVol i b t l) x h = absurd (cc)
is_non_qualifying at (factor.CreditNonQ i b t l) x h =
    let both = chosen (same_bucket b at) (credit_point i t l) x h in
    record { of = b; is = ap (λ (z : CreditPoint). factor.CreditNonQ z.issuer b z.tenor z.label) both.1; inside = both.0 }
is_non_qualifying at (factor.CreditVolNonQ i b t l) x h = absurd (cc)
is_non_qualifying at (factor.BaseCorr i) x h = absurd (cc)
is_non_qualifying at (factor.Equity i b) x h = absurd (cc)
is_non_qualifying at (factor.EquityVol i b t) x h = absurd (cc)
is_non_qualifying at (factor.Commodity n b) x h = absurd (cc)
is_non_qualifying at (factor.CommodityVol n b t) x h = absurd (cc)
is_non_qualifying at (factor.Fx n) x h = absurd (cc)
is_non_qualifying at (factor.FxVol p t) x h = absurd (cc)

-- ---- where they stand

stands : (class : CreditClass) (at : Bucket) (product : ProductClass) (k : FactorKey) (x : CreditPoint) → as_credit class at (risk k.factor) ≡ Some x → stands_at (points_place class at product) k ≡ same_product k.product product
stands Qualifying at product k x e =
    let i = is_qualifying at k.factor x e in
    ap (λ f. stands_at (points_place Qualifying at product) (key_with k.product f)) i.is
    ∙ and_last (same_product k.product product) (same_bucket_id (bucket_id_of i.of) (bucket_id_of at)) (bucket_ids i.of at ∙ i.inside)
stands NonQualifying at product k x e =
    let i = is_non_qualifying at k.factor x e in
    ap (λ f. stands_at (points_place NonQualifying at product) (key_with k.product f)) i.is
    ∙ and_last (same_product k.product product) (same_bucket_id (bucket_id_of i.of) (bucket_id_of at)) (bucket_ids i.of at ∙ i.inside)

-- it is the point of its risk
itself : (class : CreditClass) (at : Bucket) (f : Factor) (x : CreditPoint) → as_credit class at (risk f) ≡ Some x → as_point (risk f) ≡ Some x
itself Qualifying at f x e = ap (λ g. as_point (risk g)) (is_qualifying at f x e).is
itself NonQualifying at f x e = ap (λ g. as_point (risk g)) (is_non_qualifying at f x e).is

pub not_single : (at : Bucket) → same_bucket_id id.Single (bucket_id_of at) ≡ false
not_single (bucket.Number n) = refl
not_single bucket.Residual = refl

elsewhere : (class : CreditClass) (at : Bucket) (product c : ProductClass) (f : Factor) → as_credit class at (risk f) ≡ None → stands_at (points_place class at product) (key_with c f) ≡ false
elsewhere Qualifying at product c (factor.IrCurve n t s) h = and_other (same_product c product) true (same_bucket_id (id.Currency n) (bucket_id_of at))
elsewhere Qualifying at product c (factor.Inflation n) h = and_other (same_product c product) true (same_bucket_id (id.Currency n) (bucket_id_of at))
elsewhere Qualifying at product c (factor.XccyBasis n) h = and_other (same_product c product) true (same_bucket_id (id.Currency n) (bucket_id_of at))
elsewhere Qualifying at product c (factor.IrVol n t) h = and_other (same_product c product) false (same_bucket_id (id.Currency n) (bucket_id_of at))
elsewhere Qualifying at product c (factor.InflationVol n t) h = and_other (same_product c product) false (same_bucket_id (id.Currency n) (bucket_id_of at))
elsewhere Qualifying at product c (factor.CreditQ i b t l) h =
    and_bucket (same_product c product) (same_bucket_id (bucket_id_of b) (bucket_id_of at)) (bucket_ids b at ∙ not_chosen (same_bucket b at) (credit_point i t l) h)
elsewhere Qualifying at product c (factor.CreditVol i b t l) h = and_side (same_product c product) (same_bucket_id (bucket_id_of b) (bucket_id_of at))
elsewhere Qualifying at product c (factor.CreditNonQ i b t l) h = and_other (same_product c product) true (same_bucket_id (bucket_id_of b) (bucket_id_of at))
elsewhere Qualifying at product c (factor.CreditVolNonQ i b t l) h = and_other (same_product c product) false (same_bucket_id (bucket_id_of b) (bucket_id_of at))
elsewhere Qualifying at product c (factor.BaseCorr i) h = and_bucket (same_product c product) (same_bucket_id id.Single (bucket_id_of at)) (not_single at)
elsewhere Qualifying at product c (factor.Equity i b) h = and_other (same_product c product) true (same_bucket_id (bucket_id_of b) (bucket_id_of at))
elsewhere Qualifying at product c (factor.EquityVol i b t) h = and_other (same_product c product) false (same_bucket_id (bucket_id_of b) (bucket_id_of at))
elsewhere Qualifying at product c (factor.Commodity n b) h = and_other (same_product c product) true (same_bucket_id (id.Number b) (bucket_id_of at))
elsewhere Qualifying at product c (factor.CommodityVol n b t) h = and_other (same_product c product) false (same_bucket_id (id.Number b) (bucket_id_of at))
elsewhere Qualifying at product c (factor.Fx n) h = and_other (same_product c product) true (same_bucket_id id.Single (bucket_id_of at))
elsewhere Qualifying at product c (factor.FxVol p t) h = and_other (same_product c product) false (same_bucket_id id.Single (bucket_id_of at))
elsewhere NonQualifying at product c (factor.IrCurve n t s) h = and_other (same_product c product) true (same_bucket_id (id.Currency n) (bucket_id_of at))
elsewhere NonQualifying at product c (factor.Inflation n) h = and_other (same_product c product) true (same_bucket_id (id.Currency n) (bucket_id_of at))
elsewhere NonQualifying at product c (factor.XccyBasis n) h = and_other (same_product c product) true (same_bucket_id (id.Currency n) (bucket_id_of at))
elsewhere NonQualifying at product c (factor.IrVol n t) h = and_other (same_product c product) false (same_bucket_id (id.Currency n) (bucket_id_of at))
elsewhere NonQualifying at product c (factor.InflationVol n t) h = and_other (same_product c product) false (same_bucket_id (id.Currency n) (bucket_id_of at))
elsewhere NonQualifying at product c (factor.CreditQ i b t l) h = and_other (same_product c product) true (same_bucket_id (bucket_id_of b) (bucket_id_of at))
elsewhere NonQualifying at product c (factor.CreditVol i b t l) h = and_other (same_product c product) false (same_bucket_id (bucket_id_of b) (bucket_id_of at))
elsewhere NonQualifying at product c (factor.CreditNonQ i b t l) h =
    and_bucket (same_product c product) (same_bucket_id (bucket_id_of b) (bucket_id_of at)) (bucket_ids b at ∙ not_chosen (same_bucket b at) (credit_point i t l) h)
elsewhere NonQualifying at product c (factor.CreditVolNonQ i b t l) h = and_side (same_product c product) (same_bucket_id (bucket_id_of b) (bucket_id_of at))
elsewhere NonQualifying at product c (factor.BaseCorr i) h = and_other (same_product c product) true (same_bucket_id id.Single (bucket_id_of at))
elsewhere NonQualifying at product c (factor.Equity i b) h = and_other (same_product c product) true (same_bucket_id (bucket_id_of b) (bucket_id_of at))
elsewhere NonQualifying at product c (factor.EquityVol i b t) h = and_other (same_product c product) false (same_bucket_id (bucket_id_of b) (bucket_id_of at))
elsewhere NonQualifying at product c (factor.Commodity n b) h = and_other (same_product c product) true (same_bucket_id (id.Number b) (bucket_id_of at))
elsewhere NonQualifying at product c (factor.CommodityVol n b t) h = and_other (same_product c product) false (same_bucket_id (id.Number b) (bucket_id_of at))
elsewhere NonQualifying at product c (factor.Fx n) h = and_other (same_product c product) true (same_bucket_id id.Single (bucket_id_of at))
elsewhere NonQualifying at product c (factor.FxVol p t) h = and_other (same_product c product) false (same_bucket_id id.Single (bucket_id_of at))

-- the points of the place are those of the bucket
pub points_there : (class : CreditClass) (at : Bucket) (product : ProductClass) (fs : List (FactorKey × Holding)) → point_nets (factors_at (points_place class at product) fs) ≡ points_in class at product fs
points_there class at product fs =
    issuers_place (as_credit class at) as_point (λ x. x) (points_place class at product) (stands class at product) (λ k x e. itself class at k.factor x e) (λ k e. elsewhere class at product k.product k.factor e) fs
    ∙ map-itself (λ (a : Amount CreditPoint). record { of = a.of; amount = a.amount }) (λ a. refl) (points_in class at product fs)

-- ---- in which order

abbrev parts_then : Ordering → Ordering → Ordering → Ordering → Ordering
parts_then a b c d = ordering_then a (ordering_then b (ordering_then c (ordering_then d Equal)))

pub by_parts : (x y : CreditPoint) (b c at : Bucket) → same_bucket b at ≡ true → same_bucket c at ≡ true
    → parts_then (name_cmp x.issuer y.issuer) (name_cmp (bucket_numbers b) (bucket_numbers c)) (name_cmp (credit_tenor_place x.tenor ∷ []) (credit_tenor_place y.tenor ∷ [])) (name_cmp x.label y.label) ≡ point_cmp x y
by_parts x y b c at p q =
    let issuer = name_cmp x.issuer y.issuer in
    let tenor = nat_cmp (credit_tenor_place x.tenor) (credit_tenor_place y.tenor) in
    let label = name_cmp x.label y.label in
    ap (λ o. parts_then issuer o (name_cmp (credit_tenor_place x.tenor ∷ []) (credit_tenor_place y.tenor ∷ [])) label) (tied_buckets b c at p q)
    ∙ ap (λ o. ordering_then issuer (ordering_then o (ordering_then label Equal))) (then_Equal tenor)
    ∙ ap (λ o. ordering_then issuer (ordering_then tenor o)) (then_Equal label)

less : (class : CreditClass) (at : Bucket) (product : ProductClass) (k l : FactorKey) (x y : CreditPoint) → same_product k.product product ≡ true → same_product l.product product ≡ true → as_credit class at (risk k.factor) ≡ Some x → as_credit class at (risk l.factor) ≡ Some y → key_cmp k l ≡ Less → point_cmp x y ≡ Less
less Qualifying at product k l x y p q e d h =
    let i = is_qualifying at k.factor x e in
    let j = is_qualifying at l.factor y d in
    sym (by_factor product k l (factor.CreditQ x.issuer i.of x.tenor x.label) (factor.CreditQ y.issuer j.of y.tenor y.label) p q i.is j.is ∙ by_parts x y i.of j.of at i.inside j.inside) ∙ h
less NonQualifying at product k l x y p q e d h =
    let i = is_non_qualifying at k.factor x e in
    let j = is_non_qualifying at l.factor y d in
    sym (by_factor product k l (factor.CreditNonQ x.issuer i.of x.tenor x.label) (factor.CreditNonQ y.issuer j.of y.tenor y.label) p q i.is j.is ∙ by_parts x y i.of j.of at i.inside j.inside) ∙ h

pub points_ascend : (class : CreditClass) (at : Bucket) (product : ProductClass) (fs : List (FactorKey × Holding)) → IsBook fs → IsStrictlySortedBy point_cmp (map (λ a. a.of) (points_in class at product fs))
points_ascend class at product fs book = select_ascends (as_credit class at) point_cmp product (less class at product) fs book
