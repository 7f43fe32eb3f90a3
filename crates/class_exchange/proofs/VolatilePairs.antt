-- Volatilities of pairs of currencies: where they stand, and in which order.
use Rattle.std.proofs.Common.{◌≡◌, List, [], ◌∷◌, map, false, true, ◌&&◌, Some, None, refl, sym, ap, ◌∙◌}
use Rattle.std.specs.declared.cmp.Ordering.{Ordering}
use Rattle.std.specs.declared.cmp.Ordering.TheVariants.{Less, Equal, Greater}
use Rattle.std.specs.Ordering.{nat_cmp, ordering_then, is_eq}
use Rattle.std.specs.List.Sorted.{IsStrictlySortedBy}
use Rattle.std.specs.Cmp.{IsTotalOrder}
use Rattle.std.specs.Str.{bytes_eq}
use Rattle.std.proofs.lemmas.Cmp.{nat_list_cmp_total, on_total, then_total}
use Rattle.std.proofs.lemmas.Map.Lookups.{CmpEqualImpliesEq, exact_bytes}
use Rattle.std.proofs.lemmas.Map.Text.{is_eq-slice_cmp}
use Rattle.measured_bucket.specs.SimmKinds.declared.kinds.ProductClass.{ProductClass}
use Rattle.measured_bucket.specs.SimmKinds.declared.kinds.BucketId.TheVariants as id
use Rattle.measured_bucket.specs.SimmKinds.declared.factor.Factor.{Factor}
use Rattle.measured_bucket.specs.SimmKinds.declared.factor.Factor.TheVariants as factor
use Rattle.measured_bucket.specs.SimmKinds.declared.key.FactorKey.{FactorKey}
use Rattle.measured_bucket.specs.SimmKinds.Factors.{bucket_id_of}
use Rattle.measured_bucket.specs.SimmKinds.Pair.{Pair}
use Rattle.measured_bucket.specs.SimmKinds.Order.{same_product, key_cmp, name_cmp, pair_cmp, same_pair, tenor_place, same_bucket_id}
use Rattle.measured_bucket.specs.SimmRules.Risks.{risk, Amount}
use Rattle.measured_bucket.specs.SimmRules.ForeignExchange.{PairVolatility, as_pair_volatility}
use Rattle.measured_bucket.specs.FactorBook.declared.holding.Holding.{Holding}
use Rattle.measured_bucket.specs.FactorBook.Factors.{IsBook}
use Rattle.measured_bucket.specs.FactorBook.Places.{stands_at, factors_at}
use Rattle.measured_bucket.proofs.Keys.{then_Equal, and_trues, and_other, and_side, key_with, by_factor}
use Rattle.measured_bucket.proofs.Lists.{map-itself}
use Rattle.measured_bucket.proofs.Selected.{issuers_place, select_ascends}
use Rattle.class_exchange.specs.Pairs.{pairs_place, pair_volatilities, pair_nets}
use Rattle.measured_bucket.proofs.OverTenors.{Things, volatility_cmp}

-- ---- the order of pairs

pub pairs_total : IsTotalOrder pair_cmp
pairs_total = then_total (on_total (λ p. p.first) nat_list_cmp_total) (on_total (λ p. p.second) nat_list_cmp_total)

both_Equal : (a b : Ordering) → ordering_then a b ≡ Equal → (a ≡ Equal) × (b ≡ Equal)
both_Equal Less b e = absurd (cc)
both_Equal Equal b e = (refl, e)
both_Equal Greater b e = absurd (cc)

pub exact_pair : CmpEqualImpliesEq pair_cmp
exact_pair p q e =
    let both = both_Equal (name_cmp p.first q.first) (name_cmp p.second q.second) e in
    let first = exact_bytes p.first q.first both.0 in
    let second = exact_bytes p.second q.second both.1 in
    λ i. record { first = first i; second = second i }

-- two are one where both currencies are
either : (a b : Ordering) → is_eq (ordering_then a b) ≡ (is_eq a && is_eq b)
either Less b = refl
either Equal b = refl
either Greater b = refl

pub pair_tests : (p q : Pair) → same_pair p q ≡ (bytes_eq p.first q.first && bytes_eq p.second q.second)
pair_tests p q =
    either (name_cmp p.first q.first) (name_cmp p.second q.second) ∙ ap (λ t. t && is_eq (name_cmp p.second q.second)) (is_eq-slice_cmp p.first q.first)
    ∙ ap (λ t. bytes_eq p.first q.first && t) (is_eq-slice_cmp p.second q.second)

-- ---- which factors they are

is_volatility : (f : Factor) (x : PairVolatility) → as_pair_volatility (risk f) ≡ Some x → f ≡ factor.FxVol x.pair x.tenor
is_volatility (factor.IrCurve n t s) x h = absurd (cc)
is_volatility (factor.Inflation n) x h = absurd (cc)
is_volatility (factor.XccyBasis n) x h = absurd (cc)
is_volatility (factor.IrVol n t) x h = absurd (cc)
is_volatility (factor.InflationVol n t) x h = absurd (cc)
is_volatility (factor.CreditQ i b t l) x h = absurd (cc)
is_volatility (factor.CreditVol i b t l) x h = absurd (cc)
is_volatility (factor.CreditNonQ i b t l) x h = absurd (cc)
is_volatility (factor.CreditVolNonQ i b t l) x h = absurd (cc)
is_volatility (factor.BaseCorr i) x h = absurd (cc)
is_volatility (factor.Equity i b) x h = absurd (cc)
is_volatility (factor.EquityVol i b t) x h = absurd (cc)
is_volatility (factor.Commodity n b) x h = absurd (cc)
is_volatility (factor.CommodityVol n b t) x h = absurd (cc)
is_volatility (factor.Fx n) x h = absurd (cc)
is_volatility (factor.FxVol p t) x h =
    let is : record { pair = p; tenor = t } ≡ x = cc in ap (λ (z : PairVolatility). factor.FxVol z.pair z.tenor) is

-- ---- where they stand

stands : (product : ProductClass) (k : FactorKey) (x : PairVolatility) → as_pair_volatility (risk k.factor) ≡ Some x → stands_at (pairs_place product) k ≡ same_product k.product product
stands product k x e = ap (λ f. stands_at (pairs_place product) (key_with k.product f)) (is_volatility k.factor x e) ∙ and_trues (same_product k.product product)

elsewhere : (product c : ProductClass) (f : Factor) → as_pair_volatility (risk f) ≡ None → stands_at (pairs_place product) (key_with c f) ≡ false
elsewhere product c (factor.IrCurve n t s) h = and_other (same_product c product) false (same_bucket_id (id.Currency n) id.Single)
elsewhere product c (factor.Inflation n) h = and_other (same_product c product) false (same_bucket_id (id.Currency n) id.Single)
elsewhere product c (factor.XccyBasis n) h = and_other (same_product c product) false (same_bucket_id (id.Currency n) id.Single)
elsewhere product c (factor.IrVol n t) h = and_other (same_product c product) true (same_bucket_id (id.Currency n) id.Single)
elsewhere product c (factor.InflationVol n t) h = and_other (same_product c product) true (same_bucket_id (id.Currency n) id.Single)
elsewhere product c (factor.CreditQ i b t l) h = and_other (same_product c product) false (same_bucket_id (bucket_id_of b) id.Single)
elsewhere product c (factor.CreditVol i b t l) h = and_other (same_product c product) true (same_bucket_id (bucket_id_of b) id.Single)
elsewhere product c (factor.CreditNonQ i b t l) h = and_other (same_product c product) false (same_bucket_id (bucket_id_of b) id.Single)
elsewhere product c (factor.CreditVolNonQ i b t l) h = and_other (same_product c product) true (same_bucket_id (bucket_id_of b) id.Single)
elsewhere product c (factor.BaseCorr i) h = and_other (same_product c product) false true
elsewhere product c (factor.Equity i b) h = and_other (same_product c product) false (same_bucket_id (bucket_id_of b) id.Single)
elsewhere product c (factor.EquityVol i b t) h = and_other (same_product c product) true (same_bucket_id (bucket_id_of b) id.Single)
elsewhere product c (factor.Commodity n b) h = and_other (same_product c product) false (same_bucket_id (id.Number b) id.Single)
elsewhere product c (factor.CommodityVol n b t) h = and_other (same_product c product) true (same_bucket_id (id.Number b) id.Single)
elsewhere product c (factor.Fx n) h = and_side (same_product c product) true
elsewhere product c (factor.FxVol p t) h = absurd (cc)

-- the nets of the place are those of the pairs
pub pairs_there : (product : ProductClass) (fs : List (FactorKey × Holding)) → pair_nets (factors_at (pairs_place product) fs) ≡ pair_volatilities product fs
pairs_there product fs =
    issuers_place as_pair_volatility as_pair_volatility (λ x. x) (pairs_place product) (stands product) (λ k x e. e) (λ k e. elsewhere product k.product k.factor e) fs
    ∙ map-itself (λ (a : Amount PairVolatility). record { of = a.of; amount = a.amount }) (λ a. refl) (pair_volatilities product fs)

-- ---- what they are of

abbrev pub pairs : Things Pair PairVolatility
pairs = record {
  cmp = pair_cmp;
  order = pairs_total;
  exact = exact_pair;
  same = same_pair;
  tests = λ x y. refl;
  key = λ x. x.pair;
  tenor = λ x. x.tenor;
}

-- ---- in which order

three : (a b c : Ordering) → ordering_then a (ordering_then b (ordering_then c Equal)) ≡ ordering_then (ordering_then a b) c
three Less b c = refl
three Equal b c = ap (ordering_then b) (then_Equal c)
three Greater b c = refl

by_parts : (x y : PairVolatility) → ordering_then (name_cmp (x.pair).first (y.pair).first) (ordering_then (name_cmp (x.pair).second (y.pair).second) (ordering_then (name_cmp (tenor_place x.tenor ∷ []) (tenor_place y.tenor ∷ [])) Equal)) ≡ volatility_cmp pairs x y
by_parts x y =
    let first = name_cmp (x.pair).first (y.pair).first in
    let second = name_cmp (x.pair).second (y.pair).second in
    three first second (name_cmp (tenor_place x.tenor ∷ []) (tenor_place y.tenor ∷ []))
    ∙ ap (ordering_then (ordering_then first second)) (then_Equal (nat_cmp (tenor_place x.tenor) (tenor_place y.tenor)))

less : (product : ProductClass) (k l : FactorKey) (x y : PairVolatility) → same_product k.product product ≡ true → same_product l.product product ≡ true → as_pair_volatility (risk k.factor) ≡ Some x → as_pair_volatility (risk l.factor) ≡ Some y → key_cmp k l ≡ Less → volatility_cmp pairs x y ≡ Less
less product k l x y p q e d h =
    sym (by_factor product k l (factor.FxVol x.pair x.tenor) (factor.FxVol y.pair y.tenor) p q (is_volatility k.factor x e) (is_volatility l.factor y d) ∙ by_parts x y) ∙ h

pub volatilities_ascend : (product : ProductClass) (fs : List (FactorKey × Holding)) → IsBook fs → IsStrictlySortedBy (volatility_cmp pairs) (map (λ a. a.of) (pair_volatilities product fs))
volatilities_ascend product fs book = select_ascends as_pair_volatility (volatility_cmp pairs) product (less product) fs book
