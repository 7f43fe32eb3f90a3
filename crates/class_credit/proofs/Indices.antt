-- Index families: where they stand, in which order, and what is known of their weighted values.
use Rattle.std.proofs.Common.{◌≡◌, ◌^◌, ℕ, ◌+◌, ◌*◌, ◌≤◌, List, [], map, Some, true, refl, sym, ap, ◌∙◌, ℤ, pos, ◌*ℤ◌, ◌≤ℤ◌, unsigned_abs, All, arith}
use Rattle.std.specs.declared.cmp.Ordering.TheVariants.{Less}
use Rattle.std.specs.List.{AllByRecursion}
use Rattle.std.specs.List.Sorted.{IsStrictlySortedBy}
use Rattle.std.proofs.lemmas.Cmp.{nat_list_cmp_total}
use Rattle.std.proofs.lemmas.Int.{ints, unsigned_abs-mul}
use Rattle.std.proofs.lemmas.List.Elements.{All-from_recursion}
use Rattle.std.proofs.lemmas.Simd.{map-map}
use Rattle.measured_bucket.specs.MhUnits.Rounding.{away}
use Rattle.measured_bucket.specs.SimmKinds.declared.kinds.ProductClass.{ProductClass}
use Rattle.measured_bucket.specs.SimmKinds.declared.factor.Factor.{Factor}
use Rattle.measured_bucket.specs.SimmKinds.declared.factor.Factor.TheVariants as factor
use Rattle.measured_bucket.specs.SimmKinds.declared.key.FactorKey.{FactorKey}
use Rattle.measured_bucket.specs.SimmKinds.Order.{same_product, key_cmp, name_cmp, same_name}
use Rattle.measured_bucket.specs.SimmRules.Params.{Params}
use Rattle.measured_bucket.specs.SimmRules.Lookups.{six}
use Rattle.measured_bucket.specs.SimmRules.Risks.{risk, Amount}
use Rattle.measured_bucket.specs.SimmRules.BaseCorrelation.{as_index, weighted_index, index_rho}
use Rattle.measured_bucket.specs.SimmParams.Facts.{IsParams}
use Rattle.measured_bucket.specs.FactorBook.declared.holding.Holding.{Holding}
use Rattle.measured_bucket.specs.FactorBook.Factors.{IsBook}
use Rattle.measured_bucket.specs.FactorBook.Places.{stands_at, factors_at}
use Rattle.measured_bucket.specs.WeightedBucket.declared.weighed.Weighed.{Weighed}
use Rattle.measured_bucket.specs.Measured.{AreCorrelated}
use Rattle.measured_bucket.specs.Values.{IsSmall}
use Rattle.measured_bucket.proofs.Columns.{IsClose, IsColumn, is_column}
use Rattle.measured_bucket.proofs.Keys.{then_Equal, and_trues, key_with, by_factor}
use Rattle.measured_bucket.proofs.Lists.{each_unmap}
use Rattle.measured_bucket.proofs.Selected.{select_place, select_ascends}
use Rattle.measured_bucket.proofs.Sizes.{away_size_close, size_small, each_small}
use Rattle.measured_bucket.proofs.Valued.{correlated}
use Rattle.class_credit.specs.declared.base.IndexNet.{IndexNet}
use Rattle.class_credit.specs.Base.{base_place, index_nets, index_view, indices_view, indices_of, index_weight, weighed_net, AreIndices}

is_index : (f : Factor) (x : List ℕ) → as_index (risk f) ≡ Some x → f ≡ factor.BaseCorr x
is_index (factor.IrCurve c t s) x h = absurd (cc)
is_index (factor.Inflation c) x h = absurd (cc)
is_index (factor.XccyBasis c) x h = absurd (cc)
is_index (factor.IrVol c t) x h = absurd (cc)
is_index (factor.InflationVol c t) x h = absurd (cc)
is_index (factor.CreditQ i b t l) x h = absurd (cc)
is_index (factor.CreditVol i b t l) x h = absurd (cc)
is_index (factor.CreditNonQ i b t l) x h = absurd (cc)
is_index (factor.CreditVolNonQ i b t l) x h = absurd (cc)
is_index (factor.BaseCorr i) x h = cc
is_index (factor.Equity i b) x h = absurd (cc)
is_index (factor.EquityVol i b t) x h = absurd (cc)
is_index (factor.Commodity n b) x h = absurd (cc)
is_index (factor.CommodityVol n b t) x h = absurd (cc)
is_index (factor.Fx c) x h = absurd (cc)
is_index (factor.FxVol p t) x h = absurd (cc)

stands : (product : ProductClass) (k : FactorKey) (x : List ℕ) → as_index (risk k.factor) ≡ Some x → stands_at (base_place product) k ≡ same_product k.product product
stands product k x e = ap (λ f. stands_at (base_place product) (key_with k.product f)) (is_index k.factor x e) ∙ and_trues (same_product k.product product)

-- the index families of the place are those of the product class
pub indices_there : (product : ProductClass) (fs : List (FactorKey × Holding)) → index_nets (factors_at (base_place product) fs) ≡ indices_of product fs
indices_there product fs = select_place as_index (base_place product) (stands product) fs

less : (product : ProductClass) (k l : FactorKey) (x y : List ℕ) → same_product k.product product ≡ true → same_product l.product product ≡ true → as_index (risk k.factor) ≡ Some x → as_index (risk l.factor) ≡ Some y → key_cmp k l ≡ Less → name_cmp x y ≡ Less
less product k l x y p q e d h =
    sym (by_factor product k l (factor.BaseCorr x) (factor.BaseCorr y) p q (is_index k.factor x e) (is_index l.factor y d) ∙ then_Equal (name_cmp x y)) ∙ h

pub indices_ascend : (product : ProductClass) (fs : List (FactorKey × Holding)) → IsBook fs → IsStrictlySortedBy name_cmp (map (λ a. a.of) (indices_of product fs))
indices_ascend product fs book = select_ascends as_index name_cmp product (less product) fs book

-- each is close to its weighted size
close : (w x : ℤ) → unsigned_abs (away (w *ℤ x) (pos (10 ^ 4))) * 10 ^ 10 ≤ unsigned_abs x * unsigned_abs w * 346999999 + 10 ^ 10
close w x = omega (arith, away_size_close (w *ℤ x) (10 ^ 4) (omega arith), unsigned_abs-mul w x)

pub index_weight-low : (p : Params) → IsParams p → (x : List ℕ) → pos 0 ≤ℤ index_weight p x
index_weight-low p facts x = omega (arith, ints, facts.base_weight.low)

-- ---- index families that can be measured

module _ (p : Params) (facts : IsParams p) (indices : List (Amount (List ℕ))) (are : AreIndices p indices) where
  pub indices_small : AllByRecursion (λ a. IsSmall p.base_weight a.amount) indices
  indices_small = each_small (index_weight p) (index_weight-low p facts) indices are.range

  each : (a : Amount (List ℕ)) → IsClose (10 ^ 10) 346999999 1 (index_weight p) a (weighed_net p.base_weight a.amount)
  each a = record { from_one = omega (arith, ints); below = omega (arith, ints); close = omega (arith, close p.base_weight a.amount) }

  pub index_column : (factors : List Weighed) → factors ≡ map (λ a. weighed_net p.base_weight a.amount) indices → IsColumn (10 ^ 10) 346999999 1 (index_weight p) indices (weighted_index p) factors
  index_column factors made =
      is_column (10 ^ 10) 346999999 1 (index_weight p) (index_weight-low p facts) (weighted_index p) each indices
      (λ gross h. omega (arith, h, size_small (index_weight p) (index_weight-low p facts) indices are.range, are.range.few)) factors made

  pub indices_correlated : (rho : ℤ) → rho ≡ six p.base_rho → AreCorrelated same_name (index_rho p) (map (weighted_index p) indices) (λ _ _. rho)
  indices_correlated rho is =
      correlated name_cmp nat_list_cmp_total same_name (λ x y. refl) (index_rho p) (weighted_index p) (λ a. refl) (record { of = []; amount = pos 0 }) indices are.ascends (λ _ _. rho) (λ i j l m apart. is)

-- ---- as the code has them

pub views_small : (p : Params) → IsParams p → (nets : List IndexNet) → AreIndices p (indices_view nets) → All (λ index. IsSmall p.base_weight index.net) nets
views_small p facts nets are =
    All-from_recursion (λ (index : IndexNet). IsSmall p.base_weight index.net) nets
    (each_unmap (λ (a : Amount (List ℕ)). IsSmall p.base_weight a.amount) index_view nets (indices_small p facts (indices_view nets) are))

pub views_made : (w v : ℤ) (nets : List IndexNet) (factors : List Weighed) → factors ≡ map (λ index. weighed_net v index.net) nets → v ≡ w → factors ≡ map (λ a. weighed_net w a.amount) (indices_view nets)
views_made w v nets factors e is = e ∙ ap (λ z. map (λ (index : IndexNet). weighed_net z index.net) nets) is ∙ sym (map-map (λ (a : Amount (List ℕ)). weighed_net w a.amount) index_view nets)
