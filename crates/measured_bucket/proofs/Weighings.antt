-- Factors that have been weighed so far.
use Rattle.std.proofs.Common.{◌≡◌, List, [], ◌∷◌, ◌++◌, map, Option, Some, None, sym, ap, ◌∙◌, subst, ℤ, append_assoc}
use Rattle.std.specs.List.{AllByRecursion}
use Rattle.simm_params.specs.MhUnits.declared.quantities.Corr6.{Corr6}
use Rattle.simm_params.specs.SimmKinds.declared.key.FactorKey.{FactorKey}
use Rattle.simm_params.specs.SimmRules.Risks.{Risk, risk, Amount, select}
use Rattle.factor_book.specs.declared.holding.Holding.{Holding}
use Rattle.factor_book.specs.Factors.{net_of}
use Rattle.weighted_bucket.specs.declared.weighed.Weighed.{Weighed}
use Rattle.measured_bucket.specs.Values.{nets, AreSmall, IsSmall}
use Rattle.measured_bucket.proofs.Selected.{select_none, select_some}

abbrev pub weighed_with : ℤ → Corr6 → Weighed
weighed_with w c = record { w = w; cr = c }

-- a factor with this weighted value and this concentration factor
pub weighed_is : (w : ℤ) (c : Corr6) (value factor : ℤ) → w ≡ value → c.0 ≡ factor → weighed_with w c ≡ weighed_with value (record { 0 = factor })
weighed_is w c value factor is_weighted is_factor = ap (λ z. weighed_with z c) is_weighted ∙ ap (λ z. weighed_with value (record { 0 = z })) is_factor

-- ---- each net of a place

-- these are weighed, and the rest is small enough to be
pub record Weighing (W : ℤ → Weighed) (P : ℤ → Type 0) (whole rest : List (FactorKey × Holding)) (done : List Weighed) : Type 0 where
  pub made : done ++ map W (nets rest) ≡ map W (nets whole)
  pub small : AllByRecursion P (nets rest)

module _ (W : ℤ → Weighed) (P : ℤ → Type 0) (whole left rest : List (FactorKey × Holding)) (f : FactorKey × Holding) (done : List Weighed) (at : left ≡ f ∷ rest) (so_far : Weighing W P whole left done) where
  pub weighing_small : P (f.1).net
  weighing_small = (subst (λ fs. AllByRecursion P (nets fs)) at so_far.small).0

  -- one net more
  pub weighing_next : (more : List Weighed) (w : Weighed) → more ≡ done ++ w ∷ [] → w ≡ W (f.1).net → Weighing W P whole rest more
  weighing_next more w grown is = record {
    made = ap (λ ws. ws ++ map W (nets rest)) (grown ∙ ap (λ x. done ++ x ∷ []) is) ∙ append_assoc done (W (f.1).net ∷ []) (map W (nets rest)) ∙ subst (λ fs. done ++ map W (nets fs) ≡ map W (nets whole)) at so_far.made;
    small = (subst (λ fs. AllByRecursion P (nets fs)) at so_far.small).1;
  }

-- ---- those of a sort

abbrev pub picked : {A : Type 0} → (Risk → Option A) → List (FactorKey × Holding) → List (Amount A)
picked sort factors = select sort (map net_of factors)

-- these are made, of those of a sort so far
pub record Picking {A B : Type 0} (sort : Risk → Option A) (V : Amount A → B) (whole rest : List (FactorKey × Holding)) (done : List B) : Type 0 where
  pub made : done ++ map V (picked sort rest) ≡ map V (picked sort whole)

module _ {A B : Type 0} (sort : Risk → Option A) (V : Amount A → B) (whole left rest : List (FactorKey × Holding)) (f : FactorKey × Holding) (done : List B) (at : left ≡ f ∷ rest) (so_far : Picking sort V whole left done) where
  here : done ++ map V (picked sort (f ∷ rest)) ≡ map V (picked sort whole)
  here = subst (λ fs. done ++ map V (picked sort fs) ≡ map V (picked sort whole)) at so_far.made

  pub picking_next : (x : A) (more : List B) (v : B) → sort (risk f.0.factor) ≡ Some x → more ≡ done ++ v ∷ [] → v ≡ V (record { of = x; amount = (f.1).net }) → Picking sort V whole rest more
  picking_next x more v e grown is =
      let a : Amount A = record { of = x; amount = (f.1).net } in
      record {
        made = ap (λ vs. vs ++ map V (picked sort rest)) (grown ∙ ap (λ u. done ++ u ∷ []) is) ∙ append_assoc done (V a ∷ []) (map V (picked sort rest))
            ∙ sym (ap (λ amounts. done ++ map V amounts) (select_some sort (net_of f) (map net_of rest) x e)) ∙ here;
      }

  pub picking_skip : sort (risk f.0.factor) ≡ None → Picking sort V whole rest done
  picking_skip e = record { made = sym (ap (λ amounts. done ++ map V amounts) (select_none sort (net_of f) (map net_of rest) e)) ∙ here }

module _ {A : Type 0} (sort : Risk → Option A) (weight : A → ℤ) (left rest : List (FactorKey × Holding)) (f : FactorKey × Holding) (at : left ≡ f ∷ rest) (small : AreSmall weight (picked sort left)) where
  small_here : AreSmall weight (picked sort (f ∷ rest))
  small_here = subst (λ fs. AreSmall weight (picked sort fs)) at small

  pub small_next : (x : A) → sort (risk f.0.factor) ≡ Some x → IsSmall (weight x) (f.1).net × AreSmall weight (picked sort rest)
  small_next x e = subst (AreSmall weight) (select_some sort (net_of f) (map net_of rest) x e) small_here

  pub small_skip : sort (risk f.0.factor) ≡ None → AreSmall weight (picked sort rest)
  small_skip e = subst (AreSmall weight) (select_none sort (net_of f) (map net_of rest) e) small_here
