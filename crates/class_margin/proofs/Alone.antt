-- What is read of a book's factors is read of those alone that pass a test, where nothing else is of its sort.
use Rattle.std.proofs.Common.{◌≡◌, List, [], ◌∷◌, Bool, true, false, cond, Option, Some, None, refl, sym, ap, ◌∙◌}
use Rattle.std.specs.List.{filter}
use Rattle.class_rates.specs.SimmKinds.declared.kinds.ProductClass.{ProductClass}
use Rattle.class_rates.specs.SimmKinds.declared.key.FactorKey.{FactorKey}
use Rattle.class_rates.specs.SimmKinds.Order.{same_product}
use Rattle.class_rates.specs.SimmRules.Net.{Sensitivity}
use Rattle.class_rates.specs.SimmRules.Risks.{Risk, risk, select}
use Rattle.class_rates.specs.FactorBook.declared.place.Place.{Place}
use Rattle.class_rates.specs.FactorBook.declared.holding.Holding.{Holding}
use Rattle.class_rates.specs.FactorBook.Factors.{net_of}
use Rattle.class_rates.specs.FactorBook.Places.{factors_at}
use Rattle.class_margin.specs.names_delta.Values.{nets_in}
use Rattle.class_rates.proofs.MeasuredBucket.Selected.{select_none, select_some}

abbrev Factors : Type 0
Factors = List (FactorKey × Holding)

-- ---- whatever is read one sensitivity at a time

module _ {X : Type 0} (read : List Sensitivity → X) (more : (s : Sensitivity) (xs ys : List Sensitivity) → read xs ≡ read ys → read (s ∷ xs) ≡ read (s ∷ ys)) (product : ProductClass) (test : FactorKey → Bool)
    (idle : (s : Sensitivity) (ss : List Sensitivity) → same_product s.key.product product ≡ true → test s.key ≡ false → read (s ∷ ss) ≡ read ss) where
  read_alone : (fs : Factors) → read (nets_in product (filter (λ f. test f.0) fs)) ≡ read (nets_in product fs)
  read_alone [] = refl
  read_alone (f ∷ fs) = by (filter (λ g. test g.0) fs) (test f.0) (same_product f.0.product product) refl refl (read_alone fs)
    where
      by : (kept : Factors) (t s : Bool) → test f.0 ≡ t → same_product f.0.product product ≡ s → read (nets_in product kept) ≡ read (nets_in product fs)
          → read (nets_in product (cond t (f ∷ kept) kept)) ≡ read (cond s (net_of f ∷ nets_in product fs) (nets_in product fs))
      by kept true true e p i = ap (λ b. read (cond b (net_of f ∷ nets_in product kept) (nets_in product kept))) p ∙ more (net_of f) (nets_in product kept) (nets_in product fs) i
      by kept true false e p i = ap (λ b. read (cond b (net_of f ∷ nets_in product kept) (nets_in product kept))) p ∙ i
      by kept false true e p i = i ∙ sym (idle (net_of f) (nets_in product fs) p e)
      by kept false false e p i = i

-- ---- what is selected

module _ {A : Type 0} (sort : Risk → Option A) where
  one_more : (s : Sensitivity) (xs ys : List Sensitivity) → select sort xs ≡ select sort ys → select sort (s ∷ xs) ≡ select sort (s ∷ ys)
  one_more s xs ys i = by (sort (risk s.key.factor)) refl
    where
      by : (o : Option A) → sort (risk s.key.factor) ≡ o → select sort (s ∷ xs) ≡ select sort (s ∷ ys)
      by None e = select_none sort s xs e ∙ i ∙ sym (select_none sort s ys e)
      by (Some x) e = select_some sort s xs x e ∙ ap (λ rest. record { of = x; amount = s.amount } ∷ rest) i ∙ sym (select_some sort s ys x e)

  pub select_alone : (product : ProductClass) (test : FactorKey → Bool) → ((k : FactorKey) → same_product k.product product ≡ true → test k ≡ false → sort (risk k.factor) ≡ None)
      → (fs : List (FactorKey × Holding)) → select sort (nets_in product (filter (λ f. test f.0) fs)) ≡ select sort (nets_in product fs)
  select_alone product test none fs = read_alone (select sort) one_more product test (λ s ss p e. select_none sort s ss (none s.key p e)) fs

-- ---- at a place

-- what two books say of a place is the same where their factors there are
pub same_there : {X : Type 0} (here read : List (FactorKey × Holding) → X) (place : Place) → ((fs : List (FactorKey × Holding)) → here (factors_at place fs) ≡ read fs)
    → (f g : List (FactorKey × Holding)) → factors_at place f ≡ factors_at place g → read f ≡ read g
same_there here read place there f g e = sym (there f) ∙ ap here e ∙ there g
