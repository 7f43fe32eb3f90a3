-- Sensitivities to what is of one currency: where a book lends them, and in which order.
use Rattle.std.proofs.Common.{◌≡◌, ℕ, List, [], ◌∷◌, ◌++◌, map, Bool, true, false, cond, if◌then◌else◌, Option, Some, None, refl, sym, ap, ◌∙◌, subst, append-nil}
use Rattle.std.specs.declared.cmp.Ordering.{Ordering}
use Rattle.std.specs.declared.cmp.Ordering.TheVariants.{Less}
use Rattle.std.specs.Ordering.{is_eq}
use Rattle.std.specs.List.{filter}
use Rattle.std.specs.List.Sorted.{IsStrictlySortedBy}
use Rattle.std.proofs.lemmas.Cmp.{nat_list_cmp_total, tied_itself}
use Rattle.std.proofs.lemmas.Map.Lookups.{exact_bytes}
use Rattle.std.proofs.lemmas.Simd.{map-map}
use Rattle.measured_bucket.specs.SimmKinds.declared.kinds.ProductClass.{ProductClass}
use Rattle.measured_bucket.specs.SimmKinds.declared.factor.Factor.{Factor}
use Rattle.measured_bucket.specs.SimmKinds.declared.key.FactorKey.{FactorKey}
use Rattle.measured_bucket.specs.SimmKinds.Order.{same_product, same_name, key_cmp, factor_cmp}
use Rattle.measured_bucket.proofs.SimmKinds.Variants.{is_eq-Equal}
use Rattle.measured_bucket.specs.SimmRules.Net.{Sensitivity}
use Rattle.measured_bucket.specs.SimmRules.Risks.{Risk, risk, Amount, select}
use Rattle.measured_bucket.specs.FactorBook.declared.place.Place.{Place}
use Rattle.measured_bucket.specs.FactorBook.declared.holding.Holding.{Holding}
use Rattle.measured_bucket.specs.FactorBook.Factors.{net_of, IsBook}
use Rattle.measured_bucket.specs.FactorBook.Places.{stands_at, factors_at}
use Rattle.measured_bucket.specs.Values.{nets_in}
use Rattle.measured_bucket.proofs.Keys.{key_with, by_factor, chosen}
use Rattle.measured_bucket.proofs.Lists.{map-itself}
use Rattle.measured_bucket.proofs.Selected.{select_none, select_some, issuers_place, select_ascends}

-- what was read of a list of which nothing is left
pub read_whole : {X Y : Type 0} (read : List X → List Y) → read [] ≡ [] → (left : List X) (front all : List Y) → left ≡ [] → front ++ read left ≡ all → front ≡ all
read_whole read none left front all at so_far = sym (append-nil front) ∙ ap (λ ys. front ++ ys) (sym none) ∙ ap (λ xs. front ++ read xs) (sym at) ∙ so_far

pub same_itself : (currency : List ℕ) → same_name currency currency ≡ true
same_itself currency = ap is_eq (tied_itself nat_list_cmp_total currency)

-- In is what has a currency, and X what it is of that currency
module _ {In X : Type 0} (sort : Risk → Option In) (name : In → List ℕ) (of : In → X) (currency : List ℕ) where
  abbrev pub is_own : Amount In → Bool
  is_own a = same_name (name a.of) currency

  -- without the currency
  abbrev alone : Amount In → Amount X
  alone a = record { of = of a.of; amount = a.amount }

  abbrev of_own : Option In → Option X
  of_own None = None
  of_own (Some v) = if same_name (name v) currency then Some (of v) else None

  -- what a risk is of, where it is of the currency
  abbrev pub own : Risk → Option X
  own r = of_own (sort r)

  select-own : (ss : List Sensitivity) → select own ss ≡ map alone (filter is_own (select sort ss))
  select-own [] = refl
  select-own (s ∷ ss) = at (sort (risk s.key.factor)) refl (select-own ss)
    where
      rest : List (Amount In)
      rest = filter is_own (select sort ss)

      by : (t : Bool) (x : In) → same_name (name x) currency ≡ t → sort (risk s.key.factor) ≡ Some x → select own ss ≡ map alone rest → select own (s ∷ ss) ≡ map alone (cond t (record { of = x; amount = s.amount } ∷ rest) rest)
      by true x same e i = select_some own s ss (of x) (ap of_own e ∙ ap (λ t. cond t (Some (of x)) None) same) ∙ ap (λ xs. record { of = of x; amount = s.amount } ∷ xs) i
      by false x same e i = select_none own s ss (ap of_own e ∙ ap (λ t. cond t (Some (of x)) None) same) ∙ i

      at : (o : Option In) → sort (risk s.key.factor) ≡ o → select own ss ≡ map alone rest → select own (s ∷ ss) ≡ map alone (filter is_own (select sort (s ∷ ss)))
      at None e i = select_none own s ss (ap of_own e) ∙ i ∙ sym (ap (λ xs. map alone (filter is_own xs)) (select_none sort s ss e))
      at (Some x) e i = by (same_name (name x) currency) x refl e i ∙ sym (ap (λ xs. map alone (filter is_own xs)) (select_some sort s ss x e))

  -- ---- at a place

  module _ (other : Risk → Option X) (place : Place) (stands : (k : FactorKey) (x : X) → own (risk k.factor) ≡ Some x → stands_at place k ≡ same_product k.product place.product) (says : (k : FactorKey) (x : X) → own (risk k.factor) ≡ Some x → other (risk k.factor) ≡ Some x) (elsewhere : (k : FactorKey) → own (risk k.factor) ≡ None → stands_at place k ≡ false) (fs : List (FactorKey × Holding)) where
    -- what is read of it, of whatever currency, is what the currency has
    pub nets_are : select other (map net_of (factors_at place fs)) ≡ map (λ a. record { of = of a.of; amount = a.amount }) (filter is_own (select sort (nets_in place.product fs)))
    nets_are =
        issuers_place own other (λ x. x) place stands says elsewhere fs ∙ map-itself (λ (a : Amount X). record { of = a.of; amount = a.amount }) (λ a. refl) (select own (nets_in place.product fs))
        ∙ select-own (nets_in place.product fs)

    -- with the currency again
    module _ (with : X → In) (again : (v : In) → name v ≡ currency → with (of v) ≡ v) where
      abbrev back : Amount X → Amount In
      back a = record { of = with a.of; amount = a.amount }

      restored : (xs : List (Amount In)) → map back (map alone (filter is_own xs)) ≡ filter is_own xs
      restored [] = refl
      restored (a ∷ xs) = at (is_own a) refl (restored xs)
        where
          at : (t : Bool) → is_own a ≡ t → map back (map alone (filter is_own xs)) ≡ filter is_own xs → map back (map alone (cond t (a ∷ filter is_own xs) (filter is_own xs))) ≡ cond t (a ∷ filter is_own xs) (filter is_own xs)
          at true e i =
              let same : with (of a.of) ≡ a.of = again a.of (exact_bytes (name a.of) currency (is_eq-Equal _ e)) in
              ap (λ v. record { of = v; amount = a.amount } ∷ map back (map alone (filter is_own xs))) same ∙ ap (λ ys. a ∷ ys) i
          at false e i = i

      pub there : {N : Type 0} (rule : N → Amount X) (nets : List N) → map rule nets ≡ select other (map net_of (factors_at place fs)) → map (λ n. record { of = with (rule n).of; amount = (rule n).amount }) nets ≡ filter is_own (select sort (nets_in place.product fs))
      there rule nets read = sym (map-map back rule nets) ∙ ap (map back) (read ∙ nets_are) ∙ restored (select sort (nets_in place.product fs))

  -- ---- by the factor that is to each

  module _ (factor : X → Factor) (is_factor : (f : Factor) (x : X) → own (risk f) ≡ Some x → f ≡ factor x) where
    pub says : (other : Risk → Option X) → ((x : X) → other (risk (factor x)) ≡ Some x) → (f : Factor) (x : X) → own (risk f) ≡ Some x → other (risk f) ≡ Some x
    says other itself f x h = ap (λ g. other (risk g)) (is_factor f x h) ∙ itself x

    pub stands : (place : Place) (product : ProductClass) → ((c : ProductClass) (x : X) → stands_at place (key_with c (factor x)) ≡ same_product c product)
        → (k : FactorKey) (x : X) → own (risk k.factor) ≡ Some x → stands_at place k ≡ same_product k.product product
    stands place product own_stands k x e = ap (λ f. stands_at place (key_with k.product f)) (is_factor k.factor x e) ∙ own_stands k.product x

    module _ (cmp : X → X → Ordering) (in_order : (x y : X) → factor_cmp (factor x) (factor y) ≡ cmp x y) where
      less : (product : ProductClass) (k l : FactorKey) (x y : X) → same_product k.product product ≡ true → same_product l.product product ≡ true → own (risk k.factor) ≡ Some x → own (risk l.factor) ≡ Some y → key_cmp k l ≡ Less → cmp x y ≡ Less
      less product k l x y p q e d h = sym (by_factor product k l (factor x) (factor y) p q (is_factor k.factor x e) (is_factor l.factor y d) ∙ in_order x y) ∙ h

      pub ascend : (product : ProductClass) (fs : List (FactorKey × Holding)) → IsBook fs → IsStrictlySortedBy cmp (map (λ a. of a.of) (filter is_own (select sort (nets_in product fs))))
      ascend product fs book =
          let ss = nets_in product fs in
          subst (IsStrictlySortedBy cmp) (ap (map (λ (a : Amount X). a.of)) (select-own ss) ∙ map-map (λ (a : Amount X). a.of) alone (filter is_own (select sort ss)))
          (select_ascends own cmp product (less product) fs book)

-- what a factor of a currency is, by the name that it has
pub of_currency : {X : Type 0} (currency : List ℕ) (factor : X → Factor) (f : List ℕ → Factor) (n : List ℕ) (v x : X) → f currency ≡ factor v → cond (same_name n currency) (Some v) None ≡ Some x → f n ≡ factor x
of_currency currency factor f n v x e h =
    let both = chosen (same_name n currency) v x h in
    ap f (exact_bytes n currency (is_eq-Equal _ both.0)) ∙ e ∙ ap factor both.1
