-- The margin of base correlation is that of the one value that its place has, if any.
use Rattle.std.proofs.Common.{◌≡◌, ◌^◌, List, [], ◌∷◌, ◌++◌, Option, Some, None, refl, sym, ap, ◌∙◌, subst, ℤ, pos, ◌≤ℤ◌, arith}
use Rattle.std.specs.List.{cons_option, AllByRecursion}
use Rattle.std.proofs.lemmas.Int.{ints}
use Rattle.class_rates.specs.SimmKinds.declared.kinds.ProductClass.{ProductClass}
use Rattle.class_rates.specs.SimmKinds.declared.kinds.RiskClass.TheVariants as class
use Rattle.class_rates.specs.SimmKinds.declared.key.FactorKey.{FactorKey}
use Rattle.class_rates.specs.SimmKinds.declared.row.CrifRow.{CrifRow}
use Rattle.class_rates.specs.SimmRules.declared.values.BucketMargin.{BucketMargin}
use Rattle.class_rates.specs.SimmRules.BaseCorrelation.{base_value, base_margin}
use Rattle.class_rates.specs.SimmRules.Net.{Sensitivity}
use Rattle.class_rates.specs.SimmRules.Params.{Params}
use Rattle.class_rates.specs.SimmParams.Facts.{IsParams}
use Rattle.class_rates.specs.FactorBook.declared.holding.Holding.{Holding}
use Rattle.class_rates.specs.FactorBook.declared.place.BookSide.TheVariants as side
use Rattle.class_rates.specs.FactorBook.declared.place.Place.{Place}
use Rattle.class_rates.specs.FactorBook.declared.place.Stand.{Stand}
use Rattle.class_rates.specs.FactorBook.declared.place.Stand.TheVariants as stand
use Rattle.class_rates.specs.FactorBook.declared.slot.Slot.{Slot}
use Rattle.class_rates.specs.FactorBook.declared.value.PlaceValue.{PlaceValue}
use Rattle.class_rates.specs.FactorBook.declared.value.PlaceValue.TheVariants as value
use Rattle.class_rates.specs.FactorBook.Factors.{factors_of}
use Rattle.class_rates.specs.FactorBook.Places.{by_side, factors_at, lent_at, Lent}
use Rattle.class_rates.proofs.FactorBook.Buckets.{of_side}
use Rattle.class_credit.specs.Base.{base_place, indices_of, index_nets, index_weight}
use Rattle.class_credit.proofs.Indices.{indices_there}
use Rattle.book_range.specs.Bounded.{IsBounded, IsMarginable}
use Rattle.class_margin.specs.Parts.{base_part, base_values, first_k}
use Rattle.class_margin.specs.names_delta.Values.{nets_in, IsSized}
use Rattle.class_margin.specs.value.Delta.{delta_of}
use Rattle.class_margin.specs.value.Place.{value_of, volatility_of, AreSizes}
use Rattle.class_margin.specs.value.Values.{AreClassValues, AreValued}
use Rattle.class_margin.proofs.delta.Bounds.{base_most, indices_range}
use Rattle.class_margin.proofs.names_delta.Empty.{indices_none}
use Rattle.class_margin.proofs.names_delta.Shrinking.{SizesAreNetted}
use Rattle.class_margin.proofs.value.Parts.{both_each, each_of, is_there, none_or, some_base, some_delta, some_volatility, IsOf}

-- ---- the first value of base correlation, whatever is so of each

abbrev IsBase : Lent → Type 0
IsBase lent = (lent.place).stand ≡ stand.BaseCorrelation

not_delta : (s : Slot) → stand.Delta s ≡ stand.BaseCorrelation → ⊥
not_delta s e = absurd (cc)

not_volatility : (s : Slot) → stand.Volatility s ≡ stand.BaseCorrelation → ⊥
not_volatility s e = absurd (cc)

module _ (p : Params) (P : ℤ → Type 0) where
  -- what a place of base correlation comes to is so
  abbrev Fits : Lent → Type 0
  Fits lent = IsBase lent → (b : BucketMargin) → b ≡ base_value p (index_nets lent.factors) → IsSized (index_weight p) (index_nets lent.factors) b → P b.k

  abbrev NotBase : Lent → Type 0
  NotBase lent = IsBase lent → ⊥

  found : (xs : List Lent) → AllByRecursion Fits xs → (AllByRecursion (λ lent. IsBase lent → ⊥) xs → P (pos 0)) → (vs : List PlaceValue) → AreValued p xs vs → P (first_k (base_values vs))
  found [] h none [] a = none tt
  found [] h none (v ∷ vs) a = absurd a
  found (x ∷ xs) h none [] a = absurd a
  found (x ∷ xs) h none (v ∷ vs) a = by (x.place).stand refl (λ other. found xs h.1 (λ rest. none (other, rest)) vs a.1)
    where
      value_is : (s : Stand) → (x.place).stand ≡ s → Some v ≡ value_of p s x.factors
      value_is s e = subst (λ t. Some v ≡ value_of p t x.factors) e (a.0).value

      with_part : (o : Option BucketMargin) → base_part v ≡ o → P (first_k (cons_option o (base_values vs))) → P (first_k (base_values (v ∷ vs)))
      with_part o e = subst (λ q. P (first_k (cons_option q (base_values vs)))) (sym e)

      by : (s : Stand) → (x.place).stand ≡ s → ((IsBase x → ⊥) → P (first_k (base_values vs))) → P (first_k (base_values (v ∷ vs)))
      by (stand.Delta s) e later =
          with_part None (ap base_part (some_delta s (delta_of p s x.factors) v (value_is (stand.Delta s) e)).1.0) (later (λ is. not_delta s (sym e ∙ is)))
      by stand.BaseCorrelation e later =
          let b : BucketMargin = base_value p (index_nets x.factors) in
          let same : v ≡ value.BaseCorrelation b = some_base b v (value_is stand.BaseCorrelation e) in
          with_part (Some b) (ap base_part same) (h.0 e b refl (subst (AreSizes p x.factors) same (a.0).sized))
      by (stand.Volatility s) e later =
          with_part None (ap base_part (some_volatility s (volatility_of p s x.factors) v (value_is (stand.Volatility s) e)).1.0) (later (λ is. not_volatility s (sym e ∙ is)))

-- ---- of a book

-- the margin, from 0 to 10^14 cents
pub record IsBaseMargin (p : Params) (ss : List Sensitivity) (z : ℤ) : Type 0 where
  pub value : z ≡ base_margin p ss
  pub low : pos 0 ≤ℤ z
  pub high : z ≤ℤ pos (10 ^ 14)

front_each : {X : Type 0} (P : X → Type 0) (xs ys : List X) → AllByRecursion P (xs ++ ys) → AllByRecursion P xs
front_each P [] ys h = tt
front_each P (x ∷ xs) ys h = (h.0, front_each P xs ys h.1)

module _ (p : Params) (facts : IsParams p) (held : List CrifRow) (bounded : IsBounded p held) (product : ProductClass) (sizes : SizesAreNetted held) where
  abbrev fs : List (FactorKey × Holding)
  fs = factors_of held

  abbrev ss : List Sensitivity
  ss = nets_in product fs

  abbrev D : List Lent
  D = by_side product class.CreditQ side.Delta fs

  abbrev V : List Lent
  V = by_side product class.CreditQ side.Volatility fs

  abbrev Is : ℤ → Type 0
  Is z = IsBaseMargin p ss z

  fits : (q : Place) → IsOf product class.CreditQ q → Fits p Is (lent_at fs q)
  fits q of e b is known =
      let there : q ≡ base_place product = λ i. record { product = of.in_product i; stand = e i } in
      let own : index_nets (factors_at q fs) ≡ indices_of product fs = ap (λ r. index_nets (factors_at r fs)) there ∙ indices_there product fs in
      let value : b ≡ base_value p (indices_of product fs) = is ∙ ap (base_value p) own in
      let sized : IsSized (index_weight p) (indices_of product fs) b = subst (λ xs. IsSized (index_weight p) xs b) own known in
      record {
        value = ap (λ (m : BucketMargin). m.k) value;
        low = sized.not_negative;
        high = base_most p (indices_of product fs) b (omega (arith, ints, facts.base_weight.low)) (indices_range p facts held bounded product sizes) sized value;
      }

  none_there : AllByRecursion (λ lent. IsBase lent → ⊥) (D ++ V) → Is (pos 0)
  none_there h =
      let place : Place = base_place product in
      let empty : factors_at (base_place product) fs ≡ [] =
      none_or (factors_at place fs) (λ some. of_side product class.CreditQ side.Delta fs (λ lent. IsBase lent → ⊥) (front_each (λ lent. IsBase lent → ⊥) D V h) place (is_there product class.CreditQ fs stand.BaseCorrelation refl) some refl) in
      record { value = sym (indices_none p ss (sym (indices_there product fs) ∙ ap index_nets empty)); low = omega (arith, ints); high = omega (arith, ints) }

  pub base_done : (vs : List PlaceValue) → AreClassValues p product class.CreditQ (factors_of held) vs → IsBaseMargin p (nets_in product (factors_of held)) (first_k (base_values vs))
  base_done vs a =
      found p Is (D ++ V) (both_each (Fits p Is) D V (each_of product class.CreditQ fs (Fits p Is) side.Delta fits) (each_of product class.CreditQ fs (Fits p Is) side.Volatility fits)) none_there vs a

pub base_fits : (p : Params) → IsParams p → (fs : List (FactorKey × Holding)) (book : IsMarginable p fs) → SizesAreNetted book.held → (product : ProductClass) (vs : List PlaceValue) → AreClassValues p product class.CreditQ fs vs → IsBaseMargin p (nets_in product fs) (first_k (base_values vs))
base_fits p facts _ book sizes product vs all =
    subst (λ f. AreClassValues p product class.CreditQ f vs → IsBaseMargin p (nets_in product f) (first_k (base_values vs))) (sym book.are)
    (λ a. base_done p facts book.held book.bounded product sizes vs a) all
