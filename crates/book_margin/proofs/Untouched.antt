-- What rows do not touch is as right for the book after them as it was before.
use Rattle.std.proofs.Common.{◌≡◌, ◌≢◌, List, [], ◌∷◌, Bool, true, false, ◌&&◌, ◌||◌, cond, Option, Some, None, refl, sym, ap, ◌∙◌, subst}
use Rattle.std.specs.Prelude.{is_some, IsSome, IfSome}
use Rattle.std.specs.List.{list_any}
use Rattle.std.proofs.lemmas.Bool.{and_parts, eqb-true}
use Rattle.kept_buckets.specs.SimmKinds.declared.margin_side.MarginSide.{MarginSide}
use Rattle.kept_buckets.specs.SimmKinds.declared.margin_side.MarginSide.TheVariants.{Collect, Post}
use Rattle.kept_buckets.specs.SimmKinds.declared.key.FactorKey.{FactorKey}
use Rattle.kept_buckets.specs.SimmKinds.declared.kinds.ProductClass.{ProductClass}
use Rattle.kept_buckets.specs.SimmKinds.declared.kinds.RiskClass.{RiskClass}
use Rattle.kept_buckets.specs.SimmKinds.declared.row.CrifRow.{CrifRow}
use Rattle.kept_buckets.specs.SimmKinds.Factors.{class_of, side_of, bucket_of}
use Rattle.kept_buckets.specs.SimmKinds.Order.{same_product, same_class, same_bucket_id}
use Rattle.kept_buckets.proofs.SimmKinds.Orders.{one_product, one_class}
use Rattle.kept_buckets.specs.SimmRules.Params.{Params}
use Rattle.kept_buckets.specs.SimmRules.Net.{Sensitivity, sensitivities}
use Rattle.kept_buckets.specs.SimmRules.Simm.{class_margin_of}
use Rattle.kept_buckets.specs.FactorBook.declared.holding.Holding.{Holding}
use Rattle.kept_buckets.specs.FactorBook.declared.place.BookSide.{BookSide}
use Rattle.kept_buckets.specs.FactorBook.declared.place.Place.{Place}
use Rattle.kept_buckets.specs.FactorBook.declared.value.PlaceValue.{PlaceValue}
use Rattle.kept_buckets.specs.FactorBook.Address.{book_side, same_side}
use Rattle.kept_buckets.specs.FactorBook.Place.{stand_bucket, stand_class, stand_side}
use Rattle.kept_buckets.specs.FactorBook.Places.{stands_at, factors_at, is_on}
use Rattle.class_margin.specs.NegatedBook.Negated.{negated_factor, negated_factors}
use Rattle.class_margin.specs.NegatedBook.Sides.{side_factors}
use Rattle.class_margin.proofs.NegatedBook.Lists.{filter-map}
use Rattle.kept_buckets.specs.declared.both_margins.BothMargins.{BothMargins}
use Rattle.class_margin.specs.names_delta.Values.{nets_in}
use Rattle.class_margin.specs.value.Values.{IsValued}
use Rattle.kept_buckets.specs.Kept.{Kept, value_at, margin_at}
use Rattle.kept_buckets.specs.Touched.{has_key, lies_at, lies_in, is_of_class, Forgets, SameElsewhere}
use Rattle.book_margin.specs.Classes.{class_factors}
use Rattle.book_margin.specs.Right.{AreMargins, AreRight, IsRight}

abbrev Factors : Type 0
Factors = List (FactorKey × Holding)

-- ---- tests of keys

-- a row of a place is of the class of the place
key_weaker : (test wider : FactorKey → Bool) → ((k : FactorKey) → test k ≡ true → wider k ≡ true) → (rows : List CrifRow) → has_key wider rows ≡ false → has_key test rows ≡ false
key_weaker test wider weaker rows h = each (sensitivities rows) h
  where
    by : (s t u v : Bool) → (s ≡ true → t ≡ true) → (v ≡ false → u ≡ false) → (t || v) ≡ false → (s || u) ≡ false
    by true true u v w i e = absurd (cc)
    by true false u v w i e = absurd (let clash : false ≡ true = w refl in cc)
    by false true u v w i e = absurd (cc)
    by false false u v w i e = i e

    each : (ss : List Sensitivity) → list_any (λ s. wider s.key) ss ≡ false → list_any (λ s. test s.key) ss ≡ false
    each [] e = refl
    each (s ∷ ss) e = by (test s.key) (wider s.key) (list_any (λ x. test x.key) ss) (list_any (λ x. wider x.key) ss) (weaker s.key) (each ss) e

stands_in_class : (c : ProductClass) (k : RiskClass) (s : BookSide) (place : Place) → is_on c k s place ≡ true → (key : FactorKey) → stands_at place key ≡ true → is_of_class c k key ≡ true
stands_in_class c k s place on key e =
    let own = and_parts (same_product place.product c) (same_class (stand_class place.stand) k && same_side (stand_side place.stand) s) on in
    let own_too = and_parts (same_class (stand_class place.stand) k) (same_side (stand_side place.stand) s) own.1 in
    let product_is : place.product ≡ c = one_product place.product c (eqb-true _ _ own.0) in
    let class_is : stand_class place.stand ≡ k = one_class (stand_class place.stand) k (eqb-true _ _ own_too.0) in
    let parts = and_parts (same_product key.product place.product && (same_class (class_of key.factor) (stand_class place.stand) && same_side (book_side (side_of key.factor)) (stand_side place.stand)))
    (same_bucket_id (bucket_of key.factor) (stand_bucket place.stand)) e in
    let both = and_parts (same_product key.product place.product) (same_class (class_of key.factor) (stand_class place.stand) && same_side (book_side (side_of key.factor)) (stand_side place.stand)) parts.0 in
    let class_too = and_parts (same_class (class_of key.factor) (stand_class place.stand)) (same_side (book_side (side_of key.factor)) (stand_side place.stand)) both.1 in
    let first : same_product key.product c ≡ true = ap (same_product key.product) (sym product_is) ∙ both.0 in
    let second : same_class (class_of key.factor) k ≡ true = ap (same_class (class_of key.factor)) (sym class_is) ∙ class_too.0 in
    (λ i. first i && second i)

-- ---- the value of a place that has the same factors in both books

value_moved : (p : Params) (place : Place) (f g : Factors) → factors_at place f ≡ factors_at place g → (v : PlaceValue) → IsRight p f place v → IsRight p g place v
value_moved p place f g e v h = record {
  some = subst (λ (xs : Factors). xs ≢ []) e h.some;
  its = subst (λ (xs : Factors). IsValued p (record { place = place; factors = xs }) v) e h.its;
}

-- ---- the factors of a class, as a side sees them

alike_on : (c : ProductClass) (k : RiskClass) (f g : Factors) (side : MarginSide) → class_factors c k f ≡ class_factors c k g → class_factors c k (side_factors side f) ≡ class_factors c k (side_factors side g)
alike_on c k f g Collect e = e
alike_on c k f g Post e =
    filter-map negated_factor (λ (h : FactorKey × Holding). is_of_class c k h.0) f ∙ ap negated_factors e
    ∙ sym (filter-map negated_factor (λ (h : FactorKey × Holding). is_of_class c k h.0) g)

-- ---- what is left of what was kept

-- what is so of all that was kept, and moves where no row lies, is so of all that is left
left_right : {A : Type 0} (P Q : A → Type 0) (t : Bool) (o n : Option A) → n ≡ cond t None o → (t ≡ false → (v : A) → P v → Q v) → IfSome o P → IfSome n Q
left_right {A} P Q t o n is moves h = subst (λ (x : Option A). IfSome x Q) (sym is) (by t refl o h)
  where
    by : (u : Bool) → t ≡ u → (x : Option A) → IfSome x P → IfSome (cond u None x) Q
    by true e x k = tt
    by false e (Some v) k = moves e v k
    by false e None k = tt

left_some : {A : Type 0} (t : Bool) (o n : Option A) → n ≡ cond t None o → IsSome n → (t ≡ false) × IsSome o
left_some true o n is some = absurd (let none : is_some n ≡ false = ap is_some is in cc)
left_some false o n is some = (refl, ap is_some (sym is) ∙ some)

module _ (p : Params) (rows : List CrifRow) (f g : Factors) (old new : Kept) (right : AreRight p f old) (same : SameElsewhere rows f g) (forgets : Forgets rows old new)
    (same_class_margin : (c : ProductClass) (k : RiskClass) (h j : Factors) → class_factors c k h ≡ class_factors c k j → class_margin_of p (nets_in c h) k ≡ class_margin_of p (nets_in c j) k) where
  there_still : (place : Place) → lies_at place rows ≡ false → factors_at place f ≡ factors_at place g
  there_still place none = same.same (stands_at place) none

  margin_moved : (c : ProductClass) (k : RiskClass) → lies_in c k rows ≡ false → (m : BothMargins) → AreMargins p f c k m → AreMargins p g c k m
  margin_moved c k none m h side = record {
    value = (h side).value ∙ same_class_margin c k (side_factors side f) (side_factors side g) (alike_on c k f g side (same.same (is_of_class c k) none));
    size = (h side).size;
  }

  kept_in_class : (c : ProductClass) (k : RiskClass) (s : BookSide) (place : Place) → is_on c k s place ≡ true → lies_in c k rows ≡ false → (factors_at place f ≢ [] → IsSome (value_at old place))
      → factors_at place g ≢ [] → IsSome (value_at new place)
  kept_in_class c k s place on none before some =
      let away : lies_at place rows ≡ false = key_weaker (stands_at place) (is_of_class c k) (stands_in_class c k s place on) rows none in
      ap is_some (forgets.values place ∙ ap (λ t. cond t None (value_at old place)) away) ∙ before (subst (λ (xs : Factors). xs ≢ []) (sym (there_still place away)) some)

  pub still_right : AreRight p g new
  still_right = record {
    values = λ place. left_right (IsRight p f place) (IsRight p g place) (lies_at place rows) (value_at old place) (value_at new place) (forgets.values place)
        (λ none. value_moved p place f g (there_still place none)) (right.values place);
    margins = λ c k. left_right (AreMargins p f c k) (AreMargins p g c k) (lies_in c k rows) (margin_at old c k) (margin_at new c k) (forgets.margins c k) (margin_moved c k) (right.margins c k);
    whole = λ c k some s place on has.
        let left = left_some (lies_in c k rows) (margin_at old c k) (margin_at new c k) (forgets.margins c k) some in
        kept_in_class c k s place on left.0 (right.whole c k left.1 s place on) has;
  }

-- ---- nothing is kept

if_none : {A : Type 0} (P : A → Type 0) (o : Option A) → o ≡ None → IfSome o P
if_none {A} P o e = subst (λ (x : Option A). IfSome x P) (sym e) tt

pub none_right : (p : Params) (f : Factors) (kept : Kept) → ((place : Place) → value_at kept place ≡ None) → ((c : ProductClass) (k : RiskClass) → margin_at kept c k ≡ None) → AreRight p f kept
none_right p f kept no_values no_margins = record {
  values = λ place. if_none (IsRight p f place) (value_at kept place) (no_values place);
  margins = λ c k. if_none (AreMargins p f c k) (margin_at kept c k) (no_margins c k);
  whole = λ c k some. absurd (let none : is_some (margin_at kept c k) ≡ false = ap is_some (no_margins c k) in cc);
}
