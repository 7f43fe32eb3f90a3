-- What is kept rightly stays so as more is kept.
use Rattle.std.proofs.Common.{◌≡◌, ℕ, ◌+◌, ◌*◌, ◌≤◌, List, Bool, true, false, cond, Option, Some, None, refl, sym, ap, ◌∙◌, subst, arith}
use Rattle.std.specs.Prelude.{is_some, IsSome, IfSome, sum_by}
use Rattle.std.specs.Option.{option_and_then}
use Rattle.std.proofs.lemmas.Bool.{and_parts, and_from, eqb-true, eq-eqb}
use Rattle.kept_buckets.specs.SimmKinds.declared.margin_side.MarginSide.{MarginSide}
use Rattle.kept_buckets.specs.SimmKinds.declared.margin_side.MarginSide.TheVariants.{Collect, Post}
use Rattle.kept_buckets.specs.declared.both_margins.BothMargins.{BothMargins}
use Rattle.kept_buckets.specs.SimmKinds.declared.kinds.Measure.{Measure}
use Rattle.kept_buckets.specs.SimmKinds.declared.kinds.ProductClass.{ProductClass}
use Rattle.kept_buckets.specs.SimmKinds.declared.kinds.RiskClass.{RiskClass}
use Rattle.kept_buckets.specs.SimmKinds.declared.key.FactorKey.{FactorKey}
use Rattle.kept_buckets.specs.SimmKinds.Order.{same_product, same_class, product_place, class_place}
use Rattle.kept_buckets.proofs.SimmKinds.Orders.{one_product, one_class}
use Rattle.kept_buckets.specs.SimmRules.declared.values.BucketMargin.{BucketMargin}
use Rattle.kept_buckets.specs.SimmRules.Params.{Params}
use Rattle.kept_buckets.specs.FactorBook.declared.holding.Holding.{Holding}
use Rattle.kept_buckets.specs.FactorBook.declared.place.BookSide.{BookSide}
use Rattle.kept_buckets.specs.FactorBook.declared.place.Place.{Place}
use Rattle.kept_buckets.specs.FactorBook.declared.value.PlaceValue.{PlaceValue}
use Rattle.kept_buckets.specs.FactorBook.Place.{same_place}
use Rattle.kept_buckets.specs.FactorBook.Places.{by_place, lent_at, Lent}
use Rattle.kept_buckets.specs.FactorBook.Value.{measures_of, part_in}
use Rattle.kept_buckets.proofs.FactorBook.Standing.{one_place, own_place}
use Rattle.class_margin.specs.value.Values.{IsValued}
use Rattle.kept_buckets.specs.Dirty.{Count, steps_left}
use Rattle.kept_buckets.specs.Kept.{Kept, cached_in, value_at, margin_at, margin_on, is_class, KeepsValue, KeepsMargin}
use Rattle.book_margin.specs.Right.{AreMargins, AreMarginsKept, AreRight, IsRight, IsSideKept, IsWhole, Renews, value_in}

abbrev Factors : Type 0
Factors = List (FactorKey × Holding)

-- ---- one step after the other

some_still : {A : Type 0} (o n : Option A) → ((v : A) → o ≡ Some v → n ≡ Some v) → IsSome o → IsSome n
some_still (Some v) n h is = ap is_some (h v refl)
some_still None n h is = absurd (cc)

module _ {p : Params} {fs : Factors} where
  pub renews_none : (k : Kept) → AreRight p fs k → Renews p fs k k
  renews_none k right = record { right = right; values = λ place v e. e; margins = λ a c m e. e }

  pub renews_both : (a b c : Kept) → Renews p fs a b → Renews p fs b c → Renews p fs a c
  renews_both a b c first then = record {
    right = then.right;
    values = λ place v e. then.values place v (first.values place v e);
    margins = λ product class m e. then.margins product class m (first.margins product class m e);
  }

  pub value_still : (a b : Kept) → Renews p fs a b → (place : Place) → IsSome (value_at a place) → IsSome (value_at b place)
  value_still a b r place = some_still (value_at a place) (value_at b place) (r.values place)

  pub margin_still : (a b : Kept) → Renews p fs a b → (c : ProductClass) (k : RiskClass) → IsSome (margin_at a c k) → IsSome (margin_at b c k)
  margin_still a b r c k = some_still (margin_at a c k) (margin_at b c k) (r.margins c k)

  pub margins_still : (a b : Kept) → Renews p fs a b → AreMarginsKept a → AreMarginsKept b
  margins_still a b r all c k = margin_still a b r c k (all c k)

  pub side_still : (a b : Kept) → Renews p fs a b → (c : ProductClass) (k : RiskClass) (s : BookSide) → IsSideKept fs a c k s → IsSideKept fs b c k s
  side_still a b r c k s kept place on some = value_still a b r place (kept place on some)

-- ---- what is kept of a place

module _ (p : Params) (fs : Factors) (place : Place) where
  right_found : (o : Option PlaceValue) (v : PlaceValue) → IfSome o (IsRight p fs place) → Some v ≡ o → IsRight p fs place v
  right_found (Some its) v h e = let same : its ≡ v = cc in subst (IsRight p fs place) same h
  right_found None v h e = absurd (cc)

  -- it is that of its factors
  pub right_value : (k : Kept) (v : PlaceValue) → AreRight p fs k → Some v ≡ value_at k place → IsValued p (lent_at fs place) v
  right_value k v right e = (right_found (value_at k place) v (right.values place) e).its

  part_right : (m : Measure) (o : Option PlaceValue) → IfSome o (IsRight p fs place) → IfSome (option_and_then (part_in m) o) (λ its. Some its ≡ value_in p fs place m)
  part_right m None h = tt
  part_right m (Some v) h = by (part_in m v) refl
    where
      by : (o : Option BucketMargin) → part_in m v ≡ o → IfSome o (λ its. Some its ≡ value_in p fs place m)
      by None e = tt
      by (Some its) e = sym e ∙ ap (option_and_then (part_in m)) (h.its).value

  pub cached_right : (kept : Kept) → AreRight p fs kept → (m : Measure) → IfSome (cached_in kept place m) (λ its. Some its ≡ value_in p fs place m)
  cached_right kept right m = part_right m (value_at kept place) (right.values place)

-- ---- one value more

module _ {p : Params} {fs : Factors} (old new : Kept) (place : Place) (its : PlaceValue) (right : AreRight p fs old) (keeps : KeepsValue old new place its) (none : value_at old place ≡ None) (is : IsRight p fs place its) where
  by_test : (q : Place) (w : PlaceValue) (t : Bool) → same_place place q ≡ t → value_at old q ≡ Some w → cond t (Some its) (value_at old q) ≡ Some w
  by_test q w true e h =
      let same : place ≡ q = one_place place q e in
      let gone : value_at old q ≡ None = ap (value_at old) (sym same) ∙ none in
      absurd (let clash : Some w ≡ None = sym h ∙ gone in cc)
  by_test q w false e h = h

  still : (q : Place) (w : PlaceValue) → value_at old q ≡ Some w → value_at new q ≡ Some w
  still q w h = keeps.values q ∙ by_test q w (same_place place q) refl h

  each_value : (q : Place) → IfSome (value_at new q) (IsRight p fs q)
  each_value q = subst (λ (o : Option PlaceValue). IfSome o (IsRight p fs q)) (sym (keeps.values q)) (by (same_place place q) refl)
    where
      by : (t : Bool) → same_place place q ≡ t → IfSome (cond t (Some its) (value_at old q)) (IsRight p fs q)
      by true e = subst (λ r. IsRight p fs r its) (one_place place q e) is
      by false e = right.values q

  pub renews_value : Renews p fs old new
  renews_value = record {
    right = record {
      values = each_value;
      margins = λ c k. subst (λ (o : Option BothMargins). IfSome o (AreMargins p fs c k)) (sym (keeps.margins c k)) (right.margins c k);
      whole = λ c k some s q on has.
          some_still (value_at old q) (value_at new q) (still q) (right.whole c k (ap is_some (sym (keeps.margins c k)) ∙ some) s q on has);
    };
    values = still;
    margins = λ c k m e. keeps.margins c k ∙ e;
  }

pub kept_now : (old new : Kept) (place : Place) (its : PlaceValue) → KeepsValue old new place its → IsSome (value_at new place)
kept_now old new place its keeps = ap is_some (keeps.values place ∙ ap (λ t. cond t (Some its) (value_at old place)) (own_place place))

-- the steps that it took, and those that it saves
pub steps_saved : (before after taken first then : ℕ) → after ≤ before + taken → then + taken ≤ first → after + then ≤ before + first
steps_saved before after taken first then took saved = omega (arith, took, saved)

pub both_saved : (before mid after first second third : ℕ) → mid + second ≤ before + first → after + third ≤ mid + second → after + third ≤ before + first
both_saved before mid after first second third h k = omega (arith, h, k)

-- ---- one margin more

own_class : (c : ProductClass) (k : RiskClass) → is_class c k c k ≡ true
own_class c k = and_from (same_product c c) (same_class k k) (eq-eqb (product_place c) (product_place c) refl) (eq-eqb (class_place k) (class_place k) refl)

-- what is so of a class is so of one that is the same
moved_class : (Q : ProductClass → RiskClass → Type 0) (a : ProductClass) (c : RiskClass) (b : ProductClass) (k : RiskClass) → is_class a c b k ≡ true → Q a c → Q b k
moved_class Q a c b k e h =
    let both = and_parts (same_product a b) (same_class c k) e in
    subst (λ x. Q x k) (one_product a b (eqb-true _ _ both.0)) (subst (Q a) (one_class c k (eqb-true _ _ both.1)) h)

module _ {p : Params} {fs : Factors} (old new : Kept) (product : ProductClass) (class : RiskClass) (its : BothMargins) (right : AreRight p fs old) (keeps : KeepsMargin old new product class its) (is : AreMargins p fs product class its) where
  -- one that was kept of the class was the same
  same_margin : (w : BothMargins) → margin_at old product class ≡ Some w → its ≡ w
  same_margin w h =
      let its_are : AreMargins p fs product class w = subst (λ (o : Option BothMargins). IfSome o (AreMargins p fs product class)) h (right.margins product class) in
      let figure : (side : MarginSide) → (margin_on its side).0 ≡ (margin_on w side).0 = λ side. (is side).value ∙ sym (its_are side).value in
      λ i. record { collect = record { 0 = figure Collect i }; post = record { 0 = figure Post i } }

  still_margin : (c : ProductClass) (k : RiskClass) (w : BothMargins) → margin_at old c k ≡ Some w → margin_at new c k ≡ Some w
  still_margin c k w h = keeps.margins c k ∙ by (is_class product class c k) refl h
    where
      by : (t : Bool) → is_class product class c k ≡ t → margin_at old c k ≡ Some w → cond t (Some its) (margin_at old c k) ≡ Some w
      by true e m = ap Some (moved_class (λ a b. margin_at old a b ≡ Some w → its ≡ w) product class c k e (same_margin w) m)
      by false e m = m

  pub renews_margin : IsWhole fs old product class → Renews p fs old new
  renews_margin whole = record {
    right = record {
      values = λ q. subst (λ (o : Option PlaceValue). IfSome o (IsRight p fs q)) (sym (keeps.values q)) (right.values q);
      margins = λ c k. subst (λ (o : Option BothMargins). IfSome o (AreMargins p fs c k)) (sym (keeps.margins c k)) (margin_by c k (is_class product class c k) refl);
      whole = λ c k some s q on has. ap is_some (keeps.values q) ∙ whole_by c k (is_class product class c k) refl (ap is_some (sym (keeps.margins c k)) ∙ some) s q on has;
    };
    values = λ place v e. keeps.values place ∙ e;
    margins = still_margin;
  }
    where
      margin_by : (c : ProductClass) (k : RiskClass) (t : Bool) → is_class product class c k ≡ t → IfSome (cond t (Some its) (margin_at old c k)) (AreMargins p fs c k)
      margin_by c k true e = moved_class (λ a b. AreMargins p fs a b its) product class c k e is
      margin_by c k false e = right.margins c k

      whole_by : (c : ProductClass) (k : RiskClass) (t : Bool) → is_class product class c k ≡ t → is_some (cond t (Some its) (margin_at old c k)) ≡ true → IsWhole fs old c k
      whole_by c k true e some = moved_class (IsWhole fs old) product class c k e whole
      whole_by c k false e some = right.whole c k some

module _ (old new : Kept) (product : ProductClass) (class : RiskClass) (its : BothMargins) (keeps : KeepsMargin old new product class its) where
  pub margin_now : IsSome (margin_at new product class)
  margin_now = ap is_some (keeps.margins product class ∙ ap (λ t. cond t (Some its) (margin_at old product class)) (own_class product class))

  pub same_steps : (count : Count) (fs : Factors) → steps_left count new fs ≡ steps_left count old fs
  same_steps count fs = λ i. sum_by (λ (lent : Lent). cond (is_some (keeps.values lent.place i)) 0 (measures_of (lent.place).stand) * (count lent * count lent)) (by_place fs)
