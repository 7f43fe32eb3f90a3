-- What is kept of a place stands: after a question, and after rows that lie elsewhere.
use Rattle.std.proofs.Common.{◌≡◌, ◌≢◌, ◌∙◌, List, [], ◌∷◌, Bool, true, false, ◌&&◌, ◌||◌, not, cond, map, Option, Some, None, is_some, IsSome, IfSome, refl, sym, ap, subst}
use Rattle.std.specs.declared.cmp.Ordering.{Ordering}
use Rattle.std.specs.declared.cmp.Ordering.TheVariants.{Less, Equal, Greater}
use Rattle.std.specs.BTreeMap.{is_at}
use Rattle.std.specs.List.{filter, list_any}
use Rattle.std.specs.Map.{lookup}
use Rattle.std.proofs.lemmas.Bool.{and_from, eq-eqb, true≢false, false≢true}
use Rattle.book_margin.specs.SimmKinds.declared.key.FactorKey.{FactorKey}
use Rattle.book_margin.specs.SimmKinds.declared.row.CrifRow.{CrifRow}
use Rattle.book_margin.specs.SimmKinds.declared.row.TradeRows.{TradeRows}
use Rattle.book_margin.specs.SimmKinds.Batch.{rows_of}
use Rattle.book_margin.specs.SimmKinds.Order.{class_place, key_cmp, product_place, same_class, same_product}
use Rattle.book_margin.specs.SimmRules.Net.{Sensitivity, sensitivities, keys_of}
use Rattle.book_margin.specs.SimmRules.Params.{Params}
use Rattle.book_margin.specs.SimmRules.Sums.{placed, put_in, different}
use Rattle.book_margin.specs.FactorBook.declared.address.Address.{Address}
use Rattle.book_margin.specs.FactorBook.declared.holding.Holding.{Holding}
use Rattle.book_margin.specs.FactorBook.declared.place.BookSide.{BookSide}
use Rattle.book_margin.specs.FactorBook.declared.place.BookSide.TheVariants as side
use Rattle.book_margin.specs.FactorBook.declared.place.Place.{Place}
use Rattle.book_margin.specs.FactorBook.declared.value.PlaceValue.{PlaceValue}
use Rattle.book_margin.specs.FactorBook.Address.{address_cmp, same_side}
use Rattle.book_margin.specs.FactorBook.Place.{address_of, stand_class, stand_side}
use Rattle.book_margin.specs.FactorBook.Factors.{factor_of, factors_in, factors_of}
use Rattle.book_margin.specs.FactorBook.Places.{stands_at, factors_at, is_on}
use Rattle.book_margin.proofs.FactorBook.Addresses.{own_address}
use Rattle.book_margin.proofs.FactorBook.Grouping.{any_is}
use Rattle.book_margin.proofs.FactorBook.Netting.{parts}
use Rattle.book_margin.specs.KeptBuckets.Kept.{Kept, value_at, AreOfPlaces}
use Rattle.book_margin.specs.KeptBuckets.Touched.{lies_at, Forgets, SameElsewhere}
use Rattle.book_margin.specs.Right.{AreRight, IsFresh, IsRight, Renews}
use Rattle.bucket_cache.specs.Live.{Live}
use Rattle.bucket_cache.specs.Cached.{touches, is_cached, IsCached}

pub and_false : (s : Bool) → (s && false) ≡ false
and_false true = refl
and_false false = refl

and_true : (s : Bool) → (s && true) ≡ s
and_true true = refl
and_true false = refl

-- ---- after a question

own_side : (s : BookSide) → same_side s s ≡ true
own_side side.Delta = refl
own_side side.Volatility = refl

on_own : (place : Place) → is_on place.product (stand_class place.stand) (stand_side place.stand) place ≡ true
on_own place =
    and_from (same_product place.product place.product) (same_class (stand_class place.stand) (stand_class place.stand) && same_side (stand_side place.stand) (stand_side place.stand)) (eq-eqb (product_place place.product) (product_place place.product) refl)
    (and_from (same_class (stand_class place.stand) (stand_class place.stand)) (same_side (stand_side place.stand) (stand_side place.stand)) (eq-eqb (class_place (stand_class place.stand)) (class_place (stand_class place.stand)) refl) (own_side (stand_side place.stand)))

-- where all is kept, each place is that has a row
pub fresh_cached : (factors : List (FactorKey × Holding)) (kept : Kept) → IsFresh factors kept → (place : Place) → factors_at place factors ≢ [] → IsSome (value_at kept place)
fresh_cached factors kept fresh place some = fresh.whole place.product (stand_class place.stand) (stand_side place.stand) place (on_own place) some

module _ (p : Params) (factors : List (FactorKey × Holding)) (kept : Kept) (right : AreRight p factors kept) (place : Place) where
  value_lies : (o : Option PlaceValue) → IfSome o (IsRight p factors place) → IsSome o → factors_at place factors ≢ []
  value_lies None h some = absurd (false≢true some)
  value_lies (Some v) h some = h.some

  no_value : factors_at place factors ≡ [] → value_at kept place ≡ None
  no_value none = by (value_at kept place) (value_lies (value_at kept place) (right.values place))
    where
      by : (o : Option PlaceValue) → (IsSome o → factors_at place factors ≢ []) → o ≡ None
      by None lies = refl
      by (Some v) lies = absurd (lies refl none)

-- ---- of a book without rows

none_filed : (values : List (Address × PlaceValue)) → AreOfPlaces values → ((place : Place) → lookup (is_at (address_cmp (address_of place))) values ≡ None) → values ≡ []
none_filed [] f none = refl
none_filed (x ∷ values) f none =
    let own : lookup (is_at (address_cmp x.0)) (x ∷ values) ≡ Some x.1 = ap (λ t. cond t (Some x.1) (lookup (is_at (address_cmp x.0)) values)) (own_address x.0) in
    let found = subst (λ (o : Option PlaceValue). IfSome o (λ v. (place : Place) × (address_of place ≡ x.0))) own (f x.0) in
    let gone : lookup (is_at (address_cmp x.0)) (x ∷ values) ≡ None = ap (λ a. lookup (is_at (address_cmp a)) (x ∷ values)) (sym found.1) ∙ none found.0 in
    absurd (let clash : Some x.1 ≡ None = sym own ∙ gone in cc)

pub no_values : (p : Params) (kept : Kept) → AreOfPlaces kept.values → AreRight p [] kept → kept.values ≡ []
no_values p kept filed right = none_filed kept.values filed (λ place. no_value p [] kept right place refl)

-- ---- a row that lies at a place is a factor there

any_put : {X : Type 0} (cmp : X → X → Ordering) (x : X) (ys : List X) → any_is (put_in cmp x ys) ≡ true
any_put cmp x [] = refl
any_put cmp x (y ∷ ys) = by (cmp x y)
  where
    by : (o : Ordering) → any_is (placed o x y ys (put_in cmp x ys)) ≡ true
    by Less = refl
    by Equal = refl
    by Greater = refl

any_different : {X : Type 0} (cmp : X → X → Ordering) (xs : List X) → any_is (different cmp xs) ≡ any_is xs
any_different cmp [] = refl
any_different cmp (x ∷ xs) = any_put cmp x (different cmp xs)

any_map : {X Y : Type 0} (f : X → Y) (xs : List X) → any_is (map f xs) ≡ any_is xs
any_map f [] = refl
any_map f (x ∷ xs) = refl

any_factors : (ss : List Sensitivity) → any_is (factors_in ss) ≡ any_is ss
any_factors ss = any_map (factor_of ss) (keys_of ss) ∙ any_different key_cmp (map (λ s. s.key) ss) ∙ any_map (λ (s : Sensitivity). s.key) ss

any_kept : {X : Type 0} (test : X → Bool) (xs : List X) → any_is (filter test xs) ≡ list_any test xs
any_kept test [] = refl
any_kept test (x ∷ xs) = by (test x) (any_kept test xs)
  where
    by : (t : Bool) → any_is (filter test xs) ≡ list_any test xs → any_is (cond t (x ∷ filter test xs) (filter test xs)) ≡ (t || list_any test xs)
    by true h = refl
    by false h = h

factors_lie : (place : Place) (rows : List CrifRow) → any_is (factors_at place (factors_of rows)) ≡ lies_at place rows
factors_lie place rows =
    ap any_is (parts (sensitivities rows) (stands_at place)) ∙ any_factors (filter (λ s. stands_at place s.key) (sensitivities rows))
    ∙ any_kept (λ s. stands_at place s.key) (sensitivities rows)

-- where each place is cached that has a row, just these are
just_cached : (p : Params) (rows : List CrifRow) (kept : Kept) → AreRight p (factors_of rows) kept → (place : Place)
    → (factors_at place (factors_of rows) ≢ [] → IsSome (value_at kept place)) → is_cached kept.values place ≡ touches place rows
just_cached p rows kept right place all =
    among (factors_at place (factors_of rows)) (value_at kept place) (no_value p (factors_of rows) kept right place) all ∙ factors_lie place rows
  where
    among : (fs : List (FactorKey × Holding)) (o : Option PlaceValue) → (fs ≡ [] → o ≡ None) → (fs ≢ [] → IsSome o) → is_some o ≡ any_is fs
    among [] o none some = ap is_some (none refl)
    among (f ∷ fs) o none some = some (λ e. true≢false (ap any_is e))

-- so after a question that was answered
pub asked_cached : (old new : Live) (p : Params) → new.book ≡ old.book → Renews p (factors_of (rows_of old.book)) old.kept new.kept → ((place : Place) → IsCached place new)
    → (place : Place) → is_cached new.kept.values place ≡ touches place (rows_of new.book)
asked_cached old new p same renews all place =
    just_cached p (rows_of new.book) new.kept (subst (λ (trades : List TradeRows). AreRight p (factors_of (rows_of trades)) new.kept) (sym same) renews.right) place (all place)

-- ---- what is kept as it was

still_some : (o n : Option PlaceValue) → ((v : PlaceValue) → o ≡ Some v → n ≡ Some v) → IsSome o → IsSome n
still_some None n keep h = absurd (false≢true h)
still_some (Some v) n keep h = ap is_some (keep v refl)

-- after rows, just the places are cached that were and that these do not touch
pub cached_untouched : (rows : List CrifRow) (old new : Kept) → Forgets rows old new → (place : Place) → is_cached new.values place ≡ (is_cached old.values place && not (touches place rows))
cached_untouched rows old new forgets place = ap is_some (forgets.values place) ∙ by (lies_at place rows)
  where
    by : (lies : Bool) → is_some (cond lies None (value_at old place)) ≡ (is_some (value_at old place) && not lies)
    by true = sym (and_false (is_some (value_at old place)))
    by false = sym (and_true (is_some (value_at old place)))

-- the same book of which more is kept
pub renewed_cached : (old new : Live) (p : Params) (factors : List (FactorKey × Holding)) → new.book ≡ old.book → Renews p factors old.kept new.kept → (place : Place) → IsCached place old → IsCached place new
renewed_cached old new p factors same renews place h some =
    still_some (value_at old.kept place) (value_at new.kept place) (renews.values place)
    (h (subst (λ book. factors_at place (factors_of (rows_of book)) ≢ []) same some))

pub renewed_still : (old new : Live) (p : Params) (factors : List (FactorKey × Holding)) → Renews p factors old.kept new.kept → (place : Place) → is_cached old.kept.values place ≡ true → is_cached new.kept.values place ≡ true
renewed_still old new p factors renews place h = still_some (value_at old.kept place) (value_at new.kept place) (renews.values place) h

-- another book, which rows make that do not lie there
pub elsewhere_cached : (old new : Live) (rows : List CrifRow) → Forgets rows old.kept new.kept → SameElsewhere rows (factors_of (rows_of old.book)) (factors_of (rows_of new.book)) → (place : Place)
    → touches place rows ≡ false → IsCached place old → IsCached place new
elsewhere_cached old new rows forgets same place none h some =
    still_some (value_at old.kept place) (value_at new.kept place)
    (λ v e. forgets.values place ∙ ap (λ b. cond b None (value_at old.kept place)) none ∙ e)
    (h (subst (λ its. its ≢ []) (sym (same.same (stands_at place) none)) some))
