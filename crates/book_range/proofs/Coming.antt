-- The first crowded bucket of a book to which rows came: of the places that rows leave, and of those where rows came.
use Rattle.std.proofs.Common.{◌≡◌, ℕ, zero, suc, ◌+◌, ◌<◌, ◌≤◌, List, [], ◌∷◌, ◌++◌, map, length, Bool, true, false, ◌||◌, cond, Option, Some, None, ◌⊎◌, inl, inr, ⊎_elim, refl, sym, ap, ◌∙◌, subst, pos, ◌≤ℤ◌, arith, take, get_or, append-nil}
use Rattle.std.specs.Prelude.{is_some}
use Rattle.std.specs.declared.cmp.Ordering.{Ordering}
use Rattle.std.specs.declared.cmp.Ordering.TheVariants.{Less, Equal, Greater}
use Rattle.std.specs.Ordering.{ordering_reverse, is_eq, is_lt}
use Rattle.std.specs.List.{find, list_any}
use Rattle.std.specs.BTreeMap.{is_at}
use Rattle.std.proofs.lemmas.Bool.{false≢true}
use Rattle.std.proofs.lemmas.Int.{ints}
use Rattle.std.proofs.lemmas.List.{take_more}
use Rattle.std.proofs.lemmas.List.Concat.{flat_map-append}
use Rattle.std.proofs.lemmas.List.Folds.{list_any-append}
use Rattle.simm_params.specs.SimmKinds.declared.key.FactorKey.{FactorKey}
use Rattle.simm_params.specs.SimmKinds.declared.row.CrifRow.{CrifRow}
use Rattle.simm_params.specs.SimmKinds.declared.row.CrifRow.TheVariants as row
use Rattle.simm_params.specs.SimmKinds.declared.row.TradeRows.{TradeRows}
use Rattle.simm_params.specs.SimmKinds.Batch.{rows_of}
use Rattle.simm_params.specs.SimmRules.declared.values.RangeKind.TheVariants as range_kind
use Rattle.simm_params.specs.SimmRules.Net.{Sensitivity, sensitivities}
use Rattle.factor_book.specs.declared.holding.Holding.{Holding}
use Rattle.factor_book.specs.declared.place.Place.{Place}
use Rattle.factor_book.specs.Place.{place_of, place_cmp}
use Rattle.factor_book.specs.Places.{stands_at, factors_at, lent_at, places_of, by_place, Lent}
use Rattle.factor_book.proofs.Grouping.{any_is}
use Rattle.factor_book.proofs.Sorting.{different_ascends, some_not_none}
use Rattle.factor_book.proofs.Standing.{place_total, exact_places, one_place, own_place, at_place}
use Rattle.factor_book.proofs.Buckets.{any_there}
use Rattle.factor_book.proofs.Rows.{sensitivities-append}
use Rattle.book_range.specs.After.{AreFewElsewhere}
use Rattle.book_range.specs.Faults.{keys_fault}
use Rattle.book_range.specs.Firsts.{fault_at, fault_of, IsFirst, earlier, row_place, IsNewAt, IsLeft}
use Rattle.book_range.proofs.Firsts.{none_from_test}
use Rattle.book_range.proofs.Tests.{none_above}
use Rattle.book_range.proofs.Crowded.{Anywhere, find_first, keys_first}

module _ (fs : List (FactorKey × Holding)) where
  weaken : (P Q : Place → Type 0) → ((q : Place) → Q q → P q) → (o : Option Place) → IsFirst fs P o → IsFirst fs Q o
  weaken P Q f None h = λ q b. h q (f q b)
  weaken P Q f (Some p) h = (h.0, λ q b less. h.1 q (f q b) less)

  -- the first of some places or of others is the earlier of both
  combined : (P Q : Place → Type 0) (a b : Option Place) → IsFirst fs P a → IsFirst fs Q b → IsFirst fs (λ q. P q ⊎ Q q) (earlier a b)
  combined P Q None None h g = λ q e. ⊎_elim (h q) (g q) e
  combined P Q None (Some r) h g = (g.0, λ q e less. ⊎_elim (h q) (λ b. g.1 q b less) e)
  combined P Q (Some p) None h g = (h.0, λ q e less. ⊎_elim (λ a. h.1 q a less) (g q) e)
  combined P Q (Some p) (Some r) h g = by (place_cmp r p) refl
    where
      by : (o : Ordering) → place_cmp r p ≡ o → IsFirst fs (λ q. P q ⊎ Q q) (Some (cond (is_lt o) r p))
      by Less e = (g.0, λ q c less. ⊎_elim (λ a. h.1 q a (place_total.trans q r p less e)) (λ b. g.1 q b less) c)
      by Equal e = (h.0, λ q c less. ⊎_elim (λ a. h.1 q a less) (λ b. g.1 q b (ap (place_cmp q) (exact_places r p e) ∙ less)) c)
      by Greater e = (h.0, λ q c less. ⊎_elim (λ a. h.1 q a less) (λ b. g.1 q b (place_total.trans q p r less (place_total.antisymm p r ∙ ap ordering_reverse e))) c)

  -- ---- where rows came

  module _ (leaving : List (FactorKey × Holding)) where
    pub new_none : IsFirst fs (IsNewAt leaving []) None
    new_none = λ q its. absurd (false≢true its.0)

    which : (xs ys : List CrifRow) (q : Place) → IsNewAt leaving (xs ++ ys) q → IsNewAt leaving xs q ⊎ IsNewAt leaving ys q
    which xs ys q its = by (list_any (λ s. stands_at q s.key) (sensitivities xs)) refl
      where
        both : (list_any (λ s. stands_at q s.key) (sensitivities xs) || list_any (λ s. stands_at q s.key) (sensitivities ys)) ≡ true
        both =
            sym (ap (list_any (λ (s : Sensitivity). stands_at q s.key)) (sensitivities-append xs ys) ∙ list_any-append (λ (s : Sensitivity). stands_at q s.key) (sensitivities xs) (sensitivities ys)) ∙ its.0

        by : (t : Bool) → list_any (λ s. stands_at q s.key) (sensitivities xs) ≡ t → IsNewAt leaving xs q ⊎ IsNewAt leaving ys q
        by true e = inl (e, its.1)
        by false e = inr (sym (ap (λ t. t || list_any (λ s. stands_at q s.key) (sensitivities ys)) e) ∙ both, its.1)

    new_more : (xs ys : List CrifRow) (a b : Option Place) → IsFirst fs (IsNewAt leaving xs) a → IsFirst fs (IsNewAt leaving ys) b → IsFirst fs (IsNewAt leaving (xs ++ ys)) (earlier a b)
    new_more xs ys a b h g =
        weaken (λ q. IsNewAt leaving xs q ⊎ IsNewAt leaving ys q) (IsNewAt leaving (xs ++ ys)) (which xs ys) (earlier a b) (combined (IsNewAt leaving xs) (IsNewAt leaving ys) a b h g)

    -- one row more, one trade more
    pub new_row : (rows : List CrifRow) (i : ℕ) (r : CrifRow) (a b o : Option Place) → i < length rows → r ≡ get_or rows i r → o ≡ earlier a b
        → IsFirst fs (IsNewAt leaving (take i rows)) a → IsFirst fs (IsNewAt leaving (r ∷ [])) b → IsFirst fs (IsNewAt leaving (take (i + 1) rows)) o
    new_row rows i r a b o below is e h g =
        let more : take (i + 1) rows ≡ take i rows ++ r ∷ [] = take_more rows i r below ∙ ap (λ x. take i rows ++ x ∷ []) (sym is) in
        subst (λ xs. IsFirst fs (IsNewAt leaving xs) o) (sym more) (subst (IsFirst fs (IsNewAt leaving (take i rows ++ r ∷ []))) (sym e) (new_more (take i rows) (r ∷ []) a b h g))

    pub new_trade : (came : List TradeRows) (i : ℕ) (t : TradeRows) (rows : List CrifRow) (a b o : Option Place) → i < length came → t ≡ get_or came i t → rows ≡ t.rows → o ≡ earlier a b
        → IsFirst fs (IsNewAt leaving (rows_of (take i came))) a → IsFirst fs (IsNewAt leaving rows) b → IsFirst fs (IsNewAt leaving (rows_of (take (i + 1) came))) o
    new_trade came i t rows a b o below is same e h g =
        let more : rows_of (take (i + 1) came) ≡ rows_of (take i came) ++ rows =
        ap rows_of (take_more came i t below ∙ ap (λ x. take i came ++ x ∷ []) (sym is)) ∙ flat_map-append (λ (u : TradeRows). u.rows) (take i came) (t ∷ []) ∙ ap (λ xs. rows_of (take i came) ++ xs) (append-nil t.rows ∙ sym same) in
        subst (λ xs. IsFirst fs (IsNewAt leaving xs) o) (sym more) (subst (IsFirst fs (IsNewAt leaving (rows_of (take i came) ++ rows))) (sym e) (new_more (rows_of (take i came)) rows a b h g))

    -- ---- one row

    row_at : (r : CrifRow) (q : Place) → IsNewAt leaving (r ∷ []) q → row_place r ≡ Some q
    row_at (row.Sensitivity key amount) q its = ap Some (sym (one_place q (place_of key) (sym (at_place q key) ∙ or_nothing (stands_at q key) its.0)))
      where
        or_nothing : (t : Bool) → (t || false) ≡ true → t ≡ true
        or_nothing true h = refl
        or_nothing false h = h
    row_at (row.Notional qualifier amount) q its = absurd (false≢true its.0)
    row_at (row.FixedAmount amount) q its = absurd (false≢true its.0)
    row_at (row.NotionalFactor qualifier factor) q its = absurd (false≢true its.0)
    row_at (row.Multiplier product factor) q its = absurd (false≢true its.0)

    module _ (r : CrifRow) where
      pub row_nowhere : row_place r ≡ None → IsFirst fs (IsNewAt leaving (r ∷ [])) None
      row_nowhere e = λ q its. absurd (some_not_none q (sym (row_at r q its) ∙ e))

      module _ (place : Place) (at : row_place r ≡ Some place) where
        same_place : (q : Place) → IsNewAt leaving (r ∷ []) q → q ≡ place
        same_place q its = let both : Some q ≡ Some place = sym (row_at r q its) ∙ at in cc

        pub row_left : 0 < length (factors_at place leaving) → IsFirst fs (IsNewAt leaving (r ∷ [])) None
        row_left some = λ q its. absurd (none_there q its (ap (λ p. length (factors_at p leaving)) (same_place q its)))
          where
            none_there : (q : Place) → IsNewAt leaving (r ∷ []) q → length (factors_at q leaving) ≡ length (factors_at place leaving) → ⊥
            none_there q its e = let none : length (factors_at q leaving) ≡ 0 = its.1 in omega arith

        pub row_few : is_some (fault_at fs place) ≡ false → IsFirst fs (IsNewAt leaving (r ∷ [])) None
        row_few none = λ q its. ap (fault_at fs) (same_place q its) ∙ none_from_test (fault_at fs place) none

        pub row_crowded : is_some (fault_at fs place) ≡ true → IsFirst fs (IsNewAt leaving (r ∷ [])) (Some place)
        row_crowded some = (some, λ q its less. absurd (false≢true (sym (ap is_eq (ap (λ p. place_cmp p place) (sym (same_place q its)) ∙ less)) ∙ own_place place)))

    -- ---- places that rows leave

    some_any : (xs : List (FactorKey × Holding)) → (length xs ≡ 0 → ⊥) → any_is xs ≡ true
    some_any [] h = absurd (h refl)
    some_any (x ∷ xs) h = refl

    pub left_first : (o : Option Place) → find (λ q. is_some (fault_at fs q)) (places_of leaving) ≡ o → IsFirst fs (IsLeft leaving) o
    left_first o e =
        weaken (λ q. list_any (is_at (place_cmp q)) (places_of leaving) ≡ true) (IsLeft leaving) (λ q some. sym (any_there q leaving) ∙ some_any (factors_at q leaving) some) o
        (subst (IsFirst fs (λ q. list_any (is_at (place_cmp q)) (places_of leaving) ≡ true)) e
        (find_first fs (places_of leaving) (different_ascends place_cmp place_total (map (λ f. place_of f.0) leaving))))

    -- ---- all places

    few_none : (n : ℕ) → n ≤ 2000 → pos n ≤ℤ pos 2000
    few_none n h = omega (arith, ints)

    whole : (came : List CrifRow) (o : Option Place) → AreFewElsewhere came fs → IsFirst fs (λ q. IsLeft leaving q ⊎ IsNewAt leaving came q) o → IsFirst fs Anywhere o
    whole came o few h = by o h
      where
        pick : (q : Place) → (IsLeft leaving q ⊎ IsNewAt leaving came q → fault_at fs q ≡ None) → fault_at fs q ≡ None
        pick q f = lying (list_any (λ s. stands_at q s.key) (sensitivities came)) refl
          where
            standing : list_any (λ s. stands_at q s.key) (sensitivities came) ≡ true → (n : ℕ) → length (factors_at q leaving) ≡ n → fault_at fs q ≡ None
            standing e zero none = f (inr (e, none))
            standing e (suc n) some = f (inl (λ none. not_both n (sym some ∙ none)))
              where
                not_both : (n : ℕ) → suc n ≡ 0 → ⊥
                not_both n g = omega (arith, g)

            lying : (t : Bool) → list_any (λ s. stands_at q s.key) (sensitivities came) ≡ t → fault_at fs q ≡ None
            lying true e = standing e (length (factors_at q leaving)) refl
            lying false e = none_above range_kind.BucketKeys (pos (length (factors_at q fs))) (pos 2000) (few_none (length (factors_at q fs)) (few q e))

        by : (o : Option Place) → IsFirst fs (λ q. IsLeft leaving q ⊎ IsNewAt leaving came q) o → IsFirst fs Anywhere o
        by None g = λ q any. pick q (g q)
        by (Some p) g = (g.0, λ q any less. pick q (λ c. g.1 q c less))

    -- the first fault, by the earlier of the places that rows leave and of those where rows came
    pub after_is : (came : List CrifRow) (a b o : Option Place) → IsFirst fs (IsLeft leaving) a → IsFirst fs (IsNewAt leaving came) b → AreFewElsewhere came fs → o ≡ earlier a b → fault_of fs o ≡ keys_fault fs
    after_is came a b o h g few e =
        ap (fault_of fs) e ∙ sym (keys_first fs (earlier a b) (whole came (earlier a b) few (combined (IsLeft leaving) (IsNewAt leaving came) a b h g)))

-- ---- the loop over places

abbrev pub places_in : List Lent → List Place
places_in es = map (λ lent. lent.place) es

pub found_next : (test : Place → Bool) (es rest : List Lent) (e : Lent) (t : Bool) → es ≡ e ∷ rest → test e.place ≡ t
    → find test (places_in es) ≡ cond t (Some e.place) (find test (places_in rest))
found_next test es rest e t is h = ap (λ xs. find test (places_in xs)) is ∙ ap (λ b. cond b (Some e.place) (find test (places_in rest))) h

pub found_first : (test : Place → Bool) (fs : List (FactorKey × Holding)) (es : List Lent) → es ≡ by_place fs → find test (places_in es) ≡ find test (places_of fs)
found_first test fs es e = ap (λ xs. find test (places_in xs)) e ∙ ap (find test) (own (places_of fs))
  where
    own : (ps : List Place) → places_in (map (lent_at fs) ps) ≡ ps
    own [] = refl
    own (p ∷ ps) = ap (λ qs. p ∷ qs) (own ps)

pub found_none : (test : Place → Bool) (es : List Lent) → es ≡ [] → find test (places_in es) ≡ None
found_none test es e = ap (λ xs. find test (places_in xs)) e

-- ---- the earlier of two places

pub earlier_some : (a b : Option Place) (p r : Place) (t : Bool) → a ≡ Some p → b ≡ Some r → is_lt (place_cmp r p) ≡ t → earlier a b ≡ Some (cond t r p)
earlier_some a b p r t e f h = (λ i. earlier (e i) (f i)) ∙ ap (λ s. Some (cond s r p)) h
