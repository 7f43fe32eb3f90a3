-- What a loop has gone over: that it is kept, the values of places, and the steps that these took.
use Rattle.std.proofs.Common.{◌≡◌, ◌≢◌, ℕ, ◌+◌, ◌<◌, ◌≤◌, List, [], ◌∷◌, ◌++◌, map, take, length, get_or, Bool, true, false, cond, refl, sym, ap, ◌∙◌, subst, arith, append-nil, append_assoc}
use Rattle.std.specs.Prelude.{IsSome}
use Rattle.std.specs.List.{filter, AllByRecursion}
use Rattle.std.proofs.SliceLists.{all_by_recursion_push}
use Rattle.std.proofs.lemmas.List.{take_more, take_all}
use Rattle.kept_buckets.specs.SimmKinds.declared.kinds.ProductClass.{ProductClass}
use Rattle.kept_buckets.specs.SimmKinds.declared.kinds.RiskClass.{RiskClass}
use Rattle.kept_buckets.specs.SimmKinds.declared.key.FactorKey.{FactorKey}
use Rattle.kept_buckets.specs.SimmRules.Params.{Params}
use Rattle.kept_buckets.specs.FactorBook.declared.address.Address.{Address}
use Rattle.kept_buckets.specs.FactorBook.declared.holding.Holding.{Holding}
use Rattle.kept_buckets.specs.FactorBook.declared.place.BookSide.{BookSide}
use Rattle.kept_buckets.specs.FactorBook.declared.value.PlaceValue.{PlaceValue}
use Rattle.kept_buckets.specs.FactorBook.Places.{addressed, by_place, by_side, is_on, Lent}
use Rattle.kept_buckets.proofs.FactorBook.Buckets.{IsLent, of_side, side_lent}
use Rattle.kept_buckets.proofs.FactorBook.Sorting.{each_weaker}
use Rattle.class_margin.specs.value.Values.{AreValued, IsValued}
use Rattle.kept_buckets.specs.Kept.{Kept, value_at}
use Rattle.book_margin.specs.Right.{AreRight, IsSideKept, Renews}
use Rattle.book_margin.specs.Steps.{steps_due}
use Rattle.book_margin.proofs.Renewed.{renews_none, renews_both, value_still}

abbrev Factors : Type 0
Factors = List (FactorKey × Holding)

-- What a loop has renewed so far: each of these is kept, and the steps that it took.
pub record Renewed {A : Type 0} (p : Params) (fs : Factors) (IsKept : Kept → A → Type 0) (first now : Kept) (items : List A) (before after : ℕ) : Type 0 where
  pub renewed : Renews p fs first now
  pub kept : AllByRecursion (IsKept now) items
  pub steps : after + steps_due p now fs ≤ before + steps_due p first fs

module _ {A : Type 0} (p : Params) (fs : Factors) (IsKept : Kept → A → Type 0) where
  pub renewed_first : (first : Kept) (before : ℕ) → AreRight p fs first → Renewed p fs IsKept first first [] before before
  renewed_first first before right = record { renewed = renews_none first right; kept = tt; steps = omega arith }

  pub renewed_next : (first now next : Kept) (items : List A) (i : ℕ) (x : A) (before mid after : ℕ)
      → i < length items → x ≡ get_or items i x → Renewed p fs IsKept first now (take i items) before mid
      → Renews p fs now next → ((y : A) → IsKept now y → IsKept next y) → IsKept next x → after + steps_due p next fs ≤ mid + steps_due p now fs
      → Renewed p fs IsKept first next (take (i + 1) items) before after
  renewed_next first now next items i x before mid after inside is so_far more still there took = record {
    renewed = renews_both first now next so_far.renewed more;
    kept = subst (AllByRecursion (IsKept next)) (ap (λ y. take i items ++ y ∷ []) is ∙ sym (take_more items i x inside))
        (all_by_recursion_push (IsKept next) (take i items) x (each_weaker (IsKept now) (IsKept next) still (take i items) so_far.kept) there);
    steps = omega (arith, took, so_far.steps);
  }

  pub renewed_all : (first now : Kept) (items : List A) (i : ℕ) (before after : ℕ) → length items ≤ i → Renewed p fs IsKept first now (take i items) before after → AllByRecursion (IsKept now) items
  renewed_all first now items i before after end so_far = subst (AllByRecursion (IsKept now)) (take_all i items end) so_far.kept

-- ---- the places of a side, one after the other

abbrev pub lent_in : List (Address × Lent) → List Lent
lent_in rest = map (λ e. e.1) rest

addressed_lent : (ls : List Lent) → lent_in (map addressed ls) ≡ ls
addressed_lent [] = refl
addressed_lent (l ∷ ls) = ap (λ xs. l ∷ xs) (addressed_lent ls)

-- one of them is lent by the book
one_of : (fs : Factors) (done rest : List Lent) (l : Lent) → AllByRecursion (IsLent fs) (done ++ l ∷ rest) → IsLent fs l
one_of fs [] rest l h = h.0
one_of fs (d ∷ done) rest l h = one_of fs done rest l h.1

-- a value behind others
valued_more : (p : Params) (ls : List Lent) (vs : List PlaceValue) (l : Lent) (v : PlaceValue) → AreValued p ls vs → IsValued p l v → AreValued p (ls ++ l ∷ []) (vs ++ v ∷ [])
valued_more p [] [] l v h is = (is, tt)
valued_more p [] (w ∷ vs) l v h is = absurd h
valued_more p (m ∷ ls) [] l v h is = absurd h
valued_more p (m ∷ ls) (w ∷ vs) l v h is = (h.0, valued_more p ls vs l v h.1 is)

-- What is gone over and what is left; the values, behind those that were there.
pub record Gone (p : Params) (fs : Factors) (c : ProductClass) (k : RiskClass) (s : BookSide) (rest : List (Address × Lent)) (first now : List PlaceValue) : Type 0 where
  pub done : List Lent
  pub are : done ++ lent_in rest ≡ by_side c k s fs
  pub valued : (before : List Lent) → AreValued p before first → AreValued p (before ++ done) now

module _ (p : Params) (fs : Factors) (c : ProductClass) (k : RiskClass) (s : BookSide) (first : List PlaceValue) where
  pub gone_none : (rest : List (Address × Lent)) → rest ≡ map addressed (by_side c k s fs) → Gone p fs c k s rest first first
  gone_none rest e = record {
    done = [];
    are = ap lent_in e ∙ addressed_lent (by_side c k s fs);
    valued = λ before h. subst (λ ls. AreValued p ls first) (sym (append-nil before)) h;
  }

  -- the next one
  pub next_lent : (left rest : List (Address × Lent)) (e : Address × Lent) (now : List PlaceValue) → Gone p fs c k s left first now → left ≡ e ∷ rest → IsLent fs e.1
  next_lent left rest e now gone is =
      one_of fs gone.done (lent_in rest) e.1 (subst (AllByRecursion (IsLent fs)) (sym (ap (λ xs. gone.done ++ lent_in xs) (sym is) ∙ gone.are)) (side_lent c k s fs))

  pub gone_more : (left rest : List (Address × Lent)) (e : Address × Lent) (v : PlaceValue) (now more : List PlaceValue) → Gone p fs c k s left first now → left ≡ e ∷ rest → IsValued p e.1 v → more ≡ now ++ v ∷ []
      → Gone p fs c k s rest first more
  gone_more left rest e v now more gone is valued grown = record {
    done = gone.done ++ e.1 ∷ [];
    are = append_assoc gone.done (e.1 ∷ []) (lent_in rest) ∙ ap (λ xs. gone.done ++ lent_in xs) (sym is) ∙ gone.are;
    valued = λ before h.
        subst (λ vs. AreValued p (before ++ (gone.done ++ e.1 ∷ [])) vs) (sym grown)
        (subst (λ ls. AreValued p ls (now ++ v ∷ [])) (append_assoc before gone.done (e.1 ∷ [])) (valued_more p (before ++ gone.done) now e.1 v (gone.valued before h) valued));
  }

  pub gone_all : (rest : List (Address × Lent)) (now : List PlaceValue) → Gone p fs c k s rest first now → rest ≡ [] → (before : List Lent) → AreValued p before first → AreValued p (before ++ by_side c k s fs) now
  gone_all rest now gone none before h =
      subst (λ ls. AreValued p (before ++ ls) now) (sym (append-nil gone.done) ∙ ap (λ xs. gone.done ++ lent_in xs) (sym none) ∙ gone.are) (gone.valued before h)

-- the next one is kept, where all of the side are
each_next : (P : Lent → Type 0) (done rest : List Lent) (l : Lent) → AllByRecursion P (done ++ l ∷ rest) → P l
each_next P [] rest l h = h.0
each_next P (d ∷ done) rest l h = each_next P done rest l h.1

module _ (p : Params) (fs : Factors) (c : ProductClass) (k : RiskClass) (s : BookSide) (first : List PlaceValue) (kept : Kept) where
  pub lent_kept : (left rest : List (Address × Lent)) (e : Address × Lent) (now : List PlaceValue) → Gone p fs c k s left first now → left ≡ e ∷ rest → IsSideKept fs kept c k s → IsSome (value_at kept (e.1).place)
  lent_kept left rest e now gone is whole =
      let its = next_lent p fs c k s first left rest e now gone is in
      let on : is_on c k s (e.1).place ≡ true =
      each_next (λ lent. is_on c k s lent.place ≡ true) gone.done (lent_in rest) e.1
      (subst (AllByRecursion (λ lent. is_on c k s lent.place ≡ true)) (sym (ap (λ xs. gone.done ++ lent_in xs) (sym is) ∙ gone.are)) (filter_passes (λ (lent : Lent). is_on c k s lent.place) (by_place fs))) in
      whole (e.1).place on (subst (λ (l : Lent). l.factors ≢ []) its.is its.some)
    where
      filter_passes : (test : Lent → Bool) (ls : List Lent) → AllByRecursion (λ l. test l ≡ true) (filter test ls)
      filter_passes test [] = tt
      filter_passes test (l ∷ ls) = by (test l) refl (filter_passes test ls)
        where
          by : (t : Bool) → test l ≡ t → AllByRecursion (λ x. test x ≡ true) (filter test ls) → AllByRecursion (λ x. test x ≡ true) (cond t (l ∷ filter test ls) (filter test ls))
          by true e i = (e, i)
          by false e i = i

-- each that is gone over is kept
abbrev pub IsPlaceKept : Kept → Lent → Type 0
IsPlaceKept kept lent = IsSome (value_at kept lent.place)

pub record SideSoFar (p : Params) (fs : Factors) (c : ProductClass) (k : RiskClass) (s : BookSide) (first now : Kept) (rest : List (Address × Lent)) (values0 values : List PlaceValue) (before after : ℕ) : Type 0 where
  pub gone : Gone p fs c k s rest values0 values
  pub renewed : Renews p fs first now
  pub kept : AllByRecursion (IsPlaceKept now) gone.done
  pub steps : after + steps_due p now fs ≤ before + steps_due p first fs

module _ (p : Params) (fs : Factors) (c : ProductClass) (k : RiskClass) (s : BookSide) (first : Kept) (values0 : List PlaceValue) (before : ℕ) where
  pub none_kept : (rest : List (Address × Lent)) → AreRight p fs first → rest ≡ map addressed (by_side c k s fs) → SideSoFar p fs c k s first first rest values0 values0 before before
  unfolding gone_none
  none_kept rest right e = record { gone = gone_none p fs c k s values0 rest e; renewed = renews_none first right; kept = tt; steps = omega arith }

  pub one_kept : (now next : Kept) (left rest : List (Address × Lent)) (e : Address × Lent) (v : PlaceValue) (values more : List PlaceValue) (mid after : ℕ)
      → SideSoFar p fs c k s first now left values0 values before mid → left ≡ e ∷ rest → IsValued p e.1 v → more ≡ values ++ v ∷ [] → Renews p fs now next → IsPlaceKept next e.1
      → after + steps_due p next fs ≤ mid + steps_due p now fs → SideSoFar p fs c k s first next rest values0 more before after
  unfolding gone_more
  one_kept now next left rest e v values more mid after so_far is valued grown renews there took = record {
    gone = gone_more p fs c k s values0 left rest e v values more so_far.gone is valued grown;
    renewed = renews_both first now next so_far.renewed renews;
    kept = all_by_recursion_push (IsPlaceKept next) (so_far.gone).done e.1 (each_weaker (IsPlaceKept now) (IsPlaceKept next) (λ l. value_still now next renews l.place) (so_far.gone).done so_far.kept) there;
    steps = omega (arith, took, so_far.steps);
  }

  pub all_kept : (now : Kept) (rest : List (Address × Lent)) (values : List PlaceValue) (after : ℕ) → SideSoFar p fs c k s first now rest values0 values before after → rest ≡ [] → IsSideKept fs now c k s
  all_kept now rest values after so_far none place on some =
      of_side c k s fs (IsPlaceKept now)
      (subst (AllByRecursion (IsPlaceKept now)) (sym (append-nil (so_far.gone).done) ∙ ap (λ xs. (so_far.gone).done ++ lent_in xs) (sym none) ∙ (so_far.gone).are) so_far.kept) place on some
