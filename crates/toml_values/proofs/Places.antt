-- The places of an array, read one after another by a loop.
use Rattle.std.proofs.Common.{◌≡◌, ℕ, ◌+◌, ◌<◌, ◌≤◌, Bool, true, false, List, [], ◌∷◌, ◌++◌, length, get_or, drop, Result, Ok, Err, refl, sym, ap, ◌∙◌, arith, append_assoc, length-append}
use Rattle.std.specs.Result.{result_map_both}
use Rattle.std.proofs.lemmas.List.{append-nil, drop_all}
use Rattle.toml.specs.Data.{Data, item}
use Rattle.toml.specs.View.{view, items_view}
use Rattle.toml.specs.declared.value.Value.{Value}
use Rattle.toml.proofs.Views.{items_view-drop}
use Rattle.toml_values.specs.Answers.{◌>>=◌, Unless}
use Rattle.toml_values.specs.Places.{each_of}

-- what is read behind what was read
abbrev pub with_front : {A E : Type 0} → List A → Result (List A) E → Result (List A) E
with_front front read = result_map_both (λ xs. front ++ xs) (λ e. e) read

pub with_none : {A E : Type 0} (read : Result (List A) E) → with_front [] read ≡ read
with_none (Ok xs) = refl
with_none (Err e) = refl

pub regroup : {A E : Type 0} (front : List A) (x : A) (read : Result (List A) E) → with_front front (read >>= (λ xs. Ok (x ∷ xs))) ≡ with_front (front ++ x ∷ []) read
regroup front x (Ok xs) = ap Ok (sym (append_assoc front (x ∷ []) xs))
regroup front x (Err e) = refl

pub Unless-from : (b : Bool) {P Q : Type 0} → (P → Q) → Unless b P → Unless b Q
Unless-from true f h = tt
Unless-from false f h = f h

-- a fault of a test is one of the chain that begins with it
pub fails_first : {A B E : Type 0} (b : Bool) (e : E) (front : List B) (r : Result A E) (f : A → Result (List B) E) → Unless b (r ≡ Err e) → Unless b (with_front front (r >>= f) ≡ Err e)
fails_first b e front r f h = Unless-from b (λ is. ap (λ x. with_front front (x >>= f)) is) h

module _ {A E : Type 0} (test : ℕ → List A → Data → Result A E) (earlier : List A) where
  -- what is left of an array, behind what was read, gives what the whole array gives
  pub record SoFar (front : List A) (i : ℕ) (vs : List Value) (total : Result (List A) E) : Type 0 where
    pub value : with_front front (each_of test (i + 1) (earlier ++ front) (items_view (drop i vs))) ≡ total
    pub count : length front ≡ i

  pub begins : (vs : List Value) → SoFar [] 0 vs (each_of test 1 earlier (items_view vs))
  begins vs = record {
    value = with_none (each_of test 1 (earlier ++ []) (items_view vs)) ∙ ap (λ before. each_of test 1 before (items_view vs)) (append-nil earlier);
    count = refl;
  }

  module _ (front : List A) (i : ℕ) (vs : List Value) (total : Result (List A) E) where
    abbrev rest : A → Result (List A) E
    rest y = each_of test (i + 1 + 1) ((earlier ++ front) ++ y ∷ []) (items_view (drop (i + 1) vs)) >>= (λ xs. Ok (y ∷ xs))

    place_is : (x : Value) → i < length vs → x ≡ get_or vs i x → each_of test (i + 1) (earlier ++ front) (items_view (drop i vs)) ≡ (test (i + 1) (earlier ++ front) (view x) >>= rest)
    unfolding each_of
    place_is x lt at = ap (each_of test (i + 1) (earlier ++ front)) (items_view-drop vs i x lt ∙ ap (λ v. item (view v) (items_view (drop (i + 1) vs))) (sym at))

    pub goes_on : (x : Value) (y : A) → i < length vs → x ≡ get_or vs i x → test (i + 1) (earlier ++ front) (view x) ≡ Ok y → SoFar front i vs total → SoFar (front ++ y ∷ []) (i + 1) vs total
    goes_on x y lt at h so_far =
        let left : Result (List A) E = each_of test (i + 1 + 1) (earlier ++ (front ++ y ∷ [])) (items_view (drop (i + 1) vs)) in
        let same : (left >>= (λ xs. Ok (y ∷ xs))) ≡ rest y = ap (λ before. each_of test (i + 1 + 1) before (items_view (drop (i + 1) vs)) >>= (λ xs. Ok (y ∷ xs))) (sym (append_assoc earlier front (y ∷ []))) in
        let one : each_of test (i + 1) (earlier ++ front) (items_view (drop i vs)) ≡ rest y = place_is x lt at ∙ ap (λ r. r >>= rest) h in
        let count = so_far.count in
        record {
          value = sym (regroup front y left) ∙ ap (with_front front) (same ∙ sym one) ∙ so_far.value;
          count = simp length-append (omega arith);
        }

    pub ends : (b : Bool) (e : E) (x : Value) → i < length vs → x ≡ get_or vs i x → Unless b (test (i + 1) (earlier ++ front) (view x) ≡ Err e) → SoFar front i vs total → Unless b (total ≡ Err e)
    ends b e x lt at h so_far =
        Unless-from b (λ is. sym so_far.value ∙ ap (with_front front) (place_is x lt at ∙ ap (λ r. r >>= rest) is)) h

    pub is_done : length vs ≤ i → SoFar front i vs total → total ≡ Ok front
    unfolding each_of
    is_done le so_far =
        let none : drop i vs ≡ [] = drop_all i vs le in
        sym so_far.value ∙ ap (λ (l : List Value). with_front front (each_of test (i + 1) (earlier ++ front) (items_view l))) none ∙ ap Ok (append-nil front)
