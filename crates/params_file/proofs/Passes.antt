-- A test of each of a list, made by a loop over what is seen as that list.
use Rattle.std.proofs.Common.{◌≡◌, ℕ, suc, ◌+◌, ◌<◌, ◌≤◌, Bool, List, [], ◌∷◌, length, map, get_or, drop, Result, Ok, Err, ℤ, pos, ◌^◌, ◌*ℤ◌, refl, sym, ap, ◌∙◌, arith}
use Rattle.std.specs.List.{All}
use Rattle.std.proofs.Math.Seq.{drop-cons}
use Rattle.std.proofs.lemmas.List.{drop_all, get_or-map, length-map}
use Rattle.std.proofs.lemmas.List.Elements.{All-nil, All-cons}
use Rattle.simm_params.specs.TomlValues.Answers.{◌>>=◌, Unless}
use Rattle.simm_params.proofs.TomlValues.Places.{Unless-from}
use Rattle.params_file.specs.declared.fault.ParamFault.{ParamFault}
use Rattle.params_file.specs.declared.fault.ParamFault.TheVariants.{ThinThreshold}
use Rattle.simm_params.specs.Ranges.{is_thick, IsThick}
use Rattle.params_file.specs.Thickness.{thick_at, each_passes}
use Rattle.simm_params.proofs.Compared.{le_from}
use Rattle.params_file.proofs.Each.{passed, taken}

module _ {A B : Type 0} (test : ℕ → B → Result (Unit {0}) ParamFault) (view : A → B) where
  -- what is left of the list gives what the whole list gives
  pub record PassedSoFar (i : ℕ) (xs : List A) : Type 0 where
    pub value : each_passes test (i + 1) (drop i (map view xs)) ≡ each_passes test 1 (map view xs)

  pub none_passed : (xs : List A) → PassedSoFar 0 xs
  none_passed xs = record { value = refl }

  module _ (i : ℕ) (xs : List A) (so_far : PassedSoFar i xs) where
    next : (x : A) → i < length xs → x ≡ get_or xs i x → each_passes test (i + 1) (drop i (map view xs)) ≡ (test (i + 1) (view x) >>= (λ _. each_passes test (i + 1 + 1) (drop (i + 1) (map view xs))))
    unfolding each_passes
    next x lt at =
        let within : i < length (map view xs) = simp length-map lt in
        let here : get_or (map view xs) i (view x) ≡ view x = get_or-map view xs i x (view x) lt ∙ ap view (sym at) in
        let one : i + 1 ≡ suc i = omega arith in
        rw one (ap (each_passes test (suc i)) (drop-cons (map view xs) i (view x) within) ∙ ap (λ y. test (suc i) y >>= (λ _. each_passes test (suc i + 1) (drop (suc i) (map view xs)))) here)

    pub one_more : (x : A) → i < length xs → x ≡ get_or xs i x → test (i + 1) (view x) ≡ Ok tt → PassedSoFar (i + 1) xs
    one_more x lt at h = record { value = sym (next x lt at ∙ ap (λ r. r >>= (λ _. each_passes test (i + 1 + 1) (drop (i + 1) (map view xs)))) h) ∙ so_far.value }

    pub one_fails : (b : Bool) (e : ParamFault) (x : A) → i < length xs → x ≡ get_or xs i x → Unless b (test (i + 1) (view x) ≡ Err e) → Unless b (each_passes test 1 (map view xs) ≡ Err e)
    one_fails b e x lt at h = Unless-from b (λ is. sym so_far.value ∙ next x lt at ∙ ap (λ r. r >>= (λ _. each_passes test (i + 1 + 1) (drop (i + 1) (map view xs)))) is) h

    pub all_passed : length xs ≤ i → each_passes test 1 (map view xs) ≡ Ok tt
    unfolding each_passes
    all_passed le =
        let past : length (map view xs) ≤ i = simp length-map le in
        let none : drop i (map view xs) ≡ [] = drop_all i (map view xs) past in
        sym so_far.value ∙ ap (each_passes test (i + 1)) none

-- what the test means of one holds of each
pub each_passes-all : {A : Type 0} (test : ℕ → A → Result (Unit {0}) ParamFault) (P : A → Type 0) → ((number : ℕ) (x : A) → test number x ≡ Ok tt → P x) → (number : ℕ) (xs : List A) → each_passes test number xs ≡ Ok tt → All P xs
unfolding each_passes
each_passes-all test P holds number [] h = All-nil P
each_passes-all test P holds number (x ∷ xs) h =
    let one = taken (test number x) _ tt h in
    All-cons P x xs (holds number x one.1) (each_passes-all test P holds (number + 1) xs one.2)

-- a threshold that passes is thick
pub thick_at-is : (path : List ℕ) (weight threshold : ℤ) → thick_at path weight threshold ≡ Ok tt → IsThick weight threshold
thick_at-is path weight threshold h = le_from (pos (10 ^ 12)) (weight *ℤ threshold) (passed (is_thick weight threshold) tt tt (ThinThreshold path weight threshold) h).0
