-- What the places of an array give, where each is taken: as many values as places, and what holds of what the test gives
-- holds of each.
use Rattle.std.proofs.Common.{◌≡◌, ℕ, ◌+◌, Bool, true, false, cond, List, [], ◌∷◌, ◌++◌, length, Result, Ok, Err, Option, ok_or, IfOk, ℤ, ◌≤ℤ◌, int_le, nat_eq, refl, sym, ap, subst, ◌∙◌, add-one, arith}
use Rattle.std.proofs.lemmas.Bool.{eqb-true, and_parts}
use Rattle.std.specs.List.{All}
use Rattle.std.proofs.lemmas.List.Elements.{All-nil, All-cons}
use Rattle.toml.specs.Data.{Data, Items, no_items, item}
use Rattle.simm_params.specs.MhUnits.Numeral.{fixed_of}
use Rattle.simm_params.specs.TomlValues.declared.range.Range.{Range}
use Rattle.simm_params.specs.TomlValues.declared.fault.ValueFault.TheVariants.{Missing, BadNumber, OutOfRange}
use Rattle.simm_params.specs.TomlValues.Answers.{◌>>=◌, Answers}
use Rattle.simm_params.specs.TomlValues.Ranges.{is_within, IsWithin}
use Rattle.simm_params.specs.TomlValues.Values.{items_count, text_of, array_of, array_of_length, in_range, fixed_at, rate_of}
use Rattle.simm_params.specs.TomlValues.Places.{each_of}
use Rattle.simm_params.proofs.Compared.{le_from}

-- a chain that is taken took its first part
pub taken : {A B E : Type 0} (r : Result A E) (f : A → Result B E) (y : B) → (r >>= f) ≡ Ok y → (x : A) × (r ≡ Ok x) × (f x ≡ Ok y)
taken (Ok x) f y h = (x, refl, h)
taken (Err e) f y h = absurd cc

-- a fault of the first part is one of the chain
pub ended : {A B E : Type 0} (r : Result A E) (f : A → Result B E) (e : E) → r ≡ Err e → (r >>= f) ≡ Err e
ended r f e h = ap (λ x. x >>= f) h

module _ {A E : Type 0} (test : ℕ → List A → Data → Result A E) where
  pub each_of-count : (number : ℕ) (before : List A) (items : Items) (xs : List A) → each_of test number before items ≡ Ok xs → length xs ≡ items_count items
  unfolding each_of
  each_of-count number before no_items xs h = ap length (let e : xs ≡ [] = cc in e)
  each_of-count number before (item value rest) xs h =
      let one = taken (test number before value) _ xs h in
      let others = taken (each_of test (number + 1) (before ++ one.0 ∷ []) rest) (λ ys. Ok (one.0 ∷ ys)) xs one.2 in
      let is : xs ≡ one.0 ∷ others.0 = let e = others.2 in cc in
      ap length is ∙ sym (add-one (length others.0)) ∙ ap (λ n. n + 1) (each_of-count (number + 1) (before ++ one.0 ∷ []) rest others.0 others.1)

  pub each_of-all : (P : A → Type 0) → ((number : ℕ) (before : List A) (value : Data) (x : A) → test number before value ≡ Ok x → P x)
      → (number : ℕ) (before : List A) (items : Items) (xs : List A) → each_of test number before items ≡ Ok xs → All P xs
  unfolding each_of
  each_of-all P holds number before no_items xs h = let e : [] ≡ xs = cc in subst (All P) e (All-nil P)
  each_of-all P holds number before (item value rest) xs h =
      let one = taken (test number before value) _ xs h in
      let others = taken (each_of test (number + 1) (before ++ one.0 ∷ []) rest) (λ ys. Ok (one.0 ∷ ys)) xs one.2 in
      let is : one.0 ∷ others.0 ≡ xs = let e = others.2 in cc in
      subst (All P) is (All-cons P one.0 others.0 (holds number before value one.0 one.1) (each_of-all P holds (number + 1) (before ++ one.0 ∷ []) rest others.0 others.1))

-- a test that is passed
pub passed : {A E : Type 0} (b : Bool) (x y : A) (e : E) → cond b (Ok x) (Err e) ≡ Ok y → (b ≡ true) × (x ≡ y)
passed true x y e h = (refl, cc)
passed false x y e h = absurd cc

-- an array that is taken has so many places
pub array_of_length-count : (path : List ℕ) (count : ℕ) (value : Option Data) (places : Items) → array_of_length path count value ≡ Ok places → items_count places ≡ count
unfolding array_of_length
array_of_length-count path count value places h =
    let all = taken (array_of path value) _ places h in
    let is = passed (nat_eq (items_count all.0) count) all.0 places (Missing path) all.2 in
    ap items_count (sym is.1) ∙ eqb-true (items_count all.0) count is.0

-- a number that is taken is in the range
in_range-within : (path : List ℕ) (range : Range) (n m : ℤ) → in_range path range n ≡ Ok m → IsWithin range m
in_range-within path range n m h =
    let is = passed (is_within range n) n m (OutOfRange path n) h in
    let both = and_parts (int_le range.least n) (int_le n range.most) is.0 in
    subst (IsWithin range) is.1 (record { low = le_from range.least n both.0; high = le_from n range.most both.1 })

pub rate_of-within : (path : List ℕ) (range : Range) (value : Option Data) (n : ℤ) → rate_of path range value ≡ Ok n → IsWithin range n
unfolding fixed_at
rate_of-within path range value n h =
    let text = taken (text_of path value) _ n h in
    let number = taken (ok_or (fixed_of 4 text.0) (BadNumber path)) _ n text.2 in
    in_range-within path range number.0 n number.2

-- what holds of what the grammar gives holds of what is answered
pub of_given : {X Y E : Type 0} {P : Y → Type 0} (is_memory : E → Bool) (view : X → Y) (answer : Result X E) (read : Result Y E) → ((y : Y) → read ≡ Ok y → P y) → Answers is_memory view answer read → IfOk answer (λ x. P (view x))
of_given is_memory view (Ok x) read holds h = holds (view x) h
of_given is_memory view (Err e) read holds h = tt
