-- The words that name feeds and trades, one by one.
use Rattle.std.proofs.Common.{◌≡◌, ℕ, ◌<◌, ◌≤◌, ◌-◌, List, [], ◌∷◌, length, map, take, drop, take_all, slice_index_or, None, true, false, nat_le, Bool, refl, ap, ◌∙◌, arith}
use Rattle.std.specs.List.{list_all}
use Rattle.std.specs.Prelude.{◌==◌, ◌&&◌, not}
use Rattle.std.proofs.lemmas.Bool.{and_parts, and_from}
use Rattle.std.proofs.lemmas.List.{length-map}
use Rattle.margin_whatif.specs.Words.{is_trade_word}
use Rattle.margin_top.specs.Words.{is_name_word, are_feed_words, are_trade_words, long_form, form_of}

all_mapped : {V : Type 0} (test : List ℕ → Bool) (f : V → List ℕ) (xs : List V) → list_all test (map f xs) ≡ list_all (λ x. test (f x)) xs
all_mapped test f [] = refl
all_mapped test f (x ∷ xs) = ap (λ b. test (f x) && b) (all_mapped test f xs)

pub feed_words : {V : Type 0} (f : V → List ℕ) (xs : List V) → (length xs == 0) ≡ false → nat_le (length xs) 32 ≡ true → are_feed_words (map f xs) ≡ list_all (λ x. is_name_word (f x)) xs
feed_words f xs some few =
    ap (λ n. (not (n == 0) && nat_le n 32) && list_all is_name_word (map f xs)) (length-map xs f)
    ∙ (ap (λ b. (not b && nat_le (length xs) 32) && list_all is_name_word (map f xs)) some
    ∙ (ap (λ b. (true && b) && list_all is_name_word (map f xs)) few ∙ all_mapped is_name_word f xs))

-- ---- the words that name trades

pub trade_words : {V : Type 0} (f : V → List ℕ) (xs : List V) → nat_le (length xs) 100 ≡ true → are_trade_words (map f xs) ≡ list_all (λ x. is_name_word (f x) && is_trade_word (f x)) xs
trade_words f xs few =
    ap (λ n. nat_le n 100 && list_all (λ word. is_name_word word && is_trade_word word) (map f xs)) (length-map xs f)
    ∙ (ap (λ b. b && list_all (λ word. is_name_word word && is_trade_word word) (map f xs)) few
    ∙ all_mapped (λ word. is_name_word word && is_trade_word word) f xs)

-- each is a name that isn't empty
pub each_is_trade : {V : Type 0} (f : V → List ℕ) (xs : List V) → list_all (λ x. is_name_word (f x) && is_trade_word (f x)) xs ≡ true → list_all is_trade_word (map f xs) ≡ true
each_is_trade f [] h = refl
each_is_trade f (x ∷ xs) h =
    let parts = and_parts (is_name_word (f x) && is_trade_word (f x)) (list_all (λ y. is_name_word (f y) && is_trade_word (f y)) xs) h in
    and_from (is_trade_word (f x)) (list_all is_trade_word (map f xs)) (and_parts (is_name_word (f x)) (is_trade_word (f x)) parts.0).1 (each_is_trade f xs parts.1)

-- ---- how many words there are

-- fewer than three words are no form
pub few_words : {V : Type 0} (f : V → List ℕ) (xs : List V) → length xs < 3 → form_of (map f xs) ≡ None
few_words f [] h = refl
few_words f (x ∷ []) h = refl
few_words f (x ∷ y ∷ []) h = refl
few_words f (x ∷ y ∷ z ∷ xs) h = absurd (omega (arith, h))

-- four words or more are those of a what-if or of feeds, or no form
pub many_words : {V : Type 0} (f : V → List ℕ) (xs : List V) (command first second : V) → 4 ≤ length xs
    → command ≡ slice_index_or xs 0 command → first ≡ slice_index_or xs 1 first → second ≡ slice_index_or xs 2 second
    → long_form (f command) (f first) (f second) (map f (take (length xs - 3) (drop 3 xs))) ≡ form_of (map f xs)
many_words f [] command first second h c a b = absurd (omega (arith, h))
many_words f (x ∷ []) command first second h c a b = absurd (omega (arith, h))
many_words f (x ∷ y ∷ []) command first second h c a b = absurd (omega (arith, h))
many_words f (x ∷ y ∷ z ∷ []) command first second h c a b = absurd (omega (arith, h))
many_words f (x ∷ y ∷ z ∷ w ∷ ws) command first second h c a b =
    let all : take (length (x ∷ y ∷ z ∷ w ∷ ws) - 3) (w ∷ ws) ≡ w ∷ ws = take_all (length (x ∷ y ∷ z ∷ w ∷ ws) - 3) (w ∷ ws) (omega arith) in
    λ i. long_form (f (c i)) (f (a i)) (f (b i)) (map f (all i))
