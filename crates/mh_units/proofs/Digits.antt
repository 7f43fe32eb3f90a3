-- What stands in the places of digits are digits, and no more of them than the text has bytes.
use Rattle.std.proofs.Common.{◌≡◌, ℕ, suc, ◌+◌, ◌≤◌, Bool, true, false, cond, nat_le, ◌||◌, ◌==◌, List, [], ◌∷◌, ◌++◌, length, take, refl, sym, ap, ◌∙◌, subst, arith, length-drop}
use Rattle.std.proofs.lemmas.Bool.{leb-true, and_parts}
use Rattle.std.specs.List.{AllByRecursion, prefix_len}
use Rattle.std.specs.Char.{is_ascii_digit}
use Rattle.std.proofs.lemmas.List.{length-take}
use Rattle.mh_units.specs.Grammar.{IsDigit}
use Rattle.mh_units.specs.Numeral.{digits, after_digits, after_sign, after_point, whole, fraction}

pub is_digit_true : (b : ℕ) → is_ascii_digit b ≡ true → IsDigit b
is_digit_true b h = let two = and_parts (nat_le 48 b) (nat_le b 57) h in record { low = leb-true 48 b two.0; high = leb-true b 57 two.1 }

pub digits_all : (text : List ℕ) → AllByRecursion IsDigit (digits text)
digits_all [] = tt
digits_all (b ∷ bs) = by (is_ascii_digit b) refl (digits_all bs)
  where
    by : (t : Bool) → is_ascii_digit b ≡ t → AllByRecursion IsDigit (digits bs) → AllByRecursion IsDigit (take (cond t (1 + prefix_len is_ascii_digit bs) 0) (b ∷ bs))
    by true e h = subst (λ n. AllByRecursion IsDigit (take n (b ∷ bs))) (sym one_more) (is_digit_true b e, h)
      where
        one_more : 1 + prefix_len is_ascii_digit bs ≡ suc (prefix_len is_ascii_digit bs)
        one_more = omega arith
    by false e h = tt

pub all-append : (xs ys : List ℕ) → AllByRecursion IsDigit xs → AllByRecursion IsDigit ys → AllByRecursion IsDigit (xs ++ ys)
all-append [] ys h k = k
all-append (x ∷ xs) ys h k = (h.0, all-append xs ys h.1 k)

pub parts_all : (text : List ℕ) → AllByRecursion IsDigit (whole text ++ fraction text)
parts_all text = all-append (whole text) (fraction text) (digits_all (after_sign text)) (digits_all (after_point (after_digits (after_sign text))))

pub digits_len : (text : List ℕ) → length (digits text) + length (after_digits text) ≡ length text
digits_len text = omega (arith, length-take (prefix_len is_ascii_digit text) text, length-drop (prefix_len is_ascii_digit text) text)

after_sign_len : (text : List ℕ) → length (after_sign text) ≤ length text
after_sign_len [] = omega arith
after_sign_len (b ∷ bs) = by (b == 43 || b == 45)
  where
    by : (t : Bool) → length (cond t bs (b ∷ bs)) ≤ length (b ∷ bs)
    by true = omega arith
    by false = omega arith

after_point_len : (text : List ℕ) → length (after_point text) ≤ length text
after_point_len [] = omega arith
after_point_len (b ∷ bs) = by (b == 46)
  where
    by : (t : Bool) → length (cond t bs (b ∷ bs)) ≤ length (b ∷ bs)
    by true = omega arith
    by false = omega arith

pub parts_len : (text : List ℕ) → length (whole text) + length (fraction text) ≤ length text
parts_len text =
    let rest = after_digits (after_sign text) in
    omega (arith, after_sign_len text, digits_len (after_sign text), after_point_len rest, digits_len (after_point rest))

-- ---- of parts that equal those of the text

pub parts_all_from : (text before behind : List ℕ) → before ≡ whole text → behind ≡ fraction text → AllByRecursion IsDigit (before ++ behind)
parts_all_from text before behind e f = subst (λ d. AllByRecursion IsDigit d) (sym (ap (λ d. d ++ behind) e ∙ ap (λ d. whole text ++ d) f)) (parts_all text)

pub parts_len_from : (text before behind : List ℕ) → before ≡ whole text → behind ≡ fraction text → length before + length behind ≤ length text
parts_len_from text before behind e f = omega (arith, parts_len text, ap length e, ap length f)
