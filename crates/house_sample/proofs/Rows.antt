-- The rows and the trade of a batch: they are one, and it is a batch.
use Rattle.std.proofs.Common.{◌≡◌, ◌==◌, not, nat_le, ℕ, ◌+◌, ◌-◌, ◌%◌, ◌^◌, ◌<◌, ◌≤◌, Bool, true, false, cond, List, [], ◌∷◌, ◌++◌, length, get_or, unsigned_abs, refl, sym, ap, ◌∙◌, subst, zero, suc, arith, codes, length-append}
use Rattle.std.specs.List.{AllByRecursion, list_all}
use Rattle.std.specs.Fmt.{decimal}
use Rattle.std.proofs.lemmas.Bool.{and_parts, and_from, le-leb, le-ltb, leb-true, ne_eqb}
use Rattle.std.proofs.lemmas.Int.{ints}
use Rattle.std.proofs.lemmas.Nat.{mod_below}
use Rattle.std.proofs.lemmas.Fmt.{length-decimal-le}
use Rattle.std.proofs.lemmas.List.Folds.{list_all-append}
use Rattle.simm_params.specs.MhUnits.Grammar.{IsDigit}
use Rattle.simm_params.specs.SimmKinds.NameText.{IsName, is_trimmed}
use Rattle.simm_params.specs.SimmKinds.Batch.{IsBatch, is_amount}
use Rattle.crif_writer.proofs.Plain.{is_visible, plain_visible}
use Rattle.crif_writer.proofs.Numerals.{decimal_written}
use Rattle.house_sample.specs.Trades.{currency, amount, row_from, rows_from, trade_name, batch_from}

-- ---- amounts

-- at most 10,000.00 in size
pub amount_small : (draw : ℕ) → unsigned_abs (amount draw) ≤ 1000000
amount_small draw =
    let m = draw % 2000001 in
    let below : m < 2000001 = mod_below draw 2000001 (omega arith) in
    grind (arith, ints)

pub amount_fits : (draw : ℕ) → is_amount (amount draw) ≡ true
amount_fits draw = le-leb (unsigned_abs (amount draw)) (10 ^ 15) (omega (arith, amount_small draw))

-- ---- currencies

-- one of the four
pub of_four : (P : List ℕ → Type 0) → P (codes "EUR") → P (codes "GBP") → P (codes "JPY") → P (codes "BRL") → (draw : ℕ) → P (currency draw)
of_four P eur gbp jpy brl draw = chosen (draw % 4 == 0) (draw % 4 == 1) (draw % 4 == 2)
  where
    chosen : (a b c : Bool) → P (cond a (codes "EUR") (cond b (codes "GBP") (cond c (codes "JPY") (codes "BRL"))))
    chosen true b c = eur
    chosen false true c = gbp
    chosen false false true = jpy
    chosen false false false = brl

-- ---- names

digit_visible : (ds : List ℕ) → AllByRecursion IsDigit ds → list_all is_visible ds ≡ true
digit_visible [] h = refl
digit_visible (b ∷ bs) h =
    and_from (is_visible b) (list_all is_visible bs)
    (and_from (nat_le 33 b) (nat_le b 126) (le-leb 33 b (let low = h.0.low in omega arith)) (le-leb b 126 (let high = h.0.high in omega arith)))
    (digit_visible bs h.1)

decimal_visible : (n : ℕ) → n < 100 → list_all is_visible (decimal n) ≡ true
decimal_visible n h = digit_visible (decimal n) (decimal_written n (omega (arith, h))).all

visible-append : (xs ys : List ℕ) → list_all is_visible xs ≡ true → list_all is_visible ys ≡ true → list_all is_visible (xs ++ ys) ≡ true
visible-append xs ys h k = list_all-append is_visible xs ys ∙ and_from (list_all is_visible xs) (list_all is_visible ys) h k

pub name_visible : (feed batch : ℕ) → feed < 32 → batch < 50 → list_all is_visible (trade_name feed batch) ≡ true
name_visible feed batch few less =
    let f = codes "F" in
    let d = decimal feed in
    visible-append ((f ++ d) ++ codes "-") (decimal batch)
    (visible-append (f ++ d) (codes "-") (visible-append f d refl (decimal_visible feed (omega (arith, few)))) refl)
    (decimal_visible batch (omega (arith, less)))

length-name : (feed batch : ℕ) → length (trade_name feed batch) ≡ ((length (codes "F") + length (decimal feed)) + length (codes "-")) + length (decimal batch)
length-name feed batch =
    let f = codes "F" in
    let d = decimal feed in
    length-append ((f ++ d) ++ codes "-") (decimal batch)
    ∙ ap (λ (n : ℕ). n + length (decimal batch)) (length-append (f ++ d) (codes "-") ∙ ap (λ (n : ℕ). n + length (codes "-")) (length-append f d))

pub name_some : (feed batch : ℕ) → 0 < length (trade_name feed batch)
name_some feed batch =
    let first : length (codes "F") ≡ 1 = refl in
    omega (arith, first, length-name feed batch)

-- six bytes at most
pub name_short : (feed batch : ℕ) → feed < 32 → batch < 50 → length (trade_name feed batch) ≤ 6
name_short feed batch few less =
    let f : length (decimal feed) ≤ 2 = length-decimal-le 2 feed (omega arith) (omega (arith, few)) (omega (arith, few)) in
    let b : length (decimal batch) ≤ 2 = length-decimal-le 2 batch (omega arith) (omega (arith, less)) (omega (arith, less)) in
    let first : length (codes "F") ≡ 1 = refl in
    let dash : length (codes "-") ≡ 1 = refl in
    omega (arith, f, b, first, dash, length-name feed batch)

visible_at : (xs : List ℕ) (i : ℕ) → list_all is_visible xs ≡ true → i < length xs → (get_or xs i 0 == 32) ≡ false
visible_at [] i h within = absurd (omega (arith, within))
visible_at (b ∷ bs) zero h within =
    let low : 33 ≤ b = leb-true 33 b (and_parts (nat_le 33 b) (nat_le b 126) (and_parts (is_visible b) (list_all is_visible bs) h).0).0 in
    ne_eqb b 32 (omega (arith, low))
visible_at (b ∷ bs) (suc i) h within = visible_at bs i (and_parts (is_visible b) (list_all is_visible bs) h).1 (omega (arith, within))

visible_trimmed : (xs : List ℕ) → list_all is_visible xs ≡ true → is_trimmed xs ≡ true
visible_trimmed [] h = refl
visible_trimmed (b ∷ bs) h =
    and_from (not (b == 32)) (not (get_or (b ∷ bs) (length (b ∷ bs) - 1) 0 == 32))
    (ap not (visible_at (b ∷ bs) 0 h (omega arith)))
    (ap not (visible_at (b ∷ bs) (length (b ∷ bs) - 1) h (omega arith)))

-- visible ASCII text is a name
pub visible_name : (xs : List ℕ) → list_all is_visible xs ≡ true → length xs ≤ 64 → IsName xs
visible_name xs h short =
    let plain = plain_visible xs h short in
    rw (le-ltb 64 (length xs) short, plain.text, plain.prints, visible_trimmed xs h) refl

pub name_is : (feed batch : ℕ) (text : List ℕ) → text ≡ trade_name feed batch → feed < 32 → batch < 50 → IsName text
name_is feed batch text same few less =
    subst IsName (sym same) (visible_name (trade_name feed batch) (name_visible feed batch few less) (let short = name_short feed batch few less in omega (arith, short)))

-- ---- the batch

pub batch_is : (feed batch x : ℕ) → IsBatch (batch_from feed batch x)
unfolding rows_from row_from
batch_is feed batch x =
    let some = name_some feed batch in
    let named : (length (trade_name feed batch) == 0) ≡ false = ne_eqb (length (trade_name feed batch)) 0 (λ (e : length (trade_name feed batch) ≡ 0). omega (arith, some, e)) in
    rw (named, amount_fits, amount_fits, amount_fits, amount_fits) refl
