-- Fields that are read just as they were written: no space stands at either end, they are text that prints, and short.
use Rattle.std.proofs.Common.{◌≡◌, ◌==◌, not, ◌&&◌, nat_le, nat_lt, ℕ, zero, suc, ◌-◌, ◌<◌, ◌≤◌, ◌^◌, Bool, true, false, cond, List, [], ◌∷◌, ◌++◌, length, get_or, reverse, ℤ, pos, negsuc, unsigned_abs, Option, Some, None, refl, ap, ◌∙◌, arith, codes, length-append}
use Rattle.std.specs.List.{AllByRecursion, list_all}
use Rattle.std.specs.Option.{is_none}
use Rattle.std.specs.Str.{is_utf8, IsAscii}
use Rattle.std.specs.Fmt.{decimal}
use Rattle.std.proofs.lemmas.Bool.{and_parts, eqb-true, le-leb, leb-true, ltb-false, ne_eqb, not-true}
use Rattle.std.proofs.lemmas.Fmt.{length-decimal-le_wide}
use Rattle.std.proofs.lemmas.List.{reverse-reverse, get_or-reverse, length-reverse}
use Rattle.std.proofs.lemmas.List.Folds.{list_all-append}
use Rattle.std.proofs.lemmas.Str.{IsUtf8-from_ascii, is_utf8-from_IsUtf8}
use Rattle.std.proofs.lemmas.Str.Ascii.{IsAscii-nil, IsAscii-cons}
use Rattle.crif_reader.specs.MhUnits.Grammar.{IsDigit}
use Rattle.crif_reader.specs.MhUnits.Money.{money_text}
use Rattle.crif_reader.specs.SimmKinds.declared.bucket.Bucket.{Bucket}
use Rattle.crif_reader.specs.SimmKinds.declared.bucket.Bucket.TheVariants as bucket
use Rattle.crif_reader.specs.SimmKinds.declared.fault.NameFault.{NameFault}
use Rattle.crif_reader.specs.SimmKinds.declared.fault.NameFault.TheVariants as fault
use Rattle.crif_reader.specs.SimmKinds.declared.kinds.ProductClass.{ProductClass}
use Rattle.crif_reader.specs.SimmKinds.declared.kinds.ProductClass.TheVariants as product
use Rattle.crif_reader.specs.SimmKinds.declared.kinds.RiskType.{RiskType}
use Rattle.crif_reader.specs.SimmKinds.declared.kinds.RiskType.TheVariants as kind
use Rattle.crif_reader.specs.SimmKinds.declared.kinds.SubCurve.{SubCurve}
use Rattle.crif_reader.specs.SimmKinds.declared.kinds.SubCurve.TheVariants as sub
use Rattle.crif_reader.specs.SimmKinds.declared.kinds.Tenor.{Tenor}
use Rattle.crif_reader.specs.SimmKinds.declared.kinds.Tenor.TheVariants as tenor
use Rattle.crif_reader.specs.SimmKinds.Bucket.{bucket_text}
use Rattle.crif_reader.specs.SimmKinds.BucketNumber.{is_bucket_number}
use Rattle.crif_reader.specs.SimmKinds.Kinds.{product_word, kind_word, sub_word}
use Rattle.crif_reader.specs.SimmKinds.NameText.{is_currency, is_full_name, is_trimmed, is_upper, has_name_bytes, is_printable, name_fault, IsName}
use Rattle.crif_reader.specs.SimmKinds.NameOrder.{comes_before}
use Rattle.crif_reader.specs.SimmKinds.Pair.{Pair, is_pair}
use Rattle.crif_reader.specs.SimmKinds.Tenors.{tenor_word}
use Rattle.crif_reader.specs.CrifRecords.Fields.{trimmed, without_leading_spaces}
use Rattle.crif_writer.specs.Amounts.{rate_text}
use Rattle.crif_writer.specs.Parts.{pair_text, IsBucket}
use Rattle.crif_writer.proofs.Numerals.{IsFixedText, amount_fixed, rate_fixed, decimal_written}

pub record IsPlain (field : List ℕ) : Type 0 where
  pub trim : trimmed field ≡ field
  pub text : is_utf8 field ≡ true
  pub prints : list_all is_printable field ≡ true
  pub short : length field ≤ 64

-- ---- no space at either end

head_stays : (xs : List ℕ) → 0 < length xs → (get_or xs 0 0 == 32) ≡ false → without_leading_spaces xs ≡ xs
head_stays [] some h = absurd (omega arith)
head_stays (b ∷ bs) some h = rw h refl

ends_stay : (xs : List ℕ) → 0 < length xs → (get_or xs 0 0 == 32) ≡ false → (get_or xs (length xs - 1) 0 == 32) ≡ false → trimmed xs ≡ xs
ends_stay xs some first last =
    let place : length xs - 1 - 0 ≡ length xs - 1 = omega arith in
    let turned : get_or (reverse xs) 0 0 ≡ get_or xs (length xs - 1) 0 = get_or-reverse xs 0 0 some ∙ ap (λ i. get_or xs i 0) place in
    let more : 0 < length (reverse xs) = omega (arith, length-reverse xs) in
    rw (head_stays xs some first, head_stays (reverse xs) more (ap (λ b. b == 32) turned ∙ last)) (reverse-reverse xs)

trimmed_stays : (xs : List ℕ) → is_trimmed xs ≡ true → trimmed xs ≡ xs
trimmed_stays [] h = refl
trimmed_stays (b ∷ bs) h =
    let both = and_parts (not (b == 32)) (not (get_or (b ∷ bs) (length (b ∷ bs) - 1) 0 == 32)) h in
    ends_stay (b ∷ bs) (omega arith) (not-true (b == 32) both.0) (not-true _ both.1)

-- ---- names

name_tests : (long good : Bool) → cond long (Some fault.Long) (cond good None (Some fault.Byte)) ≡ None → (long ≡ false) × (good ≡ true)
name_tests true good e = cc
name_tests false true e = (refl, refl)
name_tests false false e = cc

pub plain_name : (name : List ℕ) → IsName name → IsPlain name
plain_name name h =
    let tests = name_tests (nat_lt 64 (length name)) (is_utf8 name && has_name_bytes name) h in
    let both = and_parts (is_utf8 name) (has_name_bytes name) tests.1 in
    let bytes = and_parts (list_all is_printable name) (is_trimmed name) both.1 in
    record { trim = trimmed_stays name bytes.1; text = both.0; prints = bytes.0; short = ltb-false 64 (length name) tests.0 }

none_is : (o : Option NameFault) → is_none o ≡ true → o ≡ None
none_is None e = refl
none_is (Some f) e = cc

pub full_name_is_name : (name : List ℕ) → is_full_name name ≡ true → IsName name
full_name_is_name name h = none_is (name_fault name) (and_parts _ _ h).1

pub plain_full_name : (name : List ℕ) → is_full_name name ≡ true → IsPlain name
plain_full_name name h = plain_name name (full_name_is_name name h)

-- ---- texts of visible ASCII bytes

abbrev pub is_visible : ℕ → Bool
is_visible b = nat_le 33 b && nat_le b 126

visible_ascii : (xs : List ℕ) → list_all is_visible xs ≡ true → IsAscii xs
visible_ascii [] h = IsAscii-nil
visible_ascii (b ∷ bs) h =
    let both = and_parts (is_visible b) (list_all is_visible bs) h in
    let most = leb-true b 126 (and_parts (nat_le 33 b) (nat_le b 126) both.0).1 in
    IsAscii-cons b bs (omega arith) (visible_ascii bs both.1)

visible_at : (xs : List ℕ) (i : ℕ) → list_all is_visible xs ≡ true → i < length xs → is_visible (get_or xs i 0) ≡ true
visible_at [] i h within = absurd (omega arith)
visible_at (b ∷ bs) zero h within = (and_parts (is_visible b) (list_all is_visible bs) h).0
visible_at (b ∷ bs) (suc i) h within = visible_at bs i (and_parts (is_visible b) (list_all is_visible bs) h).1 (omega arith)

no_space : (b : ℕ) → is_visible b ≡ true → (b == 32) ≡ false
no_space b h =
    let least = leb-true 33 b (and_parts (nat_le 33 b) (nat_le b 126) h).0 in
    ne_eqb b 32 (omega arith)

visible_trimmed : (xs : List ℕ) → list_all is_visible xs ≡ true → trimmed xs ≡ xs
visible_trimmed [] h = refl
visible_trimmed (b ∷ bs) h =
    ends_stay (b ∷ bs) (omega arith) (no_space b (visible_at (b ∷ bs) 0 h (omega arith)))
    (no_space (get_or (b ∷ bs) (length (b ∷ bs) - 1) 0) (visible_at (b ∷ bs) (length (b ∷ bs) - 1) h (omega arith)))

visible_prints : (xs : List ℕ) → list_all is_visible xs ≡ true → list_all is_printable xs ≡ true
visible_prints [] h = refl
visible_prints (b ∷ bs) h =
    let both = and_parts (is_visible b) (list_all is_visible bs) h in
    let byte = and_parts (nat_le 33 b) (nat_le b 126) both.0 in
    let least = leb-true 33 b byte.0 in
    let most = leb-true b 126 byte.1 in
    rw (le-leb 32 b (omega arith), ne_eqb b 127 (omega arith)) (visible_prints bs both.1)

pub plain_visible : (xs : List ℕ) → list_all is_visible xs ≡ true → length xs ≤ 64 → IsPlain xs
plain_visible xs h few = record {
  trim = visible_trimmed xs h;
  text = is_utf8-from_IsUtf8 xs (IsUtf8-from_ascii xs (visible_ascii xs h));
  prints = visible_prints xs h;
  short = few;
}

-- a text that is known
plain_word : (xs : List ℕ) → list_all is_visible xs ≡ true → nat_le (length xs) 64 ≡ true → IsPlain xs
plain_word xs h few = plain_visible xs h (leb-true (length xs) 64 few)

pub plain_empty : IsPlain []
plain_empty = plain_word [] refl refl

-- ---- words

pub plain_product : (p : ProductClass) → IsPlain (product_word p)
plain_product product.RatesFX = plain_word _ refl refl
plain_product product.Credit = plain_word _ refl refl
plain_product product.Equity = plain_word _ refl refl
plain_product product.Commodity = plain_word _ refl refl

pub plain_kind : (k : RiskType) → IsPlain (kind_word k)
plain_kind kind.IrCurve = plain_word _ refl refl
plain_kind kind.Inflation = plain_word _ refl refl
plain_kind kind.XccyBasis = plain_word _ refl refl
plain_kind kind.IrVol = plain_word _ refl refl
plain_kind kind.InflationVol = plain_word _ refl refl
plain_kind kind.CreditQ = plain_word _ refl refl
plain_kind kind.CreditVol = plain_word _ refl refl
plain_kind kind.CreditNonQ = plain_word _ refl refl
plain_kind kind.CreditVolNonQ = plain_word _ refl refl
plain_kind kind.BaseCorr = plain_word _ refl refl
plain_kind kind.Equity = plain_word _ refl refl
plain_kind kind.EquityVol = plain_word _ refl refl
plain_kind kind.Commodity = plain_word _ refl refl
plain_kind kind.CommodityVol = plain_word _ refl refl
plain_kind kind.Fx = plain_word _ refl refl
plain_kind kind.FxVol = plain_word _ refl refl
plain_kind kind.Notional = plain_word _ refl refl
plain_kind kind.AddOnNotionalFactor = plain_word _ refl refl
plain_kind kind.AddOnFixedAmount = plain_word _ refl refl
plain_kind kind.ProductClassMultiplier = plain_word _ refl refl
plain_kind kind.Pv = plain_word _ refl refl

pub plain_tenor : (t : Tenor) → IsPlain (tenor_word t)
plain_tenor tenor.W2 = plain_word _ refl refl
plain_tenor tenor.M1 = plain_word _ refl refl
plain_tenor tenor.M3 = plain_word _ refl refl
plain_tenor tenor.M6 = plain_word _ refl refl
plain_tenor tenor.Y1 = plain_word _ refl refl
plain_tenor tenor.Y2 = plain_word _ refl refl
plain_tenor tenor.Y3 = plain_word _ refl refl
plain_tenor tenor.Y5 = plain_word _ refl refl
plain_tenor tenor.Y10 = plain_word _ refl refl
plain_tenor tenor.Y15 = plain_word _ refl refl
plain_tenor tenor.Y20 = plain_word _ refl refl
plain_tenor tenor.Y30 = plain_word _ refl refl

pub plain_sub : (s : SubCurve) → IsPlain (sub_word s)
plain_sub sub.Ois = plain_word _ refl refl
plain_sub sub.Libor1m = plain_word _ refl refl
plain_sub sub.Libor3m = plain_word _ refl refl
plain_sub sub.Libor6m = plain_word _ refl refl
plain_sub sub.Libor12m = plain_word _ refl refl
plain_sub sub.Prime = plain_word _ refl refl
plain_sub sub.Municipal = plain_word _ refl refl

pub plain_usd : IsPlain (codes "USD")
plain_usd = plain_word _ refl refl

-- ---- currencies and pairs

upper_visible : (xs : List ℕ) → list_all is_upper xs ≡ true → list_all is_visible xs ≡ true
upper_visible [] h = refl
upper_visible (b ∷ bs) h =
    let both = and_parts (is_upper b) (list_all is_upper bs) h in
    let letter = and_parts (nat_le 65 b) (nat_le b 90) both.0 in
    let least = leb-true 65 b letter.0 in
    let most = leb-true b 90 letter.1 in
    rw (le-leb 33 b (omega arith), le-leb b 126 (omega arith)) (upper_visible bs both.1)

visible_currency : (c : List ℕ) → is_currency c ≡ true → list_all is_visible c ≡ true
visible_currency c h = upper_visible c (and_parts _ _ h).1

pub currency_length : (c : List ℕ) → is_currency c ≡ true → length c ≡ 3
currency_length c h = eqb-true (length c) 3 (and_parts (length c == 3) (list_all is_upper c) h).0

pub plain_currency : (c : List ℕ) → is_currency c ≡ true → IsPlain c
plain_currency c h = let three = currency_length c h in plain_visible c (visible_currency c h) (omega arith)

pub record IsPairOf (p : Pair) : Type 0 where
  pub first : is_currency p.first ≡ true
  pub second : is_currency p.second ≡ true
  pub order : comes_before p.first p.second ≡ true

pub pair_parts : (p : Pair) → is_pair p ≡ true → IsPairOf p
pair_parts p h =
    let all = and_parts (is_currency p.first && is_currency p.second) (comes_before p.first p.second) h in
    let both = and_parts (is_currency p.first) (is_currency p.second) all.0 in
    record { first = both.0; second = both.1; order = all.1 }

pub plain_pair : (p : Pair) → is_pair p ≡ true → IsPlain (pair_text p)
plain_pair p h =
    let parts = pair_parts p h in
    let one = currency_length p.first parts.first in
    let two = currency_length p.second parts.second in
    plain_visible (pair_text p) (list_all-append is_visible p.first p.second ∙ rw (visible_currency p.first parts.first, visible_currency p.second parts.second) refl)
    (omega (arith, length-append p.first p.second))

-- ---- numbers

pub visible_digits : (ds : List ℕ) → AllByRecursion IsDigit ds → list_all is_visible ds ≡ true
visible_digits [] h = refl
visible_digits (d ∷ ds) h =
    let low = h.0.low in
    let high = h.0.high in
    rw (le-leb 33 d (omega arith), le-leb d 126 (omega arith)) (visible_digits ds h.1)

visible_fixed : (before behind : List ℕ) (n : ℕ) → IsFixedText before behind n → list_all is_visible (before ++ (46 ∷ behind)) ≡ true
visible_fixed before behind n f = list_all-append is_visible before (46 ∷ behind) ∙ rw (visible_digits before f.front, visible_digits behind f.back) refl

short_fixed : (before behind : List ℕ) (n : ℕ) → IsFixedText before behind n → length (before ++ (46 ∷ behind)) ≤ 61
short_fixed before behind n f = let short = f.short in omega (arith, short, length-append before (46 ∷ behind))

visible_money : (c : ℤ) → unsigned_abs c ≤ 10 ^ 15 → list_all is_visible (money_text c) ≡ true
unfolding money_text
visible_money (pos n) fits = visible_fixed _ _ n (amount_fixed n fits)
visible_money (negsuc n) fits = visible_fixed _ _ (suc n) (amount_fixed (suc n) fits)

short_money : (c : ℤ) → unsigned_abs c ≤ 10 ^ 15 → length (money_text c) ≤ 64
unfolding money_text
short_money (pos n) fits = let short = short_fixed _ _ n (amount_fixed n fits) in omega (arith, short)
short_money (negsuc n) fits = let short = short_fixed _ _ (suc n) (amount_fixed (suc n) fits) in omega (arith, short)

pub plain_money : (c : ℤ) → unsigned_abs c ≤ 10 ^ 15 → IsPlain (money_text c)
plain_money c fits = plain_visible (money_text c) (visible_money c fits) (short_money c fits)

visible_rate : (r : ℤ) → unsigned_abs r ≤ 10 ^ 12 → list_all is_visible (rate_text r) ≡ true
unfolding rate_text
visible_rate (pos n) fits = visible_fixed _ _ n (rate_fixed n fits)
visible_rate (negsuc n) fits = visible_fixed _ _ (suc n) (rate_fixed (suc n) fits)

short_rate : (r : ℤ) → unsigned_abs r ≤ 10 ^ 12 → length (rate_text r) ≤ 64
unfolding rate_text
short_rate (pos n) fits = let short = short_fixed _ _ n (rate_fixed n fits) in omega (arith, short)
short_rate (negsuc n) fits = let short = short_fixed _ _ (suc n) (rate_fixed (suc n) fits) in omega (arith, short)

pub plain_rate : (r : ℤ) → unsigned_abs r ≤ 10 ^ 12 → IsPlain (rate_text r)
plain_rate r fits = plain_visible (rate_text r) (visible_rate r fits) (short_rate r fits)

pub small_bucket : (n : ℕ) → is_bucket_number n ≡ true → n ≤ 64
small_bucket n h = leb-true n 64 (and_parts (nat_le 1 n) (nat_le n 64) h).1

pub plain_number : (n : ℕ) → is_bucket_number n ≡ true → IsPlain (decimal n)
plain_number n h =
    let few = small_bucket n h in
    let short = length-decimal-le_wide 2 n (omega arith) (omega arith) (omega arith) in
    plain_visible (decimal n) (visible_digits (decimal n) (decimal_written n (omega arith)).all) (omega (arith, short))

pub plain_bucket : (b : Bucket) → IsBucket b → IsPlain (bucket_text b)
plain_bucket (bucket.Number n) h = plain_number n h
plain_bucket bucket.Residual h = plain_word _ refl refl
