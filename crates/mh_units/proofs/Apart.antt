-- The parts that reading takes from the left are those of the written grammar.
use Rattle.std.proofs.Common.{◌≡◌, ◌≢◌, ℕ, ◌+◌, ◌⊎◌, inl, inr, true, false, cond, ◌&&◌, ◌||◌, ◌==◌, nat_le, List, [], ◌∷◌, ◌++◌, length, take, drop, refl, sym, ap, ◌∙◌, subst, arith, append_assoc, append-nil}
use Rattle.std.proofs.lemmas.Bool.{le-leb, ne_eqb}
use Rattle.std.proofs.Math.Seq.{take-append_seam, drop-append_seam}
use Rattle.std.specs.List.{AllByRecursion, prefix_len}
use Rattle.std.specs.Char.{is_ascii_digit}
use Rattle.mh_units.specs.Grammar.{Then, Maybe, IsDigit, IsDigits, IsSign, IsPoint, IsMark, IsMantissa, IsExponent, IsNumeral}
use Rattle.mh_units.specs.Numeral.{digits, after_digits, after_sign, after_point, whole, fraction, after_mantissa, IsApart}

-- ---- digits, cut off where no digit follows

abbrev Stops : List ℕ → Type 0
Stops [] = Unit {0}
Stops (b ∷ bs) = is_ascii_digit b ≡ false

digit_true : (b : ℕ) → IsDigit b → is_ascii_digit b ≡ true
digit_true b d = ap (λ t. t && nat_le b 57) (le-leb 48 b d.low) ∙ le-leb b 57 d.high

stop_len : (rest : List ℕ) → Stops rest → prefix_len is_ascii_digit rest ≡ 0
stop_len [] s = refl
stop_len (b ∷ bs) s = ap (λ t. cond t (1 + prefix_len is_ascii_digit bs) 0) s

cut_len : (ds rest : List ℕ) → AllByRecursion IsDigit ds → Stops rest → prefix_len is_ascii_digit (ds ++ rest) ≡ length ds
cut_len [] rest all s = stop_len rest s
cut_len (d ∷ ds) rest all s =
    ap (λ t. cond t (1 + prefix_len is_ascii_digit (ds ++ rest)) 0) (digit_true d all.0) ∙ ap (λ n. 1 + n) (cut_len ds rest all.1 s) ∙ omega arith

digits_cut : (ds rest : List ℕ) → AllByRecursion IsDigit ds → Stops rest → digits (ds ++ rest) ≡ ds
digits_cut ds rest all s = ap (λ n. take n (ds ++ rest)) (cut_len ds rest all s) ∙ take-append_seam ds rest

after_digits_cut : (ds rest : List ℕ) → AllByRecursion IsDigit ds → Stops rest → after_digits (ds ++ rest) ≡ rest
after_digits_cut ds rest all s = ap (λ n. drop n (ds ++ rest)) (cut_len ds rest all s) ∙ drop-append_seam ds rest

-- ---- an exponent stops the digits, and is no point

mark_stops : (text more : List ℕ) → IsMark text → Stops (text ++ more) × (after_point (text ++ more) ≡ text ++ more)
mark_stops text more (inl e) = subst (λ t. Stops (t ++ more) × (after_point (t ++ more) ≡ t ++ more)) (sym e) (refl, refl)
mark_stops text more (inr e) = subst (λ t. Stops (t ++ more) × (after_point (t ++ more) ≡ t ++ more)) (sym e) (refl, refl)

power_stops : (text : List ℕ) → Maybe IsExponent text → Stops text × (after_point text ≡ text)
power_stops text (inl e) = subst (λ t. Stops t × (after_point t ≡ t)) (sym e) (tt, refl)
power_stops text (inr j) = subst (λ t. Stops t × (after_point t ≡ t)) (sym j.joined) (mark_stops j.front j.back j.first)

-- ---- the parts of a mantissa and what follows it

-- what is read of a text without a sign
pub record Taken (mantissa power : List ℕ) : Type 0 where
  pub before : List ℕ
  pub behind : List ℕ
  pub is_before : digits (mantissa ++ power) ≡ before
  pub is_behind : digits (after_point (after_digits (mantissa ++ power))) ≡ behind
  pub is_power : after_digits (after_point (after_digits (mantissa ++ power))) ≡ power
  pub pointed : ((mantissa ≡ before) × (behind ≡ [])) ⊎ (mantissa ≡ before ++ (46 ∷ behind))

taken_whole : (ds power : List ℕ) → AllByRecursion IsDigit ds → Maybe IsExponent power → Taken ds power
taken_whole ds power all p =
    let s = power_stops power p in
    let rest : after_digits (ds ++ power) ≡ power = after_digits_cut ds power all s.0 in
    let point : after_point (after_digits (ds ++ power)) ≡ power = ap after_point rest ∙ s.1 in
    record {
      before = ds;
      behind = [];
      is_before = digits_cut ds power all s.0;
      is_behind = ap digits point ∙ digits_cut [] power tt s.0;
      is_power = ap after_digits point ∙ after_digits_cut [] power tt s.0;
      pointed = inl (refl, refl);
    }

taken_pointed : (ds fs power : List ℕ) → AllByRecursion IsDigit ds → AllByRecursion IsDigit fs → Maybe IsExponent power → Taken (ds ++ (46 ∷ fs)) power
taken_pointed ds fs power all more p =
    let s = power_stops power p in
    let apart : (ds ++ (46 ∷ fs)) ++ power ≡ ds ++ (46 ∷ (fs ++ power)) = append_assoc ds (46 ∷ fs) power in
    let rest : after_digits ((ds ++ (46 ∷ fs)) ++ power) ≡ 46 ∷ (fs ++ power) = ap after_digits apart ∙ after_digits_cut ds (46 ∷ (fs ++ power)) all refl in
    let point : after_point (after_digits ((ds ++ (46 ∷ fs)) ++ power)) ≡ fs ++ power = ap after_point rest in
    record {
      before = ds;
      behind = fs;
      is_before = ap digits apart ∙ digits_cut ds (46 ∷ (fs ++ power)) all refl;
      is_behind = ap digits point ∙ digits_cut fs power more s.0;
      is_power = ap after_digits point ∙ after_digits_cut fs power more s.0;
      pointed = inr refl;
    }

maybe_all : (ds : List ℕ) → Maybe IsDigits ds → AllByRecursion IsDigit ds
maybe_all ds (inl e) = subst (λ t. AllByRecursion IsDigit t) (sym e) tt
maybe_all ds (inr h) = h.1

taken_of : (mantissa power : List ℕ) → IsMantissa mantissa → Maybe IsExponent power → Taken mantissa power
taken_of mantissa power (inr j) p =
    subst (λ t. Taken t power) (sym (j.joined ∙ ap (λ t. t ++ j.back) j.first)) (taken_pointed [] j.back power tt j.second.1 p)
taken_of mantissa power (inl j) p = by j.second
  where
    by : Maybe (Then IsPoint (Maybe IsDigits)) j.back → Taken mantissa power
    by (inl e) = subst (λ t. Taken t power) (sym (j.joined ∙ ap (λ t. j.front ++ t) e ∙ append-nil j.front)) (taken_whole j.front power j.first.1 p)
    by (inr k) = subst (λ t. Taken t power) (sym (j.joined ∙ ap (λ t. j.front ++ t) (k.joined ∙ ap (λ t. t ++ k.back) k.first))) (taken_pointed j.front k.back power j.first.1 (maybe_all k.back k.second) p)

-- ---- the sign

-- no sign stands first
abbrev Unsigned : List ℕ → Type 0
Unsigned [] = Unit {0}
Unsigned (b ∷ bs) = (b == 43 || b == 45) ≡ false

unsigned_stays : (text : List ℕ) → Unsigned text → after_sign text ≡ text
unsigned_stays [] u = refl
unsigned_stays (b ∷ bs) u = ap (λ t. cond t bs (b ∷ bs)) u

unsigned_digits : (ds more : List ℕ) → IsDigits ds → Unsigned (ds ++ more)
unsigned_digits [] more h = absurd (omega (arith, h.0))
unsigned_digits (d ∷ ds) more h =
    let plus : d ≢ 43 = omega (arith, h.1.0.low) in let minus : d ≢ 45 = omega (arith, h.1.0.low) in
    ap (λ t. t || d == 45) (ne_eqb d 43 plus) ∙ ne_eqb d 45 minus

unsigned_mantissa : (mantissa power : List ℕ) → IsMantissa mantissa → Unsigned (mantissa ++ power)
unsigned_mantissa mantissa power (inl j) =
    subst (λ t. Unsigned (t ++ power)) (sym j.joined) (subst (λ t. Unsigned t) (sym (append_assoc j.front j.back power)) (unsigned_digits j.front (j.back ++ power) j.first))
unsigned_mantissa mantissa power (inr j) =
    subst (λ t. Unsigned (t ++ power)) (sym (j.joined ∙ ap (λ t. t ++ j.back) j.first)) refl

sign_off : (sign rest : List ℕ) → Maybe IsSign sign → Unsigned rest → after_sign (sign ++ rest) ≡ rest
sign_off sign rest (inl e) u = ap (λ t. after_sign (t ++ rest)) e ∙ unsigned_stays rest u
sign_off sign rest (inr (inl e)) u = ap (λ t. after_sign (t ++ rest)) e
sign_off sign rest (inr (inr e)) u = ap (λ t. after_sign (t ++ rest)) e

-- ---- a numeral

pub apart_is : (text : List ℕ) → IsNumeral text → IsApart text
apart_is text j =
    let rest = j.second in
    let bare : after_sign text ≡ rest.front ++ rest.back =
    ap after_sign (j.joined ∙ ap (λ t. j.front ++ t) rest.joined) ∙ sign_off j.front (rest.front ++ rest.back) j.first (unsigned_mantissa rest.front rest.back rest.first) in
    let taken = taken_of rest.front rest.back rest.first rest.second in
    let before : whole text ≡ taken.before = ap digits bare ∙ taken.is_before in
    let behind : fraction text ≡ taken.behind = ap (λ t. digits (after_point (after_digits t))) bare ∙ taken.is_behind in
    let power : after_mantissa text ≡ rest.back = ap (λ t. after_digits (after_point (after_digits t))) bare ∙ taken.is_power in
    record {
      sign = j.front;
      mantissa = rest.front;
      joined = j.joined ∙ ap (λ t. j.front ++ t) (rest.joined ∙ ap (λ t. rest.front ++ t) (sym power));
      signed_first = j.first;
      pointed = parts (whole text) (fraction text) taken.before taken.behind before behind taken.pointed;
      powered = subst (λ t. Maybe IsExponent t) (sym power) rest.second;
    }
  where
    parts : (w f x y : List ℕ) → w ≡ x → f ≡ y → ((j.second.front ≡ x) × (y ≡ [])) ⊎ (j.second.front ≡ x ++ (46 ∷ y)) → ((j.second.front ≡ w) × (f ≡ [])) ⊎ (j.second.front ≡ w ++ (46 ∷ f))
    parts w f x y e g (inl h) = inl (h.0 ∙ sym e, g ∙ h.1)
    parts w f x y e g (inr h) = inr (h ∙ sym (ap (λ t. w ++ (46 ∷ t)) g ∙ ap (λ t. t ++ (46 ∷ y)) e))
