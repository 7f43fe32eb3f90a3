-- What can be read from the start is the front of a written numeral, and reading stops behind the longest such front.
use Rattle.std.proofs.Common.{◌≡◌, ℕ, zero, suc, ◌<◌, ◌≤◌, ◌⊎◌, inl, inr, true, false, List, [], ◌∷◌, ◌++◌, length, take, Option, Some, None, IfSome, is_some, refl, sym, ap, ◌∙◌, subst, arith, append_assoc, append-nil, true≢false, zero-le, suc-le-suc, le_of_suc-le-suc}
use Rattle.std.specs.List.{AllByRecursion}
use Rattle.std.specs.Option.{option_and_then, option_map_or}
use Rattle.mh_units.specs.declared.scan.Kind.{Kind}
use Rattle.mh_units.specs.declared.scan.Kind.TheVariants as kinds
use Rattle.mh_units.specs.declared.scan.Phase.{Phase}
use Rattle.mh_units.specs.declared.scan.Phase.TheVariants as phases
use Rattle.mh_units.specs.Grammar.{Then, Maybe, IsDigit, IsDigits, IsSign, IsPoint, IsMark, IsMantissa, IsNumeral, IsFront, IsLongestFront}
use Rattle.mh_units.specs.Scan.{kind_of, next, is_end, scan, reach, is_numeral}
use Rattle.mh_units.proofs.Scans.{scan-append, Told, told, numeral_leads, numeral_is}

-- ---- what has been read at each phase

-- a mantissa with a point
abbrev Pointed : List ℕ → Type 0
Pointed text = Then IsDigits (Then IsPoint (Maybe IsDigits)) text ⊎ Then IsPoint IsDigits text

abbrev Signed : (List ℕ → Type 0) → List ℕ → Type 0
Signed P = Then (Maybe IsSign) P

abbrev Read : Phase → List ℕ → Type 0
Read phases.Start text = text ≡ []
Read phases.Signed text = IsSign text
Read phases.Whole text = Signed IsDigits text
Read phases.Point text = Signed IsPoint text
Read phases.Fraction text = Signed Pointed text
Read phases.Mark text = Then (Signed IsMantissa) IsMark text
Read phases.MarkSign text = Then (Signed IsMantissa) (Then IsMark IsSign) text
Read phases.Exponent text = Then (Signed IsMantissa) (Then IsMark (Signed IsDigits)) text

-- ---- one byte more

digit_alone : (b : ℕ) → IsDigit b → IsDigits (b ∷ [])
digit_alone b d = (omega arith, (d, tt))

digits_more : (ds : List ℕ) (b : ℕ) → IsDigits ds → IsDigit b → IsDigits (ds ++ b ∷ [])
digits_more ds b h d = (some ds, all ds h.1)
  where
    some : (xs : List ℕ) → 0 < length (xs ++ b ∷ [])
    some [] = omega arith
    some (x ∷ xs) = omega arith

    all : (xs : List ℕ) → AllByRecursion IsDigit xs → AllByRecursion IsDigit (xs ++ b ∷ [])
    all [] k = (d, tt)
    all (x ∷ xs) k = (k.0, all xs k.1)

-- a byte more at the end of the second part
in_second : {P Q R : List ℕ → Type 0} (text : List ℕ) (b : ℕ) → ((back : List ℕ) → Q back → R (back ++ b ∷ [])) → Then P Q text → Then P R (text ++ b ∷ [])
in_second text b f j = record {
  front = j.front;
  back = j.back ++ b ∷ [];
  joined = ap (λ t. t ++ b ∷ []) j.joined ∙ append_assoc j.front j.back (b ∷ []);
  first = j.first;
  second = f j.back j.second;
}

-- a second part that begins with this byte
behind : {P Q : List ℕ → Type 0} (text : List ℕ) (b : ℕ) → P text → Q (b ∷ []) → Then P Q (text ++ b ∷ [])
behind text b p q = record { front = text; back = b ∷ []; joined = refl; first = p; second = q }

-- nothing, and then this byte
alone : {P Q : List ℕ → Type 0} (text : List ℕ) (b : ℕ) → text ≡ [] → P [] → Q (b ∷ []) → Then P Q (text ++ b ∷ [])
alone text b e p q = record { front = []; back = b ∷ []; joined = ap (λ t. t ++ b ∷ []) e; first = p; second = q }

pointed_more : (b : ℕ) → IsDigit b → (text : List ℕ) → Pointed text → Pointed (text ++ b ∷ [])
pointed_more b d text (inl j) = inl (in_second text b (λ back k. in_second back b (λ ds m. inr (more ds m)) k) j)
  where
    more : (ds : List ℕ) → Maybe IsDigits ds → IsDigits (ds ++ b ∷ [])
    more ds (inl e) = subst (λ t. IsDigits (t ++ b ∷ [])) (sym e) (digit_alone b d)
    more ds (inr h) = digits_more ds b h d
pointed_more b d text (inr j) = inr (in_second text b (λ ds h. digits_more ds b h d) j)

mantissa_digits : (text : List ℕ) → IsDigits text → IsMantissa text
mantissa_digits text h = inl record { front = text; back = []; joined = sym (append-nil text); first = h; second = inl refl }

mantissa_pointed : (text : List ℕ) → Pointed text → IsMantissa text
mantissa_pointed text (inl j) = inl record { front = j.front; back = j.back; joined = j.joined; first = j.first; second = inr j.second }
mantissa_pointed text (inr j) = inr j

signed_as : {P Q : List ℕ → Type 0} (text : List ℕ) → ((t : List ℕ) → P t → Q t) → Signed P text → Signed Q text
signed_as text f j = record { front = j.front; back = j.back; joined = j.joined; first = j.first; second = f j.back j.second }

-- digits, and then a point
point_more : (b : ℕ) → IsPoint (b ∷ []) → (text : List ℕ) → IsDigits text → Pointed (text ++ b ∷ [])
point_more b p text h = inl (behind text b h record { front = b ∷ []; back = []; joined = refl; first = p; second = inl refl })

step : (phase : Phase) (kind : Kind) (b : ℕ) (text : List ℕ) → Told kind b → Read phase text → IfSome (next phase kind) (λ q. Read q (text ++ b ∷ []))
step phases.Start kinds.Sign b text k r = subst (λ t. IsSign (t ++ b ∷ [])) (sym r) k
step phases.Start kinds.Digit b text k r = alone text b r (inl refl) (digit_alone b k)
step phases.Start kinds.Point b text k r = alone text b r (inl refl) k
step phases.Start kinds.Mark b text k r = tt
step phases.Start kinds.Other b text k r = tt
step phases.Signed kinds.Sign b text k r = tt
step phases.Signed kinds.Digit b text k r = behind text b (inr r) (digit_alone b k)
step phases.Signed kinds.Point b text k r = behind text b (inr r) k
step phases.Signed kinds.Mark b text k r = tt
step phases.Signed kinds.Other b text k r = tt
step phases.Whole kinds.Sign b text k r = tt
step phases.Whole kinds.Digit b text k r = in_second text b (λ ds h. digits_more ds b h k) r
step phases.Whole kinds.Point b text k r = in_second text b (λ ds h. point_more b k ds h) r
step phases.Whole kinds.Mark b text k r = behind text b (signed_as text mantissa_digits r) k
step phases.Whole kinds.Other b text k r = tt
step phases.Point kinds.Sign b text k r = tt
step phases.Point kinds.Digit b text k r = in_second text b (λ point p. inr (behind point b p (digit_alone b k))) r
step phases.Point kinds.Point b text k r = tt
step phases.Point kinds.Mark b text k r = tt
step phases.Point kinds.Other b text k r = tt
step phases.Fraction kinds.Sign b text k r = tt
step phases.Fraction kinds.Digit b text k r = in_second text b (pointed_more b k) r
step phases.Fraction kinds.Point b text k r = tt
step phases.Fraction kinds.Mark b text k r = behind text b (signed_as text mantissa_pointed r) k
step phases.Fraction kinds.Other b text k r = tt
step phases.Mark kinds.Sign b text k r = in_second text b (λ mark m. behind mark b m k) r
step phases.Mark kinds.Digit b text k r = in_second text b (λ mark m. behind mark b m record { front = []; back = b ∷ []; joined = refl; first = inl refl; second = digit_alone b k }) r
step phases.Mark kinds.Point b text k r = tt
step phases.Mark kinds.Mark b text k r = tt
step phases.Mark kinds.Other b text k r = tt
step phases.MarkSign kinds.Sign b text k r = tt
step phases.MarkSign kinds.Digit b text k r = in_second text b (λ back j. in_second back b (λ sign s. behind sign b (inr s) (digit_alone b k)) j) r
step phases.MarkSign kinds.Point b text k r = tt
step phases.MarkSign kinds.Mark b text k r = tt
step phases.MarkSign kinds.Other b text k r = tt
step phases.Exponent kinds.Sign b text k r = tt
step phases.Exponent kinds.Digit b text k r = in_second text b (λ back j. in_second back b (λ power s. in_second power b (λ ds h. digits_more ds b h k) s) j) r
step phases.Exponent kinds.Point b text k r = tt
step phases.Exponent kinds.Mark b text k r = tt
step phases.Exponent kinds.Other b text k r = tt

-- ---- the whole way

pub read_all : (text : List ℕ) (phase : Phase) (before : List ℕ) → Read phase before → IfSome (scan phase text) (λ q. Read q (before ++ text))
read_all [] phase before r = subst (λ t. Read phase t) (sym (append-nil before)) r
read_all (b ∷ bs) phase before r =
    further (next phase (kind_of b)) (step phase (kind_of b) b before (told b) r) (λ q s. read_all bs q (before ++ b ∷ []) s)
  where
    moved : (o : Option Phase) → IfSome o (λ q. Read q ((before ++ b ∷ []) ++ bs)) → IfSome o (λ q. Read q (before ++ b ∷ bs))
    moved None h = tt
    moved (Some q) h = subst (λ t. Read q t) (append_assoc before (b ∷ []) bs) h

    further : (o : Option Phase) → IfSome o (λ q. Read q (before ++ b ∷ [])) → ((q : Phase) → Read q (before ++ b ∷ []) → IfSome (scan q bs) (λ p. Read p ((before ++ b ∷ []) ++ bs))) → IfSome (option_and_then (λ q. scan q bs) o) (λ q. Read q (before ++ b ∷ bs))
    further None h f = tt
    further (Some q) h f = moved (scan q bs) (f q h)

read_at : (text : List ℕ) (q : Phase) → scan phases.Start text ≡ Some q → Read q text
read_at text q e = let r : IfSome (scan phases.Start text) (λ p. Read p text) = read_all text phases.Start [] refl in subst (λ o. IfSome o (λ p. Read p text)) e r

-- what was read at an end is a numeral
numeral_mantissa : (text : List ℕ) → Signed IsMantissa text → IsNumeral text
numeral_mantissa text j = record {
  front = j.front;
  back = j.back;
  joined = j.joined;
  first = j.first;
  second = record { front = j.back; back = []; joined = sym (append-nil j.back); first = j.second; second = inl refl };
}

numeral_power : (text : List ℕ) → Then (Signed IsMantissa) (Then IsMark (Signed IsDigits)) text → IsNumeral text
numeral_power text j = record {
  front = j.first.front;
  back = j.first.back ++ j.back;
  joined = j.joined ∙ ap (λ t. t ++ j.back) j.first.joined ∙ append_assoc j.first.front j.first.back j.back;
  first = j.first.first;
  second = record { front = j.first.back; back = j.back; joined = refl; first = j.first.second; second = inr j.second };
}

numeral_at : (q : Phase) (text : List ℕ) → is_end q ≡ true → Read q text → IsNumeral text
numeral_at phases.Start text e r = absurd (true≢false (sym e))
numeral_at phases.Signed text e r = absurd (true≢false (sym e))
numeral_at phases.Whole text e r = numeral_mantissa text (signed_as text mantissa_digits r)
numeral_at phases.Point text e r = absurd (true≢false (sym e))
numeral_at phases.Fraction text e r = numeral_mantissa text (signed_as text mantissa_pointed r)
numeral_at phases.Mark text e r = absurd (true≢false (sym e))
numeral_at phases.MarkSign text e r = absurd (true≢false (sym e))
numeral_at phases.Exponent text e r = numeral_power text r

-- reading to an end is reading a numeral
pub numeral_from : (text : List ℕ) → is_numeral text ≡ true → IsNumeral text
numeral_from text e = by (scan phases.Start text) refl e
  where
    by : (o : Option Phase) → scan phases.Start text ≡ o → option_map_or is_end o false ≡ true → IsNumeral text
    by None s h = absurd (true≢false (sym h))
    by (Some q) s h = numeral_at q text h (read_at text q s)

pub no_numeral : (text : List ℕ) → is_numeral text ≡ false → ¬ IsNumeral text
no_numeral text e j = true≢false (sym (numeral_is text j) ∙ e)

-- ---- fronts

-- what makes a numeral of the text read so far
completed : (q : Phase) (text : List ℕ) → Read q text → IsFront text
completed phases.Start text r = (48 ∷ [], numeral_at phases.Whole (text ++ 48 ∷ []) refl (read_all (48 ∷ []) phases.Start text r))
completed phases.Signed text r = (48 ∷ [], numeral_at phases.Whole (text ++ 48 ∷ []) refl (read_all (48 ∷ []) phases.Signed text r))
completed phases.Whole text r = ([], numeral_at phases.Whole (text ++ []) refl (read_all [] phases.Whole text r))
completed phases.Point text r = (48 ∷ [], numeral_at phases.Fraction (text ++ 48 ∷ []) refl (read_all (48 ∷ []) phases.Point text r))
completed phases.Fraction text r = ([], numeral_at phases.Fraction (text ++ []) refl (read_all [] phases.Fraction text r))
completed phases.Mark text r = (48 ∷ [], numeral_at phases.Exponent (text ++ 48 ∷ []) refl (read_all (48 ∷ []) phases.Mark text r))
completed phases.MarkSign text r = (48 ∷ [], numeral_at phases.Exponent (text ++ 48 ∷ []) refl (read_all (48 ∷ []) phases.MarkSign text r))
completed phases.Exponent text r = ([], numeral_at phases.Exponent (text ++ []) refl (read_all [] phases.Exponent text r))

abbrev CanStand : Phase → List ℕ → Type 0
CanStand phase text = is_some (scan phase text) ≡ true

pub front_from : (text : List ℕ) → CanStand phases.Start text → IsFront text
front_from text e = by (scan phases.Start text) refl e
  where
    by : (o : Option Phase) → scan phases.Start text ≡ o → is_some o ≡ true → IsFront text
    by None s h = absurd (true≢false (sym h))
    by (Some q) s h = completed q text (read_at text q s)

pub front_stands : (text : List ℕ) → IsFront text → CanStand phases.Start text
front_stands text f =
    let led = numeral_leads (text ++ f.0) f.1 in
    by (scan phases.Start text) (sym (scan-append phases.Start text f.0) ∙ led.1)
  where
    by : (o : Option Phase) → {q : Phase} → option_and_then (λ p. scan p f.0) o ≡ Some q → is_some o ≡ true
    by None h = cc
    by (Some p) h = refl

-- ---- how far reading goes

reach_within : (text : List ℕ) (phase : Phase) → reach phase text ≤ length text
reach_within [] phase = zero-le
reach_within (b ∷ bs) phase = by (next phase (kind_of b)) (λ q. reach_within bs q)
  where
    by : (o : Option Phase) → ((q : Phase) → reach q bs ≤ length bs) → option_map_or (λ q. suc (reach q bs)) o 0 ≤ suc (length bs)
    by None h = zero-le
    by (Some q) h = suc-le-suc (h q)

reach_stands : (text : List ℕ) (phase : Phase) → CanStand phase (take (reach phase text) text)
reach_stands [] phase = refl
reach_stands (b ∷ bs) phase = by (next phase (kind_of b)) refl (λ q. reach_stands bs q)
  where
    by : (o : Option Phase) → next phase (kind_of b) ≡ o → ((q : Phase) → CanStand q (take (reach q bs) bs)) → CanStand phase (take (option_map_or (λ q. suc (reach q bs)) o 0) (b ∷ bs))
    by None e h = refl
    by (Some q) e h = ap (λ o. is_some (option_and_then (λ p. scan p (take (reach q bs) bs)) o)) e ∙ h q

reach_longest : (text : List ℕ) (phase : Phase) (n : ℕ) → n ≤ length text → CanStand phase (take n text) → n ≤ reach phase text
reach_longest text phase zero h s = zero-le
reach_longest [] phase (suc n) h s = h
reach_longest (b ∷ bs) phase (suc n) h s = by (next phase (kind_of b)) s (λ q k. reach_longest bs q n (le_of_suc-le-suc h) k)
  where
    by : (o : Option Phase) → is_some (option_and_then (λ q. scan q (take n bs)) o) ≡ true → ((q : Phase) → CanStand q (take n bs) → n ≤ reach q bs) → suc n ≤ option_map_or (λ q. suc (reach q bs)) o 0
    by None k f = absurd (true≢false (sym k))
    by (Some q) k f = suc-le-suc (f q k)

-- reading stops behind the longest front of a numeral
pub reach_is_longest : (text : List ℕ) → IsLongestFront text (reach phases.Start text)
reach_is_longest text = record {
  within = reach_within text phases.Start;
  front = front_from (take (reach phases.Start text) text) (reach_stands text phases.Start);
  longest = λ n h f. reach_longest text phases.Start n h (front_stands (take n text) f);
}
