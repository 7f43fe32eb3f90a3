-- Reading byte by byte accepts exactly the written numerals, and stops behind the longest front of one.
use Rattle.std.proofs.Common.{◌≡◌, ℕ, ◌⊎◌, inl, inr, Bool, true, false, cond, ◌&&◌, ◌||◌, ◌==◌, nat_le, List, [], ◌∷◌, ◌++◌, Option, Some, None, refl, sym, ap, ◌∙◌, arith, ⊎_elim, eqb-true}
use Rattle.std.proofs.lemmas.Bool.{leb-true, le-leb, and_parts, or_cases}
use Rattle.std.specs.List.{AllByRecursion}
use Rattle.std.specs.Option.{option_and_then, option_map_or}
use Rattle.mh_units.specs.declared.scan.Kind.{Kind}
use Rattle.mh_units.specs.declared.scan.Kind.TheVariants as kinds
use Rattle.mh_units.specs.declared.scan.Phase.{Phase}
use Rattle.mh_units.specs.declared.scan.Phase.TheVariants as phases
use Rattle.mh_units.specs.Grammar.{Then, Maybe, IsDigit, IsDigits, IsSign, IsPoint, IsMark, IsMantissa, IsExponent, IsNumeral}
use Rattle.mh_units.specs.Scan.{kind_of, next, is_end, scan, is_numeral}

-- ---- two texts, one behind the other

scan_through : (o : Option Phase) (f g : Phase → Option Phase) → option_and_then g (option_and_then f o) ≡ option_and_then (λ q. option_and_then g (f q)) o
scan_through None f g = refl
scan_through (Some q) f g = refl

and_then_same : (o : Option Phase) (f g : Phase → Option Phase) → ((q : Phase) → f q ≡ g q) → option_and_then f o ≡ option_and_then g o
and_then_same None f g h = refl
and_then_same (Some q) f g h = h q

pub scan-append : (phase : Phase) (xs ys : List ℕ) → scan phase (xs ++ ys) ≡ option_and_then (λ q. scan q ys) (scan phase xs)
scan-append phase [] ys = refl
scan-append phase (x ∷ xs) ys =
    and_then_same (next phase (kind_of x)) (λ q. scan q (xs ++ ys)) (λ q. option_and_then (λ r. scan r ys) (scan q xs)) (λ q. scan-append q xs ys)
    ∙ sym (scan_through (next phase (kind_of x)) (λ q. scan q xs) (λ r. scan r ys))

scan_joined : (phase middle : Phase) (end : Option Phase) (text front back : List ℕ) → text ≡ front ++ back → scan phase front ≡ Some middle → scan middle back ≡ end → scan phase text ≡ end
scan_joined phase middle end text front back e f g =
    ap (λ t. scan phase t) e ∙ scan-append phase front back ∙ ap (λ o. option_and_then (λ q. scan q back) o) f ∙ g

-- ---- the kinds of bytes

-- what the kind of a byte says of it
abbrev pub Told : Kind → ℕ → Type 0
Told kinds.Digit b = IsDigit b
Told kinds.Sign b = IsSign (b ∷ [])
Told kinds.Point b = IsPoint (b ∷ [])
Told kinds.Mark b = IsMark (b ∷ [])
Told kinds.Other b = Unit {0}

one : (b k : ℕ) → (b == k) ≡ true → b ∷ [] ≡ k ∷ []
one b k e = ap (λ n. n ∷ []) (eqb-true b k e)

pub told : (b : ℕ) → Told (kind_of b) b
told b = digit (nat_le 48 b && nat_le b 57) refl
  where
    mark : (t : Bool) → (b == 69 || b == 101) ≡ t → Told (cond t kinds.Mark kinds.Other) b
    mark true e = ⊎_elim (λ upper. inr (one b 69 upper)) (λ lower. inl (one b 101 lower)) (or_cases (b == 69) (b == 101) e)
    mark false e = tt

    point : (t : Bool) → (b == 46) ≡ t → Told (cond t kinds.Point (cond (b == 69 || b == 101) kinds.Mark kinds.Other)) b
    point true e = one b 46 e
    point false e = mark (b == 69 || b == 101) refl

    sign : (t : Bool) → (b == 43 || b == 45) ≡ t → Told (cond t kinds.Sign (cond (b == 46) kinds.Point (cond (b == 69 || b == 101) kinds.Mark kinds.Other))) b
    sign true e = ⊎_elim (λ plus. inl (one b 43 plus)) (λ minus. inr (one b 45 minus)) (or_cases (b == 43) (b == 45) e)
    sign false e = point (b == 46) refl

    digit : (t : Bool) → (nat_le 48 b && nat_le b 57) ≡ t → Told (cond t kinds.Digit (cond (b == 43 || b == 45) kinds.Sign (cond (b == 46) kinds.Point (cond (b == 69 || b == 101) kinds.Mark kinds.Other)))) b
    digit true e = let two = and_parts (nat_le 48 b) (nat_le b 57) e in record { low = leb-true 48 b two.0; high = leb-true b 57 two.1 }
    digit false e = sign (b == 43 || b == 45) refl

pub kind_digit : (b : ℕ) → IsDigit b → kind_of b ≡ kinds.Digit
kind_digit b d =
    ap (λ t. cond (t && nat_le b 57) kinds.Digit (cond (b == 43 || b == 45) kinds.Sign (cond (b == 46) kinds.Point (cond (b == 69 || b == 101) kinds.Mark kinds.Other)))) (le-leb 48 b d.low)
    ∙ ap (λ t. cond t kinds.Digit (cond (b == 43 || b == 45) kinds.Sign (cond (b == 46) kinds.Point (cond (b == 69 || b == 101) kinds.Mark kinds.Other)))) (le-leb b 57 d.high)

-- ---- each written part leads where it should

digits_stay : (phase : Phase) → next phase kinds.Digit ≡ Some phase → (ds : List ℕ) → AllByRecursion IsDigit ds → scan phase ds ≡ Some phase
digits_stay phase stay [] all = refl
digits_stay phase stay (d ∷ ds) all =
    ap (λ k. option_and_then (λ q. scan q ds) (next phase k)) (kind_digit d all.0) ∙ ap (λ o. option_and_then (λ q. scan q ds) o) stay ∙ digits_stay phase stay ds all.1

digits_lead : (phase later : Phase) → next phase kinds.Digit ≡ Some later → next later kinds.Digit ≡ Some later → (ds : List ℕ) → IsDigits ds → scan phase ds ≡ Some later
digits_lead phase later go stay [] some = absurd (omega (arith, some.0))
digits_lead phase later go stay (d ∷ ds) some =
    ap (λ k. option_and_then (λ q. scan q ds) (next phase k)) (kind_digit d some.1.0) ∙ ap (λ o. option_and_then (λ q. scan q ds) o) go ∙ digits_stay later stay ds some.1.1

-- a place where the mantissa may begin, and one where it may end
abbrev Begins : Phase → Type 0
Begins phase = (next phase kinds.Digit ≡ Some phases.Whole) × (next phase kinds.Point ≡ Some phases.Point)

abbrev Ends : Phase → Type 0
Ends phase = (phase ≡ phases.Whole) ⊎ (phase ≡ phases.Fraction)

sign_leads : (text : List ℕ) → Maybe IsSign text → (q : Phase) × (scan phases.Start text ≡ Some q) × Begins q
sign_leads text (inl e) = (phases.Start, ap (λ t. scan phases.Start t) e, (refl, refl))
sign_leads text (inr (inl e)) = (phases.Signed, ap (λ t. scan phases.Start t) e, (refl, refl))
sign_leads text (inr (inr e)) = (phases.Signed, ap (λ t. scan phases.Start t) e, (refl, refl))

point_leads : (phase later : Phase) → next phase kinds.Point ≡ Some later → (text : List ℕ) → IsPoint text → scan phase text ≡ Some later
point_leads phase later go text e = ap (λ t. scan phase t) e ∙ ap (λ o. option_and_then (λ q. scan q []) o) go

fraction_leads : (text : List ℕ) → Maybe IsDigits text → scan phases.Fraction text ≡ Some phases.Fraction
fraction_leads text (inl e) = ap (λ t. scan phases.Fraction t) e
fraction_leads text (inr ds) = digits_lead phases.Fraction phases.Fraction refl refl text ds

behind_whole : (text : List ℕ) → Maybe (Then IsPoint (Maybe IsDigits)) text → (q : Phase) × (scan phases.Whole text ≡ Some q) × Ends q
behind_whole text (inl e) = (phases.Whole, ap (λ t. scan phases.Whole t) e, inl refl)
behind_whole text (inr j) =
    (phases.Fraction, scan_joined phases.Whole phases.Fraction (Some phases.Fraction) text j.front j.back j.joined (point_leads phases.Whole phases.Fraction refl j.front j.first) (fraction_leads j.back j.second), inr refl)

mantissa_leads : (phase : Phase) → Begins phase → (text : List ℕ) → IsMantissa text → (q : Phase) × (scan phase text ≡ Some q) × Ends q
mantissa_leads phase b text (inl j) =
    let more = behind_whole j.back j.second in
    (more.0, scan_joined phase phases.Whole (Some more.0) text j.front j.back j.joined (digits_lead phase phases.Whole b.0 refl j.front j.first) more.1, more.2)
mantissa_leads phase b text (inr j) =
    (phases.Fraction, scan_joined phase phases.Point (Some phases.Fraction) text j.front j.back j.joined (point_leads phase phases.Point b.1 j.front j.first) (digits_lead phases.Point phases.Fraction refl refl j.back j.second), inr refl)

mark_leads : (phase : Phase) → Ends phase → (text : List ℕ) → IsMark text → scan phase text ≡ Some phases.Mark
mark_leads phase (inl e) text (inl m) = ap (λ p. scan p text) e ∙ ap (λ t. scan phases.Whole t) m
mark_leads phase (inl e) text (inr m) = ap (λ p. scan p text) e ∙ ap (λ t. scan phases.Whole t) m
mark_leads phase (inr e) text (inl m) = ap (λ p. scan p text) e ∙ ap (λ t. scan phases.Fraction t) m
mark_leads phase (inr e) text (inr m) = ap (λ p. scan p text) e ∙ ap (λ t. scan phases.Fraction t) m

power_leads : (text : List ℕ) → Then (Maybe IsSign) IsDigits text → scan phases.Mark text ≡ Some phases.Exponent
power_leads text j = by j.second j.first
  where
    by : IsDigits j.back → Maybe IsSign j.front → scan phases.Mark text ≡ Some phases.Exponent
    by ds (inl e) = scan_joined phases.Mark phases.Mark (Some phases.Exponent) text j.front j.back j.joined (ap (λ t. scan phases.Mark t) e) (digits_lead phases.Mark phases.Exponent refl refl j.back ds)
    by ds (inr (inl e)) = scan_joined phases.Mark phases.MarkSign (Some phases.Exponent) text j.front j.back j.joined (ap (λ t. scan phases.Mark t) e) (digits_lead phases.MarkSign phases.Exponent refl refl j.back ds)
    by ds (inr (inr e)) = scan_joined phases.Mark phases.MarkSign (Some phases.Exponent) text j.front j.back j.joined (ap (λ t. scan phases.Mark t) e) (digits_lead phases.MarkSign phases.Exponent refl refl j.back ds)

exponent_leads : (phase : Phase) → Ends phase → (text : List ℕ) → Maybe IsExponent text → (q : Phase) × (scan phase text ≡ Some q) × (is_end q ≡ true)
exponent_leads phase ends text (inl e) = (phase, ap (λ t. scan phase t) e, ⊎_elim (λ w. ap is_end w) (λ f. ap is_end f) ends)
exponent_leads phase ends text (inr j) =
    (phases.Exponent, scan_joined phase phases.Mark (Some phases.Exponent) text j.front j.back j.joined (mark_leads phase ends j.front j.first) (power_leads j.back j.second), refl)

-- a written numeral can be read to an end
pub numeral_leads : (text : List ℕ) → IsNumeral text → (q : Phase) × (scan phases.Start text ≡ Some q) × (is_end q ≡ true)
numeral_leads text j =
    let sign = sign_leads j.front j.first in
    let rest = j.second in
    let middle = mantissa_leads sign.0 sign.2 rest.front rest.first in
    let last = exponent_leads middle.0 middle.2 rest.back rest.second in
    (last.0, scan_joined phases.Start sign.0 (Some last.0) text j.front j.back j.joined sign.1 (scan_joined sign.0 middle.0 (Some last.0) j.back rest.front rest.back rest.joined middle.1 last.1), last.2)

pub numeral_is : (text : List ℕ) → IsNumeral text → is_numeral text ≡ true
numeral_is text j = let led = numeral_leads text j in ap (λ o. option_map_or is_end o false) led.1 ∙ led.2
