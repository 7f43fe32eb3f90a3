-- The numbers that digits write, cut off at a cap, and rounded to the nearest.
use Rattle.std.proofs.Common.{◌≡◌, ℕ, zero, suc, ◌+◌, ◌-◌, ◌*◌, ◌/◌, ◌%◌, ◌^◌, ◌<◌, ◌≤◌, min, Bool, true, false, cond, nat_le, List, [], ◌∷◌, ◌++◌, length, take, drop, get_or, refl, sym, ap, ◌∙◌, subst, arith, pow-suc, pow-add, mul-le-mul_right, mul-le-mul_left, take-append-drop, length-drop, length-append, if◌then◌else◌, lit<, ⊎_elim, zero-mul}
use Rattle.std.proofs.lemmas.List.{take_more, drop_more}
use Rattle.std.proofs.lemmas.Nat.{div-add-mod', mod_below}
use Rattle.std.proofs.Math.Seq.{take-append-add, take-length}
use Rattle.std.proofs.Math.Nat.{one-le-pow, pow-le-pow_right, mul-div-mul_right, div-eq_of_lt-le, div-eq_of_lt}
use Rattle.std.proofs.lemmas.Bool.{cases_lt, le-leb, lt-leb}
use Rattle.std.specs.List.{AllByRecursion}
use Rattle.mh_units.specs.Grammar.{IsDigit}
use Rattle.mh_units.specs.Numeral.{number_after, number, nearest, scaled, distance, IsNearest}

pub number_after-append : (n : ℕ) (xs ys : List ℕ) → number_after n (xs ++ ys) ≡ number_after (number_after n xs) ys
number_after-append n [] ys = refl
number_after-append n (x ∷ xs) ys = number_after-append (n * 10 + (x - 48)) xs ys

pub number_after_more : (n : ℕ) (xs : List ℕ) (i : ℕ) → i < length xs → number_after n (take (i + 1) xs) ≡ number_after n (take i xs) * 10 + (get_or xs i 0 - 48)
number_after_more n xs i h = ap (number_after n) (take_more xs i 0 h) ∙ number_after-append n (take i xs) (get_or xs i 0 ∷ [])

-- digits behind a number move it by a power of ten
pub number_after_split : (n : ℕ) (xs : List ℕ) → number_after n xs ≡ n * 10 ^ length xs + number xs
number_after_split n [] = omega arith
number_after_split n (x ∷ xs) =
    number_after_split (n * 10 + (x - 48)) xs ∙ moved n (x - 48) (10 ^ length xs) (number xs) ∙ sym (ap (λ k. n * k + ((0 * 10 + (x - 48)) * 10 ^ length xs + number xs)) (pow-suc 10 (length xs))) ∙ sym (ap (λ k. n * 10 ^ suc (length xs) + k) (number_after_split (0 * 10 + (x - 48)) xs))
  where
    moved : (n d t r : ℕ) → (n * 10 + d) * t + r ≡ n * (t * 10) + ((0 * 10 + d) * t + r)
    moved n d t r = omega arith

pub number_lt : (xs : List ℕ) → AllByRecursion IsDigit xs → number xs < 10 ^ length xs
number_lt [] h = omega arith
number_lt (x ∷ xs) h =
    let digit : x - 48 ≤ 9 = omega (arith, h.0.high) in
    let high : (x - 48) * 10 ^ length xs ≤ 9 * 10 ^ length xs = mul-le-mul_right (10 ^ length xs) digit in
    omega (arith, number_after_split (0 * 10 + (x - 48)) xs, number_lt xs h.1, pow-suc 10 (length xs), high)

-- ---- cut off at a cap

pub capped_step : (n d cap : ℕ) → min (min n cap * 10 + d) cap ≡ min (n * 10 + d) cap
capped_step n d cap = omega arith

pub capped_more : (n : ℕ) (xs : List ℕ) (i cap : ℕ) → i < length xs → min (min (number_after n (take i xs)) cap * 10 + (get_or xs i 0 - 48)) cap ≡ min (number_after n (take (i + 1) xs)) cap
capped_more n xs i cap h = capped_step (number_after n (take i xs)) (get_or xs i 0 - 48) cap ∙ ap (λ m. min m cap) (sym (number_after_more n xs i h))

-- a cap on the number before is a cap behind it
pub capped_after : (n cap : ℕ) (xs : List ℕ) → min (number_after (min n cap) xs) cap ≡ min (number_after n xs) cap
capped_after n cap [] = omega arith
capped_after n cap (x ∷ xs) =
    sym (capped_after (min n cap * 10 + (x - 48)) cap xs) ∙ ap (λ m. min (number_after m xs) cap) (capped_step n (x - 48) cap) ∙ capped_after (n * 10 + (x - 48)) cap xs

pub pow_ten_more : (k : ℕ) → 10 ^ (k + 1) ≡ 10 ^ k * 10
pow_ten_more k = let e : k + 1 ≡ suc k = omega arith in ap (λ m. 10 ^ m) e ∙ pow-suc 10 k

-- one power of ten more
pub capped_tenfold : (n k cap : ℕ) → min (min (n * 10 ^ k) cap * 10) cap ≡ min (n * 10 ^ (k + 1)) cap
capped_tenfold n k cap =
    let e : n * 10 ^ (k + 1) ≡ n * 10 ^ k * 10 = ap (λ m. n * m) (pow_ten_more k) ∙ omega arith in
    omega (arith, e)

-- a cap before a multiplication is a cap behind it
pub capped_times : (n m cap : ℕ) → 1 ≤ m → min (min n cap * m) cap ≡ min (n * m) cap
capped_times n m cap h = ⊎_elim
    (λ below. let e : min n cap ≡ n = omega arith in ap (λ k. min (k * m) cap) e)
    (λ above. let e : min n cap ≡ cap = omega arith in
    let one : cap * 1 ≤ cap * m = mul-le-mul_left cap h in let two : n * 1 ≤ n * m = mul-le-mul_left n h in
    ap (λ k. min (k * m) cap) e ∙ omega arith)
    (cases_lt n cap)

-- ---- to the nearest

-- at most half a unit above the fraction, and less than half a unit below it
record IsHalf (top bottom n : ℕ) : Type 0 where
  pub above : 2 * (n * bottom) ≤ 2 * top + bottom
  pub below : 2 * top < 2 * (n * bottom) + bottom

half_is : (top bottom : ℕ) → 0 < bottom → IsHalf top bottom (nearest top bottom)
half_is top bottom h =
    let q : ℕ = nearest top bottom in
    let whole : q * (2 * bottom) + (2 * top + bottom) % (2 * bottom) ≡ 2 * top + bottom = div-add-mod' (2 * top + bottom) (2 * bottom) in
    let rest : (2 * top + bottom) % (2 * bottom) < 2 * bottom = mod_below (2 * top + bottom) (2 * bottom) (omega arith) in
    let twice : q * (2 * bottom) ≡ 2 * (q * bottom) = omega arith in
    record { above = omega (arith, whole, twice); below = omega (arith, whole, rest, twice) }

-- a number after another is a unit or more after it
unit_after : (m n bottom : ℕ) → m < n → m * bottom + bottom ≤ n * bottom
unit_after m n bottom h = let e : (m + 1) * bottom ≤ n * bottom = mul-le-mul_right bottom (omega arith) in omega (arith, e)

nearest_from : (top bottom n : ℕ) → 0 < bottom → IsHalf top bottom n → IsNearest top bottom n
nearest_from top bottom n some half = record {
  least = λ m. ⊎_elim
      (λ below. let unit = unit_after m n bottom below in omega (arith, unit, half.above))
      (λ from. ⊎_elim
      (λ above. let unit = unit_after n m bottom above in omega (arith, unit, half.below))
      (λ to. let P : ℕ → Type 0 = λ k. distance (n * bottom) top ≤ distance (k * bottom) top in let same : n ≡ m = omega arith in subst P same (omega arith))
      (cases_lt n m))
      (cases_lt m n);
  greatest = λ m far. ⊎_elim
      (λ above. let unit = unit_after n m bottom above in absurd (omega (arith, unit, far, half.above, half.below)))
      (λ to. to)
      (cases_lt n m);
}

pub nearest_is : (top bottom : ℕ) → 0 < bottom → IsNearest top bottom (nearest top bottom)
nearest_is top bottom h = nearest_from top bottom (nearest top bottom) h (half_is top bottom h)

pub nearest_scale : (a b k : ℕ) → 0 < k → nearest (a * k) (b * k) ≡ nearest a b
nearest_scale a b k h =
    let top : 2 * (a * k) + b * k ≡ (2 * a + b) * k = omega arith in
    let bottom : 2 * (b * k) ≡ 2 * b * k = omega arith in
    ap (λ n. n / (2 * (b * k))) top ∙ ap (λ n. (2 * a + b) * k / n) bottom ∙ mul-div-mul_right (2 * a + b) (2 * b) h

pub nearest_whole : (a : ℕ) → nearest a 1 ≡ a
nearest_whole a = div-eq_of_lt-le {k = a} (2 * 1) (omega arith) (omega arith)

pub nearest_small : (a b : ℕ) → 2 * a < b → nearest a b ≡ 0
nearest_small a b h = div-eq_of_lt (omega arith)

pub ten_positive : (k : ℕ) → 0 < 10 ^ k
ten_positive k = one-le-pow k 10 (omega arith)

pub shift_up : (m up down : ℕ) → down ≤ up → nearest (m * 10 ^ up) (10 ^ down) ≡ m * 10 ^ (up - down)
shift_up m up down h =
    let parts : 10 ^ up ≡ 10 ^ (up - down) * 10 ^ down = let e : up ≡ (up - down) + down = omega arith in ap (λ k. 10 ^ k) e ∙ pow-add 10 (up - down) down in
    let top : m * 10 ^ up ≡ m * 10 ^ (up - down) * 10 ^ down = ap (λ k. m * k) parts ∙ omega arith in
    let bottom : 10 ^ down ≡ 1 * 10 ^ down = omega arith in
    ap (λ k. nearest k (10 ^ down)) top ∙ ap (λ k. nearest (m * 10 ^ (up - down) * 10 ^ down) k) bottom ∙ nearest_scale (m * 10 ^ (up - down)) 1 (10 ^ down) (ten_positive down) ∙ nearest_whole (m * 10 ^ (up - down))

pub shift_down : (m up down : ℕ) → up ≤ down → nearest (m * 10 ^ up) (10 ^ down) ≡ nearest m (10 ^ (down - up))
shift_down m up down h =
    let parts : 10 ^ down ≡ 10 ^ (down - up) * 10 ^ up = let e : down ≡ (down - up) + up = omega arith in ap (λ k. 10 ^ k) e ∙ pow-add 10 (down - up) up in
    ap (λ k. nearest (m * 10 ^ up) k) parts ∙ nearest_scale m (10 ^ (down - up)) (10 ^ up) (ten_positive up)

-- the first digit that is left off decides
pub nearest_digit_up : (p d t r : ℕ) → 5 ≤ d → d ≤ 9 → r < t → nearest ((p * 10 + d) * t + r) (10 * t) ≡ p + 1
nearest_digit_up p d t r low high h =
    let at_least : 5 * t ≤ d * t = mul-le-mul_right t low in
    let at_most : d * t ≤ 9 * t = mul-le-mul_right t high in
    div-eq_of_lt-le {k = p + 1} (2 * (10 * t)) (omega (arith, at_least)) (omega (arith, at_most))

pub nearest_digit_down : (p d t r : ℕ) → d ≤ 4 → r < t → nearest ((p * 10 + d) * t + r) (10 * t) ≡ p
nearest_digit_down p d t r high h =
    let at_most : d * t ≤ 4 * t = mul-le-mul_right t high in
    div-eq_of_lt-le {k = p} (2 * (10 * t)) (omega arith) (omega (arith, at_most))

AllByRecursion-drop : (P : ℕ → Type 0) (xs : List ℕ) (n : ℕ) → AllByRecursion P xs → AllByRecursion P (drop n xs)
AllByRecursion-drop P xs zero h = h
AllByRecursion-drop P [] (suc n) h = h
AllByRecursion-drop P (x ∷ xs) (suc n) h = AllByRecursion-drop P xs n h.1

front_split : (ds : List ℕ) (kept : ℕ) → kept < length ds → number ds ≡ (number (take kept ds) * 10 + (get_or ds kept 0 - 48)) * 10 ^ (length ds - kept - 1) + number (drop (kept + 1) ds)
front_split ds kept h =
    let cut : ds ≡ take kept ds ++ get_or ds kept 0 ∷ drop (kept + 1) ds = sym (take-append-drop kept ds) ∙ ap (λ r. take kept ds ++ r) (drop_more ds kept 0 h) in
    let long : length (drop (kept + 1) ds) ≡ length ds - kept - 1 = omega (arith, length-drop (kept + 1) ds) in
    ap number cut ∙ number_after-append 0 (take kept ds) (get_or ds kept 0 ∷ drop (kept + 1) ds) ∙ number_after_split (number (take kept ds) * 10 + (get_or ds kept 0 - 48)) (drop (kept + 1) ds)
    ∙ ap (λ k. (number (take kept ds) * 10 + (get_or ds kept 0 - 48)) * 10 ^ k + number (drop (kept + 1) ds)) long

-- A number written in digits, without its last ones: the front's number, and one more where the first digit left off is from 5 on.
pub round_front : (ds : List ℕ) (kept : ℕ) → AllByRecursion IsDigit ds → kept < length ds → nearest (number ds) (10 ^ (length ds - kept)) ≡ (if nat_le 53 (get_or ds kept 0) then number (take kept ds) + 1 else number (take kept ds))
round_front ds kept all h =
    let rest = drop (kept + 1) ds in
    let t : ℕ = 10 ^ (length ds - kept - 1) in
    let long : length rest ≡ length ds - kept - 1 = omega (arith, length-drop (kept + 1) ds) in
    let small : number rest < t = subst (λ k. number rest < 10 ^ k) long (number_lt rest (AllByRecursion-drop IsDigit ds (kept + 1) all)) in
    let tail : AllByRecursion IsDigit (get_or ds kept 0 ∷ rest) = subst (λ r. AllByRecursion IsDigit r) (drop_more ds kept 0 h) (AllByRecursion-drop IsDigit ds kept all) in
    let bottom : 10 ^ (length ds - kept) ≡ 10 * t = let e : length ds - kept ≡ (length ds - kept - 1) + 1 = omega arith in ap (λ k. 10 ^ k) e ∙ pow_ten_more (length ds - kept - 1) ∙ omega arith in
    ap (λ n. nearest n (10 ^ (length ds - kept))) (front_split ds kept h) ∙ ap (λ b. nearest ((number (take kept ds) * 10 + (get_or ds kept 0 - 48)) * t + number rest) b) bottom
    ∙ decided (number (take kept ds)) (get_or ds kept 0) t (number rest) tail.0 small
  where
    decided : (p x t r : ℕ) → IsDigit x → r < t → nearest ((p * 10 + (x - 48)) * t + r) (10 * t) ≡ cond (nat_le 53 x) (p + 1) p
    decided p x t r digit small = ⊎_elim
        (λ low. nearest_digit_down p (x - 48) t r (omega arith) small ∙ sym (ap (λ b. cond b (p + 1) p) (lt-leb 53 x low)))
        (λ high. nearest_digit_up p (x - 48) t r (omega arith) (omega (arith, digit.high)) small ∙ sym (ap (λ b. cond b (p + 1) p) (le-leb 53 x high)))
        (cases_lt x 53)

-- ---- far shifts

-- past the cap it is all the same how many zeros are added
pub far_up : (m j k : ℕ) → 16 ≤ j → 16 ≤ k → min (m * 10 ^ j) (10 ^ 16) ≡ min (m * 10 ^ k) (10 ^ 16)
far_up zero j k g h = ap (λ n. min n (10 ^ 16)) (zero-mul (10 ^ j) ∙ sym (zero-mul (10 ^ k)))
far_up (suc m) j k g h = high j g ∙ sym (high k h)
  where
    high : (n : ℕ) → 16 ≤ n → min (suc m * 10 ^ n) (10 ^ 16) ≡ 10 ^ 16
    high n g = let large : 10 ^ 16 ≤ 10 ^ n = pow-le-pow_right (lit< tt) g in let more : 1 * 10 ^ n ≤ suc m * 10 ^ n = mul-le-mul_right (10 ^ n) (omega arith) in omega arith

-- past all digits nothing is left
pub far_down : (ds : List ℕ) (k : ℕ) → AllByRecursion IsDigit ds → length ds < k → nearest (number ds) (10 ^ k) ≡ 0
far_down ds k all h =
    let large : 10 ^ (length ds + 1) ≤ 10 ^ k = pow-le-pow_right (lit< tt) (omega arith) in
    nearest_small (number ds) (10 ^ k) (omega (arith, number_lt ds all, pow_ten_more (length ds), large))

-- ---- two parts together

pub leading_both : (xs ys : List ℕ) (count front r cap : ℕ) → length xs ≤ count → front ≡ min (number xs) cap → r ≡ min (number_after front (take (count - length xs) ys)) cap → r ≡ min (number (take count (xs ++ ys))) cap
leading_both xs ys count front r cap h f e =
    let n = count - length xs in
    let whole : count ≡ length xs + n = omega arith in
    let cut : take count (xs ++ ys) ≡ xs ++ take n ys = ap (λ k. take k (xs ++ ys)) whole ∙ take-append-add xs ys n in
    e ∙ ap (λ m. min (number_after m (take n ys)) cap) f ∙ capped_after (number xs) cap (take n ys) ∙ ap (λ m. min m cap) (sym (number_after-append 0 xs (take n ys)) ∙ ap number (sym cut))

pub rounded_none : (ds : List ℕ) (dropped cap : ℕ) → AllByRecursion IsDigit ds → length ds < dropped → 0 ≡ min (nearest (number ds) (10 ^ dropped)) cap
rounded_none ds dropped cap all h = let e = far_down ds dropped all h in omega (arith, e)

front_of : (ds : List ℕ) (kept dropped : ℕ) → AllByRecursion IsDigit ds → 0 < dropped → kept + dropped ≡ length ds → nearest (number ds) (10 ^ dropped) ≡ cond (nat_le 53 (get_or ds kept 0)) (number (take kept ds) + 1) (number (take kept ds))
front_of ds kept dropped all some e =
    let d : dropped ≡ length ds - kept = omega arith in ap (λ k. nearest (number ds) (10 ^ k)) d ∙ round_front ds kept all (omega arith)

pub rounded_up : (ds : List ℕ) (kept dropped size cap : ℕ) → AllByRecursion IsDigit ds → 0 < dropped → kept + dropped ≡ length ds → 53 ≤ get_or ds kept 0 → size ≡ min (number (take kept ds)) cap → min (size + 1) cap ≡ min (nearest (number ds) (10 ^ dropped)) cap
rounded_up ds kept dropped size cap all some e high s =
    let r = front_of ds kept dropped all some e ∙ ap (λ b. cond b (number (take kept ds) + 1) (number (take kept ds))) (le-leb 53 (get_or ds kept 0) high) in omega (arith, r, s)

pub rounded_down : (ds : List ℕ) (kept dropped size cap : ℕ) → AllByRecursion IsDigit ds → 0 < dropped → kept + dropped ≡ length ds → get_or ds kept 0 < 53 → size ≡ min (number (take kept ds)) cap → size ≡ min (nearest (number ds) (10 ^ dropped)) cap
rounded_down ds kept dropped size cap all some e low s =
    let r = front_of ds kept dropped all some e ∙ ap (λ b. cond b (number (take kept ds) + 1) (number (take kept ds))) (lt-leb 53 (get_or ds kept 0) low) in omega (arith, r, s)

pub shifted_up : (ds : List ℕ) (count up down m r cap : ℕ) → count ≡ length ds → down ≤ up → m ≡ min (number (take count ds)) cap → r ≡ min (m * 10 ^ (up - down)) cap → r ≡ min (nearest (number ds * 10 ^ up) (10 ^ down)) cap
shifted_up ds count up down m r cap c h e f =
    let all : number (take count ds) ≡ number ds = ap (λ k. number (take k ds)) c ∙ ap number (take-length ds) in
    f ∙ ap (λ k. min (k * 10 ^ (up - down)) cap) (e ∙ ap (λ k. min k cap) all) ∙ capped_times (number ds) (10 ^ (up - down)) cap (one-le-pow (up - down) 10 (lit< tt)) ∙ ap (λ k. min k cap) (sym (shift_up (number ds) up down h))

pub shifted_down : (ds : List ℕ) (up down r cap : ℕ) → up ≤ down → r ≡ min (nearest (number ds) (10 ^ (down - up))) cap → r ≡ min (nearest (number ds * 10 ^ up) (10 ^ down)) cap
shifted_down ds up down r cap h e = e ∙ ap (λ k. min k cap) (sym (shift_down (number ds) up down h))

-- ---- an exponent counted up to 1000 serves as well

pub exponent_up : (m places e down : ℕ) → down ≤ 64 → min (nearest (m * 10 ^ (places + min e 1000)) (10 ^ down)) (10 ^ 16) ≡ min (nearest (m * 10 ^ (places + e)) (10 ^ down)) (10 ^ 16)
exponent_up m places e down h = ⊎_elim
    (λ low. let same : min e 1000 ≡ e = omega arith in ap (λ k. min (nearest (m * 10 ^ (places + k)) (10 ^ down)) (10 ^ 16)) same)
    (λ high. let same : min e 1000 ≡ 1000 = omega arith in
    ap (λ k. min (nearest (m * 10 ^ (places + k)) (10 ^ down)) (10 ^ 16)) same
    ∙ ap (λ k. min k (10 ^ 16)) (shift_up m (places + 1000) down (omega arith))
    ∙ far_up m (places + 1000 - down) (places + e - down) (omega arith) (omega arith)
    ∙ sym (ap (λ k. min k (10 ^ 16)) (shift_up m (places + e) down (omega arith))))
    (cases_lt e 1000)

pub exponent_down : (ds : List ℕ) (places e down : ℕ) → AllByRecursion IsDigit ds → length ds ≤ 64 → places ≤ 64 → nearest (number ds * 10 ^ places) (10 ^ (down + min e 1000)) ≡ nearest (number ds * 10 ^ places) (10 ^ (down + e))
exponent_down ds places e down all short few = ⊎_elim
    (λ low. let same : min e 1000 ≡ e = omega arith in ap (λ k. nearest (number ds * 10 ^ places) (10 ^ (down + k))) same)
    (λ high. let same : min e 1000 ≡ 1000 = omega arith in
    ap (λ k. nearest (number ds * 10 ^ places) (10 ^ (down + k))) same
    ∙ shift_down (number ds) places (down + 1000) (omega arith) ∙ far_down ds (down + 1000 - places) all (omega arith)
    ∙ sym (shift_down (number ds) places (down + e) (omega arith) ∙ far_down ds (down + e - places) all (omega arith)))
    (cases_lt e 1000)

pub scaled_below : (before behind power : List ℕ) (negative : Bool) (places e r : ℕ) → AllByRecursion IsDigit (before ++ behind) → length before + length behind ≤ 64 → places ≤ 6 → negative ≡ true → e ≡ min (number power) 1000 → r ≡ min (nearest (number (before ++ behind) * 10 ^ places) (10 ^ (length behind + e))) (10 ^ 16) → r ≡ min (scaled places before behind negative power) (10 ^ 16)
scaled_below before behind power negative places e r all room few n exact h =
    h ∙ ap (λ k. min (nearest (number (before ++ behind) * 10 ^ places) (10 ^ (length behind + k))) (10 ^ 16)) exact
    ∙ ap (λ k. min k (10 ^ 16)) (exponent_down (before ++ behind) places (number power) (length behind) all (omega (arith, length-append before behind)) (omega arith))
    ∙ ap (λ t. min (scaled places before behind t power) (10 ^ 16)) (sym n)

pub scaled_above : (before behind power : List ℕ) (negative : Bool) (places e r : ℕ) → length before + length behind ≤ 64 → negative ≡ false → e ≡ min (number power) 1000 → r ≡ min (nearest (number (before ++ behind) * 10 ^ (places + e)) (10 ^ length behind)) (10 ^ 16) → r ≡ min (scaled places before behind negative power) (10 ^ 16)
scaled_above before behind power negative places e r room n exact h =
    h ∙ ap (λ k. min (nearest (number (before ++ behind) * 10 ^ (places + k)) (10 ^ length behind)) (10 ^ 16)) exact
    ∙ exponent_up (number (before ++ behind)) places (number power) (length behind) (omega arith)
    ∙ ap (λ t. min (scaled places before behind t power) (10 ^ 16)) (sym n)
