-- Each rounding is the least or the greatest number that its written rule asks for, and the only one.
use Rattle.std.proofs.Common.{◌≡◌, ℕ, zero, suc, ◌+◌, ◌*◌, ◌/◌, ◌<◌, ◌≤◌, ℤ, pos, negsuc, neg_ℤ, ◌+ℤ◌, ◌*ℤ◌, ◌≤ℤ◌, ◌<ℤ◌, unsigned_abs, nat_le, true, refl, sym, ap, ◌∙◌, subst, arith, ◌≢◌, ⊎_elim, le_of_lt, le_refl, suc-le-suc, div-le_self}
use Rattle.std.proofs.lemmas.Bool.{le-leb, leb-true, cases_lt}
use Rattle.std.proofs.lemmas.Int.{ints, clamps}
use Rattle.std.proofs.Math.Nat.{div-le_of_le-mul}
use Rattle.std.proofs.lemmas.Nat.{div-add-mod', mod_below, mul-le, mul-lt}
use Rattle.mh_units.specs.Rounding.{up, down, away, trunc, root, clamp, IsUp, IsDown, IsAway, IsTrunc, IsRoot}
use Rattle.mh_units.specs.Least.{first_from, IsLeast}
use Rattle.mh_units.proofs.Least.{least_is}
use Rattle.mh_units.proofs.Integers.{below_next, neg-mul, square-abs, unsigned_abs-neg, product_size}

-- ---- downwards

down_within : (a : ℤ) (k : ℕ) → 0 < k → (down a (pos k) *ℤ pos k) ≤ℤ a
down_within (pos n) k h = omega (arith, ints, div-add-mod' n k)
down_within (negsuc n) k h = omega (arith, ints, div-add-mod' n k, mod_below n k h)

down_next : (a : ℤ) (k : ℕ) → 0 < k → a <ℤ ((down a (pos k) +ℤ pos 1) *ℤ pos k)
down_next (pos n) k h = omega (arith, ints, div-add-mod' n k, mod_below n k h)
down_next (negsuc n) k h =
    let next : negsuc (n / k) +ℤ pos 1 ≡ neg_ℤ (pos (n / k)) = omega (arith, ints) in
    subst (λ z. negsuc n <ℤ (z *ℤ pos k)) (sym next) (subst (λ z. negsuc n <ℤ z) (sym (neg-mul (pos (n / k)) (pos k))) (omega (arith, ints, div-add-mod' n k, mod_below n k h)))

pub down_is : (a b : ℤ) → pos 0 <ℤ b → IsDown a b (down a b)
down_is a (pos k) h = let some : 0 < k = omega (arith, ints) in record { within = down_within a k some; greatest = λ y under. below_next y (down a (pos k)) a k under (down_next a k some) }
down_is a (negsuc k) h = absurd h.lt

pub IsDown_unique : (a b x y : ℤ) → IsDown a b x → IsDown a b y → x ≡ y
IsDown_unique a b x y p q = let one : x ≤ℤ y = q.greatest x p.within in let two : y ≤ℤ x = p.greatest y q.within in omega (arith, ints)

-- ---- upwards

pub up_is : (a b : ℤ) → pos 0 <ℤ b → IsUp a b (up a b)
up_is a b h =
    let d = down_is (neg_ℤ a) b h in
    let turned : (y : ℤ) → neg_ℤ y *ℤ b ≡ neg_ℤ (y *ℤ b) = λ y. neg-mul y b in
    record {
      enough = let e : up a b *ℤ b ≡ neg_ℤ (down (neg_ℤ a) b *ℤ b) = neg-mul (down (neg_ℤ a) b) b in omega (arith, ints, d.within, e);
      least = λ y reached. let e = neg-mul y b in let under : (neg_ℤ y *ℤ b) ≤ℤ neg_ℤ a = omega (arith, ints) in let most : neg_ℤ y ≤ℤ down (neg_ℤ a) b = d.greatest (neg_ℤ y) under in omega (arith, ints);
    }

pub IsUp_unique : (a b x y : ℤ) → IsUp a b x → IsUp a b y → x ≡ y
IsUp_unique a b x y p q = let one : x ≤ℤ y = p.least y q.enough in let two : y ≤ℤ x = q.least x p.enough in omega (arith, ints)

-- ---- away from zero and towards it

pub away_is : (a b : ℤ) → pos 0 <ℤ b → IsAway a b (away a b)
away_is (pos n) b h = up_is (pos n) b h
away_is (negsuc n) b h = down_is (negsuc n) b h

pub trunc_is : (a b : ℤ) → pos 0 <ℤ b → IsTrunc a b (trunc a b)
trunc_is (pos n) b h = down_is (pos n) b h
trunc_is (negsuc n) b h = up_is (negsuc n) b h

-- ---- order: a larger number has no smaller quotient

pub down_mono : (a c b : ℤ) → pos 0 <ℤ b → a ≤ℤ c → down a b ≤ℤ down c b
down_mono a c b h le = let one = down_is a b h in let two = down_is c b h in two.greatest (down a b) (omega (arith, ints, one.within))

pub up_mono : (a c b : ℤ) → pos 0 <ℤ b → a ≤ℤ c → up a b ≤ℤ up c b
up_mono a c b h le = let one = up_is a b h in let two = up_is c b h in one.least (up c b) (omega (arith, ints, two.enough))

-- ---- the square root

root_passes : (n : ℕ) → nat_le n (n * n) ≡ true
root_passes zero = refl
root_passes (suc n) = le-leb (suc n) (suc n * suc n) (omega arith)

root_of : (n : ℕ) → IsLeast (λ x. nat_le n (x * x)) (first_from (λ x. nat_le n (x * x)) n 0)
root_of n = least_is (λ x. nat_le n (x * x)) n (root_passes n)

-- the least x with x * x at least n is the root of n
pub IsRoot_from_least : (n x : ℕ) → IsLeast (λ y. nat_le n (y * y)) x → IsRoot (pos n) (pos x)
IsRoot_from_least n x l = record {
  not_negative = omega (arith, ints);
  enough = let h : n ≤ x * x = leb-true n (x * x) l.enough in omega (arith, ints);
  least = least_of;
}
  where
    least_of : (y : ℤ) → pos 0 ≤ℤ y → pos n ≤ℤ (y *ℤ y) → pos x ≤ℤ y
    least_of (pos m) k h = let reached : n ≤ m * m = omega (arith, ints) in let le : x ≤ m = l.least m (le-leb n (m * m) reached) in omega (arith, ints)
    least_of (negsuc m) k h = absurd k.le

pub root_is : (n : ℤ) → IsRoot n (root n)
unfolding root
root_is (pos n) = IsRoot_from_least n (first_from (λ x. nat_le n (x * x)) n 0) (root_of n)
root_is (negsuc n) = record { not_negative = omega (arith, ints); enough = omega (arith, ints); least = λ y k h. k }

pub IsRoot_unique : (n x y : ℤ) → IsRoot n x → IsRoot n y → x ≡ y
IsRoot_unique n x y p q = let one : x ≤ℤ y = p.least y q.not_negative q.enough in let two : y ≤ℤ x = q.least x p.not_negative p.enough in omega (arith, ints)

-- where the square is reached, and the square of one less is not, it is the root
pub root_between : (n r : ℕ) → n ≤ r * r → ((s : ℕ) → s < r → s * s < n) → pos r ≡ root (pos n)
root_between n r reached less =
    IsRoot_unique (pos n) (pos r) (root (pos n)) (IsRoot_from_least n r record { enough = le-leb n (r * r) reached; least = λ m t. ⊎_elim (λ below. let short : m * m < n = less m below in let long : n ≤ m * m = leb-true n (m * m) t in absurd (omega arith)) (λ above. above) (cases_lt m r) }) (root_is (pos n))

-- the root of a square is the size of the number
pub root_square : (x : ℤ) → root (x *ℤ x) ≡ pos (unsigned_abs x)
root_square x = ap root (square-abs x) ∙ sym (root_between (unsigned_abs x * unsigned_abs x) (unsigned_abs x) (le_refl (unsigned_abs x * unsigned_abs x)) (λ s h. mul-lt s s (unsigned_abs x) (unsigned_abs x) h h))

-- a larger number has no smaller root
pub root_mono : (m n : ℤ) → m ≤ℤ n → root m ≤ℤ root n
root_mono m n le = let one = root_is m in let two = root_is n in one.least (root n) two.not_negative (omega (arith, ints, two.enough))

-- ---- the same for a result that equals the function's value

pub up_from : (a b x : ℤ) → pos 0 <ℤ b → x ≡ up a b → IsUp a b x
up_from a b x h e = subst (λ z. IsUp a b z) (sym e) (up_is a b h)

pub down_from : (a b x : ℤ) → pos 0 <ℤ b → x ≡ down a b → IsDown a b x
down_from a b x h e = subst (λ z. IsDown a b z) (sym e) (down_is a b h)

pub away_from : (a b x : ℤ) → pos 0 <ℤ b → x ≡ away a b → IsAway a b x
away_from a b x h e = subst (λ z. IsAway a b z) (sym e) (away_is a b h)

pub trunc_from : (a b x : ℤ) → pos 0 <ℤ b → x ≡ trunc a b → IsTrunc a b x
trunc_from a b x h e = subst (λ z. IsTrunc a b z) (sym e) (trunc_is a b h)

pub root_from : (n x : ℤ) → x ≡ root n → IsRoot n x
root_from n x e = subst (λ z. IsRoot n z) (sym e) (root_is n)

-- ---- sizes

pub down_size : (a b : ℤ) → pos 0 <ℤ b → unsigned_abs (down a b) ≤ unsigned_abs a
down_size (pos n) (pos k) h = div-le_self n k
down_size (negsuc n) (pos k) h = suc-le-suc (div-le_self n k)
down_size a (negsuc k) h = absurd h.lt

pub up_size : (a b : ℤ) → pos 0 <ℤ b → unsigned_abs (up a b) ≤ unsigned_abs a
up_size a b h = omega (arith, unsigned_abs-neg (down (neg_ℤ a) b), down_size (neg_ℤ a) b h, unsigned_abs-neg a)

pub away_size : (a b : ℤ) → pos 0 <ℤ b → unsigned_abs (away a b) ≤ unsigned_abs a
away_size (pos n) b h = up_size (pos n) b h
away_size (negsuc n) b h = down_size (negsuc n) b h

pub trunc_size : (a b : ℤ) → pos 0 <ℤ b → unsigned_abs (trunc a b) ≤ unsigned_abs a
trunc_size (pos n) b h = down_size (pos n) b h
trunc_size (negsuc n) b h = up_size (negsuc n) b h

-- ---- the root from the square root rounded down

pub root_exact : (n r : ℕ) → r * r ≡ n → pos r ≡ root (pos n)
root_exact n r e = root_between n r (omega (arith, e)) (λ s h. let less : s * s < r * r = mul-lt s s r r h h in omega arith)

pub root_next : (n r : ℕ) → r * r ≤ n → (r * r ≡ n → ⊥) → n < (r + 1) * (r + 1) → pos (r + 1) ≡ root (pos n)
root_next n r low apart high =
    root_between n (r + 1) (le_of_lt high) (λ s h. let at_most : s ≤ r = omega arith in let square : s * s ≤ r * r = mul-le s s r r at_most at_most in let ne : r * r ≢ n = apart in omega arith)

-- towards zero the size is the quotient of the sizes
pub trunc_abs : (z : ℤ) (k : ℕ) → unsigned_abs (trunc z (pos k)) ≡ unsigned_abs z / k
trunc_abs (pos n) k = refl
trunc_abs (negsuc n) k = unsigned_abs-neg (pos (suc n / k))

-- the product of two numbers of at most one million is again at most one million, in millionths
pub correlation_size : (a b : ℤ) → unsigned_abs a ≤ 1000000 → unsigned_abs b ≤ 1000000 → unsigned_abs (trunc (a *ℤ b) (pos 1000000)) ≤ 1000000
correlation_size a b p q =
    subst (λ n. n ≤ 1000000) (sym (trunc_abs (a *ℤ b) 1000000)) (div-le_of_le-mul 1000000 (product_size a b 1000000 1000000 p q))

-- a number held between -k and k
pub clamp_size : (x : ℤ) (k : ℕ) → unsigned_abs (clamp x (pos k)) ≤ k
clamp_size x k = omega (arith, ints, clamps)

pub clamp_low : (x k : ℤ) → neg_ℤ k ≤ℤ clamp x k
clamp_low x k = omega (arith, ints, clamps)

pub clamp_high : (x k : ℤ) → pos 0 ≤ℤ k → clamp x k ≤ℤ k
clamp_high x k h = omega (arith, ints, clamps)
