-- Laws of the integers that std has not: products regrouped, spread over sums and under the order, and sizes.
use Rattle.std.proofs.Common.{◌≡◌, ℕ, zero, suc, ◌+◌, ◌*◌, ◌≤◌, ℤ, pos, negsuc, neg_ℤ, ◌+ℤ◌, ◌-ℤ◌, ◌*ℤ◌, ◌≤ℤ◌, ◌<ℤ◌, unsigned_abs, FitsSigned, refl, sym, ap, ◌∙◌, subst, arith, mul_assoc, mul-le-mul_right, mul-le-mul_left}
use Rattle.std.proofs.Math.IntN.{+ℤ_idl, *ℤ_comm, zero-*ℤ, pred_ℤ, suc_ℤ-+ℤ, pred_ℤ-+ℤ, suc_ℤ-*ℤ, pred_ℤ-*ℤ, neg_ℤ-neg_ℤ}
use Rattle.std.proofs.lemmas.Int.{ints, to_z-of_z, unsigned_abs-mul, by_lt_z}
use Rattle.std.specs.Int.{w64, w128, cast_signed, cast_unsigned}

-- ---- a number passed to a call and back

pub same128 : (z : ℤ) → FitsSigned w128 z → cast_signed w128 (cast_unsigned w128 z) ≡ z
same128 z fits = to_z-of_z w128 z fits

pub same64 : (z : ℤ) → FitsSigned w64 z → cast_signed w64 (cast_unsigned w64 z) ≡ z
same64 z fits = to_z-of_z w64 z fits

-- ---- products

pub neg-mul : (a b : ℤ) → neg_ℤ a *ℤ b ≡ neg_ℤ (a *ℤ b)
neg-mul (pos zero) b = zero-*ℤ b ∙ sym (ap neg_ℤ (zero-*ℤ b))
neg-mul (pos (suc n)) (pos m) = refl
neg-mul (pos (suc n)) (negsuc m) = sym (neg_ℤ-neg_ℤ (pos (suc n * suc m)))
neg-mul (negsuc n) (pos m) = sym (neg_ℤ-neg_ℤ (pos (suc n * m)))
neg-mul (negsuc n) (negsuc m) = refl

pub mul-neg : (a b : ℤ) → a *ℤ neg_ℤ b ≡ neg_ℤ (a *ℤ b)
mul-neg a b = *ℤ_comm a (neg_ℤ b) ∙ neg-mul b a ∙ ap neg_ℤ (*ℤ_comm b a)

assoc_third : (a b : ℕ) (c : ℤ) → (pos a *ℤ pos b) *ℤ c ≡ pos a *ℤ (pos b *ℤ c)
assoc_third a b (pos c) = ap pos (mul_assoc a b c)
assoc_third a b (negsuc c) =
    ap (λ n. neg_ℤ (pos n)) (mul_assoc a b (suc c)) ∙ sym (mul-neg (pos a) (pos (b * suc c)))

assoc_second : (a : ℕ) (b c : ℤ) → (pos a *ℤ b) *ℤ c ≡ pos a *ℤ (b *ℤ c)
assoc_second a (pos b) c = assoc_third a b c
assoc_second a (negsuc b) c =
    neg-mul (pos (a * suc b)) c ∙ ap neg_ℤ (assoc_third a (suc b) c) ∙ sym (mul-neg (pos a) (pos (suc b) *ℤ c)) ∙ ap (λ z. pos a *ℤ z) (sym (neg-mul (pos (suc b)) c))

pub mul_assoc_ℤ : (a b c : ℤ) → (a *ℤ b) *ℤ c ≡ a *ℤ (b *ℤ c)
mul_assoc_ℤ (pos a) b c = assoc_second a b c
mul_assoc_ℤ (negsuc a) b c =
    ap (λ z. z *ℤ c) (neg-mul (pos (suc a)) b) ∙ neg-mul (pos (suc a) *ℤ b) c ∙ ap neg_ℤ (assoc_second (suc a) b c) ∙ sym (neg-mul (pos (suc a)) (b *ℤ c))

-- the middle two factors of four change places
pub mul_regroup : (a b c d : ℤ) → (a *ℤ b) *ℤ (c *ℤ d) ≡ (a *ℤ c) *ℤ (b *ℤ d)
mul_regroup a b c d =
    mul_assoc_ℤ a b (c *ℤ d) ∙ ap (λ z. a *ℤ z) (sym (mul_assoc_ℤ b c d) ∙ ap (λ z. z *ℤ d) (*ℤ_comm b c) ∙ mul_assoc_ℤ c b d) ∙ sym (mul_assoc_ℤ a c (b *ℤ d))

-- ---- products and sums

pub add-mul_ℤ : (a b c : ℤ) → (a +ℤ b) *ℤ c ≡ a *ℤ c +ℤ b *ℤ c
add-mul_ℤ (pos zero) b c = ap (λ z. z *ℤ c) (+ℤ_idl b) ∙ sym (ap (λ z. z +ℤ b *ℤ c) (zero-*ℤ c) ∙ +ℤ_idl (b *ℤ c))
add-mul_ℤ (pos (suc n)) b c =
    ap (λ z. z *ℤ c) (suc_ℤ-+ℤ (pos n) b) ∙ suc_ℤ-*ℤ (pos n +ℤ b) c ∙ omega (arith, ints, add-mul_ℤ (pos n) b c, suc_ℤ-*ℤ (pos n) c)
add-mul_ℤ (negsuc zero) b c =
    ap (λ z. z *ℤ c) (pred_ℤ-+ℤ (pos zero) b ∙ ap pred_ℤ (+ℤ_idl b)) ∙ pred_ℤ-*ℤ b c ∙ omega (arith, ints, pred_ℤ-*ℤ (pos zero) c, zero-*ℤ c)
add-mul_ℤ (negsuc (suc n)) b c =
    ap (λ z. z *ℤ c) (pred_ℤ-+ℤ (negsuc n) b) ∙ pred_ℤ-*ℤ (negsuc n +ℤ b) c ∙ omega (arith, ints, add-mul_ℤ (negsuc n) b c, pred_ℤ-*ℤ (negsuc n) c)

pub mul-add_ℤ : (a b c : ℤ) → a *ℤ (b +ℤ c) ≡ a *ℤ b +ℤ a *ℤ c
mul-add_ℤ a b c = *ℤ_comm a (b +ℤ c) ∙ add-mul_ℤ b c a ∙ ap (λ z. z +ℤ c *ℤ a) (*ℤ_comm b a) ∙ ap (λ z. a *ℤ b +ℤ z) (*ℤ_comm c a)

pub sub-mul_ℤ : (a b c : ℤ) → (a -ℤ b) *ℤ c ≡ a *ℤ c -ℤ b *ℤ c
sub-mul_ℤ a b c = add-mul_ℤ a (neg_ℤ b) c ∙ ap (λ z. a *ℤ c +ℤ z) (neg-mul b c)

pub mul-sub_ℤ : (a b c : ℤ) → a *ℤ (b -ℤ c) ≡ a *ℤ b -ℤ a *ℤ c
mul-sub_ℤ a b c = mul-add_ℤ a b (neg_ℤ c) ∙ ap (λ z. a *ℤ b +ℤ z) (mul-neg a c)

-- ---- products and the order

pub mul-le_ℤ : (a b : ℤ) (k : ℕ) → a ≤ℤ b → (a *ℤ pos k) ≤ℤ (b *ℤ pos k)
mul-le_ℤ (pos a) (pos b) k h = let le : a ≤ b = omega (arith, ints) in let prod : a * k ≤ b * k = mul-le-mul_right k le in omega (arith, ints)
mul-le_ℤ (pos a) (negsuc b) k h = absurd h.le
mul-le_ℤ (negsuc a) (pos b) k h = omega (arith, ints)
mul-le_ℤ (negsuc a) (negsuc b) k h = let le : suc b ≤ suc a = omega (arith, ints) in let prod : suc b * k ≤ suc a * k = mul-le-mul_right k le in omega (arith, ints)

-- y is at most q where its product stays below the next multiple
pub below_next : (y q a : ℤ) (k : ℕ) → (y *ℤ pos k) ≤ℤ a → a <ℤ ((q +ℤ pos 1) *ℤ pos k) → y ≤ℤ q
below_next y q a k under over =
    by_lt_z {P = y ≤ℤ q} q y (λ above. let next : (q +ℤ pos 1) ≤ℤ y = omega (arith, ints) in let far : ((q +ℤ pos 1) *ℤ pos k) ≤ℤ (y *ℤ pos k) = mul-le_ℤ (q +ℤ pos 1) y k next in absurd (omega (arith, ints))) (λ h. h)

-- the square of an integer is that of its size
pub square-abs : (x : ℤ) → x *ℤ x ≡ pos (unsigned_abs x * unsigned_abs x)
square-abs (pos n) = refl
square-abs (negsuc n) = refl

-- ---- sizes

pub unsigned_abs-neg : (a : ℤ) → unsigned_abs (neg_ℤ a) ≡ unsigned_abs a
unsigned_abs-neg (pos zero) = refl
unsigned_abs-neg (pos (suc n)) = refl
unsigned_abs-neg (negsuc n) = refl

pub unsigned_abs-add : (a b : ℤ) → unsigned_abs (a +ℤ b) ≤ unsigned_abs a + unsigned_abs b
unsigned_abs-add a b = omega (arith, ints)

pub unsigned_abs-sub : (a b : ℤ) → unsigned_abs (a -ℤ b) ≤ unsigned_abs a + unsigned_abs b
unsigned_abs-sub a b = omega (arith, ints)

-- a product is no larger than the product of the bounds
pub product_size : (a b : ℤ) (m n : ℕ) → unsigned_abs a ≤ m → unsigned_abs b ≤ n → unsigned_abs (a *ℤ b) ≤ m * n
product_size a b m n p q = subst (λ k. k ≤ m * n) (sym (unsigned_abs-mul a b)) (size_le (unsigned_abs a) (unsigned_abs b) m n p q)
  where
    size_le : (x y m n : ℕ) → x ≤ m → y ≤ n → x * y ≤ m * n
    size_le x y m n p q = omega (arith, mul-le-mul_right y p, mul-le-mul_left m q)

-- bounds on both sides are a bound on the size
pub size_from_bounds : (z : ℤ) (n : ℕ) → neg_ℤ (pos n) ≤ℤ z → z ≤ℤ pos n → unsigned_abs z ≤ n
size_from_bounds z n low high = omega (arith, ints)

pub bounds_from_size : (z : ℤ) (n : ℕ) → unsigned_abs z ≤ n → (neg_ℤ (pos n) ≤ℤ z) × (z ≤ℤ pos n)
bounds_from_size z n h = (omega (arith, ints), omega (arith, ints))
