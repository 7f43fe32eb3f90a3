-- The rule of calls as facts: what its tests mean, that each answer is what it says, and the size of an amount.
use Rattle.std.proofs.Common.{◌≡◌, ◌+◌, ◌^◌, ◌⊎◌, inl, inr, ◌&&◌, Bool, true, false, not, if◌then◌else◌, ℤ, pos, neg_ℤ, ◌+ℤ◌, ◌≤ℤ◌, ◌<ℤ◌, int_lt, int_le, unsigned_abs, refl, sym, ap, ◌∙◌, subst, arith}
use Rattle.std.proofs.lemmas.Int.{ints, clamps, by_lt_z}
use Rattle.std.proofs.lemmas.Bool.{false≢true, and_parts}
use Rattle.std.specs.Int.{int_max}
use Rattle.std.specs.Ordering.{int_eq}
use Rattle.std.specs.Cmp.{signed_Decides}
use Rattle.csa_terms.specs.Terms.{Agreement, IsRounding}
use Rattle.csa_calls.specs.declared.CallAmount.{CallAmount}
use Rattle.csa_calls.specs.declared.CallAmount.TheVariants.{Delivery, Return, Nothing}
use Rattle.csa_calls.specs.CallRule.{multiple_up, multiple_down, is_delivery, is_return, call_for, IsCallFor, AmountUpTo}
use Rattle.csa_calls.proofs.Multiples.{multiple_up_is, multiple_up-lt, multiple_down_is, multiple_down-from_zero, below_unit, below_none}

-- ---- what the tests mean

lt_from : (a b : ℤ) → int_lt a b ≡ true → a <ℤ b
lt_from a b h = grind (arith, ints)

lt_not : (a b : ℤ) → int_lt a b ≡ false → b ≤ℤ a
lt_not a b h = grind (arith, ints)

le_from : (a b : ℤ) → int_le a b ≡ true → a ≤ℤ b
le_from a b h = grind (arith, ints)

le_not : (a b : ℤ) → int_le a b ≡ false → b <ℤ a
le_not a b h = grind (arith, ints)

lt_test : (a b : ℤ) → a <ℤ b → int_lt a b ≡ true
lt_test a b h = grind (arith, ints)

le_test : (a b : ℤ) → a ≤ℤ b → int_le a b ≡ true
le_test a b h = grind (arith, ints)

not_lt : (a b : ℤ) → b ≤ℤ a → int_lt a b ≡ false
not_lt a b h = grind (arith, ints)

gt_test : (a b : ℤ) → b <ℤ a → int_le a b ≡ false
gt_test a b h = grind (arith, ints)

-- an amount has a multiple of the unit in it where it reaches the unit
pub some_multiple : (a u : ℤ) → pos 1 ≤ℤ u → pos 0 ≤ℤ a → not (int_eq (multiple_down a u) (pos 0)) ≡ int_le u a
some_multiple a u some low = by (int_eq (multiple_down a u) (pos 0)) refl
  where
    by : (b : Bool) → int_eq (multiple_down a u) (pos 0) ≡ b → not b ≡ int_le u a
    by true e = sym (gt_test u a (below_unit a u some ((signed_Decides (multiple_down a u) (pos 0)).0 e)))
    by false e = by_lt_z {P = true ≡ int_le u a} a u
        (λ below. absurd (false≢true (sym e ∙ (signed_Decides (multiple_down a u) (pos 0)).1 (below_none a u some low below))))
        (λ above. sym (le_test u a above))

is_return-by_unit : (e : ℤ) (t : Agreement) → IsRounding t.rounding → e <ℤ pos 0 → is_return e t ≡ (int_lt e (pos 0) && int_le t.mta_return (neg_ℤ e) && int_le t.rounding (neg_ℤ e))
is_return-by_unit e t unit below = ap (λ b. int_lt e (pos 0) && int_le t.mta_return (neg_ℤ e) && b) (some_multiple (neg_ℤ e) t.rounding unit.low (omega (arith, ints)))

-- what is too much reaches two bounds where it reaches the greater
le_both : (m u s : ℤ) → (int_le m s && int_le u s) ≡ int_le (int_max m u) s
le_both m u s = by (int_le m s) (int_le u s) refl refl
  where
    by : (a b : Bool) → int_le m s ≡ a → int_le u s ≡ b → (a && b) ≡ int_le (int_max m u) s
    by false b m-is u-is = sym (gt_test (int_max m u) s (omega (arith, ints, clamps, le_not m s m-is)))
    by true false m-is u-is = sym (gt_test (int_max m u) s (omega (arith, ints, clamps, le_not u s u-is)))
    by true true m-is u-is = sym (le_test (int_max m u) s (omega (arith, ints, clamps, le_from m s m-is, le_from u s u-is)))

is_return-by_greater : (e : ℤ) (t : Agreement) → IsRounding t.rounding → is_return e t ≡ int_le (int_max t.mta_return t.rounding) (neg_ℤ e)
is_return-by_greater e t unit = by_lt_z {P = is_return e t ≡ int_le (int_max t.mta_return t.rounding) (neg_ℤ e)} e (pos 0)
    (λ below. is_return-by_unit e t unit below ∙ ap (λ b. b && int_le t.mta_return (neg_ℤ e) && int_le t.rounding (neg_ℤ e)) (lt_test e (pos 0) below) ∙ le_both t.mta_return t.rounding (neg_ℤ e))
    (λ above. ap (λ b. b && int_le t.mta_return (neg_ℤ e) && not (int_eq (multiple_down (neg_ℤ e) t.rounding) (pos 0))) (not_lt e (pos 0) above) ∙ sym (gt_test (int_max t.mta_return t.rounding) (neg_ℤ e) (omega (arith, ints, clamps, unit.low))))

pub return_test : (e x s : ℤ) (t : Agreement) → IsRounding t.rounding → x ≡ int_max t.mta_return t.rounding → s ≡ neg_ℤ e → int_le x s ≡ is_return e t
return_test e x s t unit x-is s-is = ap (λ y. int_le y s) x-is ∙ ap (int_le (int_max t.mta_return t.rounding)) s-is ∙ sym (is_return-by_greater e t unit)

pub return_of : (e s x : ℤ) (t : Agreement) → s ≡ neg_ℤ e → x ≡ multiple_down s t.rounding → is_delivery e t ≡ false → is_return e t ≡ true → Return x ≡ call_for e t
return_of e s x t s-is x-is refused called =
    ap Return (x-is ∙ ap (λ z. multiple_down z t.rounding) s-is)
    ∙ sym (ap (λ b. if b then Return (multiple_down (neg_ℤ e) t.rounding) else Nothing e) called)
    ∙ sym (ap (λ b. if b then Delivery (multiple_up e t.rounding) else (if is_return e t then Return (multiple_down (neg_ℤ e) t.rounding) else Nothing e)) refused)

-- ---- each answer is what it says

-- what is returned is some
some_returned : (e : ℤ) (t : Agreement) → IsRounding t.rounding → e <ℤ pos 0 → not (int_eq (multiple_down (neg_ℤ e) t.rounding) (pos 0)) ≡ true → pos 0 <ℤ multiple_down (neg_ℤ e) t.rounding
some_returned e t unit below h = by (multiple_down (neg_ℤ e) t.rounding) (multiple_down-from_zero (neg_ℤ e) t.rounding unit.low (omega (arith, ints))) h
  where
    by : (x : ℤ) → pos 0 ≤ℤ x → not (int_eq x (pos 0)) ≡ true → pos 0 <ℤ x
    by x from k = by_lt_z {P = pos 0 <ℤ x} (pos 0) x (λ more. more) (λ most. let none : x ≡ pos 0 = omega (arith, ints) in absurd (false≢true (sym (ap not ((signed_Decides x (pos 0)).1 none)) ∙ k)))

no_delivery : (e : ℤ) (t : Agreement) → is_delivery e t ≡ false → pos 0 <ℤ e → e <ℤ t.mta_delivery
no_delivery e t h above = by (int_le t.mta_delivery e) refl
  where
    by : (b : Bool) → int_le t.mta_delivery e ≡ b → e <ℤ t.mta_delivery
    by true b = absurd (false≢true (sym h ∙ ap (λ s. s && int_le t.mta_delivery e) (lt_test (pos 0) e above) ∙ b))
    by false b = le_not t.mta_delivery e b

no_return : (e : ℤ) (t : Agreement) → IsRounding t.rounding → is_return e t ≡ false → e <ℤ pos 0 → (neg_ℤ e <ℤ t.mta_return) ⊎ (neg_ℤ e <ℤ t.rounding)
no_return e t unit h below = by (int_le t.mta_return (neg_ℤ e)) (int_le t.rounding (neg_ℤ e)) refl refl
  where
    by : (m u : Bool) → int_le t.mta_return (neg_ℤ e) ≡ m → int_le t.rounding (neg_ℤ e) ≡ u → (neg_ℤ e <ℤ t.mta_return) ⊎ (neg_ℤ e <ℤ t.rounding)
    by false u m-is u-is = inl (le_not t.mta_return (neg_ℤ e) m-is)
    by true false m-is u-is = inr (le_not t.rounding (neg_ℤ e) u-is)
    by true true m-is u-is = absurd (false≢true (sym h ∙ is_return-by_unit e t unit below ∙ ap (λ s. s && int_le t.mta_return (neg_ℤ e) && int_le t.rounding (neg_ℤ e)) (lt_test e (pos 0) below) ∙ ap (λ m. m && int_le t.rounding (neg_ℤ e)) m-is ∙ u-is))

pub call_for_is : (e : ℤ) (t : Agreement) → IsRounding t.rounding → IsCallFor e t (call_for e t)
call_for_is e t unit = by (is_delivery e t) (is_return e t) refl refl
  where
    by : (d r : Bool) → is_delivery e t ≡ d → is_return e t ≡ r → IsCallFor e t (if d then Delivery (multiple_up e t.rounding) else (if r then Return (multiple_down (neg_ℤ e) t.rounding) else Nothing e))
    by true r d-is r-is =
        let parts = and_parts (int_lt (pos 0) e) (int_le t.mta_delivery e) d-is in
        record { above = lt_from (pos 0) e parts.0; minimum = le_from t.mta_delivery e parts.1; rounded = multiple_up_is e t.rounding unit.low }
    by false true d-is r-is =
        let both = and_parts (int_lt e (pos 0) && int_le t.mta_return (neg_ℤ e)) (not (int_eq (multiple_down (neg_ℤ e) t.rounding) (pos 0))) r-is in
        let parts = and_parts (int_lt e (pos 0)) (int_le t.mta_return (neg_ℤ e)) both.0 in
        let below = lt_from e (pos 0) parts.0 in
        record { below = below; minimum = le_from t.mta_return (neg_ℤ e) parts.1; rounded = multiple_down_is (neg_ℤ e) t.rounding unit.low; some = some_returned e t unit below both.1 }
    by false false d-is r-is = record { whole = refl; no_delivery = no_delivery e t d-is; no_return = no_return e t unit r-is }

-- ---- amounts

pub call_for_amount : (e most : ℤ) (t : Agreement) → IsRounding t.rounding → (pos (unsigned_abs e) +ℤ pos (10 ^ 12)) ≤ℤ most → AmountUpTo most (call_for e t)
call_for_amount e most t unit room = by (is_delivery e t) (is_return e t) refl refl
  where
    by : (d r : Bool) → is_delivery e t ≡ d → is_return e t ≡ r → AmountUpTo most (if d then Delivery (multiple_up e t.rounding) else (if r then Return (multiple_down (neg_ℤ e) t.rounding) else Nothing e))
    by true r d-is r-is =
        let parts = and_parts (int_lt (pos 0) e) (int_le t.mta_delivery e) d-is in
        let above = lt_from (pos 0) e parts.0 in
        let rule = multiple_up_is e t.rounding unit.low in
        let next = multiple_up-lt e t.rounding unit.low in
        record { low = omega (arith, ints, rule.enough); high = omega (arith, ints, unit.high) }
    by false true d-is r-is =
        let both = and_parts (int_lt e (pos 0) && int_le t.mta_return (neg_ℤ e)) (not (int_eq (multiple_down (neg_ℤ e) t.rounding) (pos 0))) r-is in
        let parts = and_parts (int_lt e (pos 0)) (int_le t.mta_return (neg_ℤ e)) both.0 in
        let below = lt_from e (pos 0) parts.0 in
        let rule = multiple_down_is (neg_ℤ e) t.rounding unit.low in
        let some = some_returned e t unit below both.1 in
        record { low = omega (arith, ints); high = omega (arith, ints, unit.high, rule.within) }
    by false false d-is r-is = tt

-- ---- the same of an answer that equals the rule's

pub call_rule_from : (e : ℤ) (t : Agreement) (call : CallAmount) → IsRounding t.rounding → call ≡ call_for e t → IsCallFor e t call
call_rule_from e t call unit is = subst (IsCallFor e t) (sym is) (call_for_is e t unit)

pub call_amount_from : (e x margin booked : ℤ) (t : Agreement) (call : CallAmount) → IsRounding t.rounding → x ≡ e → pos (unsigned_abs x) ≤ℤ (margin +ℤ pos (unsigned_abs booked)) → call ≡ call_for e t → AmountUpTo (margin +ℤ pos (unsigned_abs booked + 10 ^ 12)) call
call_amount_from e x margin booked t call unit same size is =
    let sized : pos (unsigned_abs e) ≤ℤ (margin +ℤ pos (unsigned_abs booked)) = subst (λ z. pos (unsigned_abs z) ≤ℤ (margin +ℤ pos (unsigned_abs booked))) same size in
    subst (AmountUpTo (margin +ℤ pos (unsigned_abs booked + 10 ^ 12))) (sym is) (call_for_amount e (margin +ℤ pos (unsigned_abs booked + 10 ^ 12)) t unit (omega (arith, ints)))
