-- What is called for. (ISDA 2016 Credit Support Annex for Initial Margin, paragraphs 3 and 13: Delivery Amount, Return Amount,
-- Credit Support Amount under the threshold, Minimum Transfer Amount, Rounding.)
use Rattle.std.specs.Prelude.{◌≡◌, ◌&&◌, ◌⊎◌, not, Bool, if◌then◌else◌, ℤ, pos, neg_ℤ, ◌-ℤ◌, ◌*ℤ◌, ◌≤ℤ◌, ◌<ℤ◌, int_lt, int_le}
use Rattle.std.specs.Int.{int_max}
use Rattle.std.specs.Ordering.{int_eq}
use Rattle.csa_terms.specs.MhUnits.Rounding.{up, down}
use Rattle.csa_terms.specs.Terms.{Agreement}
use Rattle.csa_calls.specs.declared.CallAmount.{CallAmount}
use Rattle.csa_calls.specs.declared.CallAmount.TheVariants.{Delivery, Return, Nothing}

-- the credit support amount: the margin above the threshold
abbrev pub credit_support : ℤ → ℤ → ℤ
credit_support margin threshold = int_max (margin -ℤ threshold) (pos 0)

-- how far the credit support amount above a threshold is above what is booked
abbrev pub excess_at : ℤ → ℤ → ℤ → ℤ
excess_at margin booked threshold = credit_support margin threshold -ℤ booked

-- the same at the agreement's threshold
abbrev pub excess : ℤ → ℤ → Agreement → ℤ
excess margin booked terms = excess_at margin booked terms.threshold

-- the least multiple of the unit not below the amount
abbrev pub multiple_up : ℤ → ℤ → ℤ
multiple_up amount unit = up amount unit *ℤ unit

-- the greatest multiple of the unit not above the amount
abbrev pub multiple_down : ℤ → ℤ → ℤ
multiple_down amount unit = down amount unit *ℤ unit

-- the excess is above zero and reaches the minimum of a delivery
abbrev pub is_delivery : ℤ → Agreement → Bool
is_delivery excess terms = int_lt (pos 0) excess && int_le terms.mta_delivery excess

-- the excess is below zero, reaches the minimum of a return, and has a multiple of the rounding in it
abbrev pub is_return : ℤ → Agreement → Bool
is_return excess terms =
    int_lt excess (pos 0) && int_le terms.mta_return (neg_ℤ excess)
    && not (int_eq (multiple_down (neg_ℤ excess) terms.rounding) (pos 0))

-- The minimum is tested before rounding: a delivery is rounded up, a return down.
abbrev pub call_for : ℤ → Agreement → CallAmount
call_for excess terms =
    if is_delivery excess terms then Delivery (multiple_up excess terms.rounding)
    else (if is_return excess terms then Return (multiple_down (neg_ℤ excess) terms.rounding) else Nothing excess)

-- the call on a margin where so much is booked, at a threshold in place of the agreement's own
abbrev pub call_of_at : ℤ → ℤ → ℤ → Agreement → CallAmount
call_of_at margin booked threshold terms = call_for (excess_at margin booked threshold) terms

-- the same at the agreement's threshold
abbrev pub call_of : ℤ → ℤ → Agreement → CallAmount
call_of margin booked terms = call_of_at margin booked terms.threshold terms

-- ---- the same as facts

-- x is a multiple of the unit, at least the amount, and no multiple at least the amount is less
pub record IsLeastMultiple (amount unit x : ℤ) : Type 0 where
  pub multiple : (times : ℤ) × (x ≡ times *ℤ unit)
  pub enough : amount ≤ℤ x
  pub least : (times : ℤ) → amount ≤ℤ (times *ℤ unit) → x ≤ℤ (times *ℤ unit)

-- x is a multiple of the unit, at most the amount, and no multiple at most the amount is greater
pub record IsGreatestMultiple (amount unit x : ℤ) : Type 0 where
  pub multiple : (times : ℤ) × (x ≡ times *ℤ unit)
  pub within : x ≤ℤ amount
  pub greatest : (times : ℤ) → (times *ℤ unit) ≤ℤ amount → (times *ℤ unit) ≤ℤ x

pub record IsDelivery (excess : ℤ) (terms : Agreement) (amount : ℤ) : Type 0 where
  pub above : pos 0 <ℤ excess
  pub minimum : terms.mta_delivery ≤ℤ excess
  pub rounded : IsLeastMultiple excess terms.rounding amount

pub record IsReturn (excess : ℤ) (terms : Agreement) (amount : ℤ) : Type 0 where
  pub below : excess <ℤ pos 0
  pub minimum : terms.mta_return ≤ℤ neg_ℤ excess
  pub rounded : IsGreatestMultiple (neg_ℤ excess) terms.rounding amount
  pub some : pos 0 <ℤ amount

-- no call: what is missing stays below the minimum of a delivery, what is too much below that of a return or below the unit
pub record IsNoCall (excess : ℤ) (terms : Agreement) (shown : ℤ) : Type 0 where
  pub whole : shown ≡ excess
  pub no_delivery : pos 0 <ℤ excess → excess <ℤ terms.mta_delivery
  pub no_return : excess <ℤ pos 0 → (neg_ℤ excess <ℤ terms.mta_return) ⊎ (neg_ℤ excess <ℤ terms.rounding)

abbrev pub IsCallFor : ℤ → Agreement → CallAmount → Type 0
IsCallFor excess terms (Delivery amount) = IsDelivery excess terms amount
IsCallFor excess terms (Return amount) = IsReturn excess terms amount
IsCallFor excess terms (Nothing shown) = IsNoCall excess terms shown

-- from 1 to this many cents
pub record IsAmountUpTo (most amount : ℤ) : Type 0 where
  pub low : pos 1 ≤ℤ amount
  pub high : amount ≤ℤ most

-- the amount of a call is from 1 to this many cents
abbrev pub AmountUpTo : ℤ → CallAmount → Type 0
AmountUpTo most (Delivery amount) = IsAmountUpTo most amount
AmountUpTo most (Return amount) = IsAmountUpTo most amount
AmountUpTo most (Nothing shown) = Unit {0}
