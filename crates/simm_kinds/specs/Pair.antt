-- Pairs of currencies, the sensitivity to whose exchange rate's volatility is one risk factor.
use Rattle.std.specs.Prelude.{ℕ, List, length, take, drop, Option, Some, None, option_and_then, Bool, ◌&&◌, ◌==◌, if◌then◌else◌}
use Rattle.simm_kinds.specs.NameText.{is_currency}
use Rattle.simm_kinds.specs.NameOrder.{comes_before}
use Rattle.simm_kinds.specs.Currency.{currency_text}

-- Two different currencies, of which the first comes first in the alphabet.
pub record Pair : Type 0 where
  pub first : List ℕ
  pub second : List ℕ

abbrev pub is_pair : Pair → Bool
is_pair p = is_currency p.first && is_currency p.second && comes_before p.first p.second

-- the pair of two currencies in either order; none of one and the same
abbrev pub pair_of : List ℕ → List ℕ → Option Pair
pair_of a b =
    if comes_before a b then Some (record { first = a; second = b })
    else if comes_before b a then Some (record { first = b; second = a })
    else None

-- six letters in either case, three for each currency
abbrev pub pair_named : List ℕ → Option Pair
pair_named text =
    if length text == 6 then option_and_then (λ a. option_and_then (λ b. pair_of a b) (currency_text (drop 3 text))) (currency_text (take 3 text))
    else None
