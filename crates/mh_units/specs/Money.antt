-- Printed amounts of money.
use Rattle.std.specs.Prelude.{ℕ, suc, ◌/◌, ◌%◌, List, ◌++◌, ℤ, pos, negsuc, codes, decimal}

-- whole units without leading zeros, a point, and two digits: the tens and the ones
abbrev pub amount_text : ℕ → List ℕ
amount_text cents = decimal (cents / 100) ++ (codes "." ++ (decimal (cents % 100 / 10) ++ decimal (cents % 10)))

-- the cents as an amount of money, with a minus below zero
unfoldable pub money_text : ℤ → List ℕ
money_text (pos cents) = amount_text cents
money_text (negsuc cents) = codes "-" ++ amount_text (suc cents)
