-- Printed rates.
use Rattle.std.specs.Prelude.{ℕ, suc, ◌/◌, ◌%◌, List, ◌++◌, ℤ, pos, negsuc, codes, decimal}

-- the last four digits of a number, leading zeros and all
abbrev pub four_digits : ℕ → List ℕ
four_digits n = decimal (n % 10000 / 1000) ++ (decimal (n % 1000 / 100) ++ (decimal (n % 100 / 10) ++ decimal (n % 10)))

-- ten-thousandths: whole units without leading zeros, a point, and four digits
abbrev pub size_text : ℕ → List ℕ
size_text n = decimal (n / 10000) ++ (codes "." ++ four_digits n)

-- with a minus below zero
unfoldable pub rate_text : ℤ → List ℕ
rate_text (pos n) = size_text n
rate_text (negsuc n) = codes "-" ++ size_text (suc n)
