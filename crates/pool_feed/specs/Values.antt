-- A pool's feed: the amounts that single fields are.
use Rattle.std.specs.Prelude.{ℕ, List, Option, Some, None, ℤ, pos, int_lt, unsigned_abs, if◌then◌else◌}
use Rattle.feed_reader.specs.Fields.{◌>>=◌}
use Rattle.feed_reader.specs.Values.{amount}

abbrev pub from_zero : ℤ → Option ℤ
from_zero cents = if int_lt cents (pos 0) then None else Some cents

abbrev pub from_one : ℤ → Option ℕ
from_one cents = if int_lt cents (pos 1) then None else Some (unsigned_abs cents)

-- the cents of a numeral that isn't negative
abbrev pub margin : List ℕ → Option ℤ
margin field = amount field >>= from_zero

-- the cents of a numeral of at least one cent
abbrev pub some_amount : List ℕ → Option ℕ
some_amount field = amount field >>= from_one
