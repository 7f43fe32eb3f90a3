-- The numbers of buckets, and their words.
use Rattle.std.specs.Prelude.{ℕ, ◌+◌, ◌-◌, ◌*◌, List, [], ◌∷◌, Option, Some, None, Bool, ◌&&◌, nat_le, if◌then◌else◌}

-- buckets are numbered from 1 to 64 at most
abbrev pub is_bucket_number : ℕ → Bool
is_bucket_number n = nat_le 1 n && nat_le n 64

-- a digit that a number may begin with
abbrev pub is_first_digit : ℕ → Bool
is_first_digit b = nat_le 49 b && nat_le b 57

abbrev pub is_digit : ℕ → Bool
is_digit b = nat_le 48 b && nat_le b 57

abbrev pub bucket_numbered : ℕ → Option ℕ
bucket_numbered n = if is_bucket_number n then Some n else None

-- a decimal from 1 to 64 without a leading zero
abbrev pub bucket_number_named : List ℕ → Option ℕ
bucket_number_named [] = None
bucket_number_named (a ∷ []) = if is_first_digit a then bucket_numbered (a - 48) else None
bucket_number_named (a ∷ b ∷ []) = if is_first_digit a && is_digit b then bucket_numbered ((a - 48) * 10 + (b - 48)) else None
bucket_number_named (a ∷ b ∷ c ∷ more) = None
