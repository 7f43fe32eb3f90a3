-- The numbers from a least one to a greatest one.
use Rattle.std.specs.Prelude.{◌^◌, Bool, ◌&&◌, ℤ, pos, int_le, ◌≤ℤ◌}
use Rattle.toml_values.specs.declared.range.Range.{Range}

abbrev pub is_within : Range → ℤ → Bool
is_within range n = int_le range.least n && int_le n range.most

pub record IsWithin (range : Range) (n : ℤ) : Type 0 where
  pub low : range.least ≤ℤ n
  pub high : n ≤ℤ range.most

-- whole dollars, as a file has them, and the same in cents
abbrev pub dollars : Range
dollars = record { least = pos 1; most = pos (10 ^ 13) }

abbrev pub dollars_in_cents : Range
dollars_in_cents = record { least = pos 100; most = pos (10 ^ 15) }
