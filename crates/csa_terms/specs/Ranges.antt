-- The ranges of the numbers in a terms file.
use Rattle.std.specs.Prelude.{◌^◌, pos}
use Rattle.toml_values.specs.declared.range.Range.{Range}
pub use Rattle.toml_values.specs.Ranges.{IsWithin}

-- an amount, in cents
abbrev pub amounts : Range
amounts = record { least = pos 0; most = pos (10 ^ 15) }

-- a unit of rounding, in cents
abbrev pub units : Range
units = record { least = pos 1; most = pos (10 ^ 12) }

-- a haircut, in ten-thousandths
abbrev pub shares : Range
shares = record { least = pos 0; most = pos 10000 }
