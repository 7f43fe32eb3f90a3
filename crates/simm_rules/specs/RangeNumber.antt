-- The number of each kind of range in printed text.
use Rattle.std.specs.Prelude.{ℕ}
use Rattle.simm_rules.specs.declared.values.RangeKind.{RangeKind}
use Rattle.simm_rules.specs.declared.values.RangeKind.TheVariants as kind

abbrev pub range_number : RangeKind → ℕ
range_number kind.RowCount = 1
range_number kind.KeyCount = 2
range_number kind.BucketKeys = 3
range_number kind.DeltaGross = 4
range_number kind.VegaGross = 5
