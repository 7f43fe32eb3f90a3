-- The parts of a margin, wherever they stand.
use Rattle.bucket_cache.specs.SimmRules.declared.values.Breakdown.{Breakdown}
use Rattle.set_core.specs.declared.shared_margin.Home.{Home}
use Rattle.set_core.specs.declared.shared_margin.Home.TheVariants as home

abbrev pub parts_in : Home → Breakdown
parts_in (home.Shared parts) = parts.value
parts_in (home.Own parts) = parts.value
