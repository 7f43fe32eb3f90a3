use Rattle.std.proofs.Common.{◌≡◌, ◌+◌, drop}
use Rattle.mh_units.specs.Scan.{scan, reach}
use Rattle.mh_units.specs.declared.scan.Phase.TheVariants.{Start}
use Rattle.mh_units.proofs.scan.check.Given as goal

-- the rest of the text leads from this phase to where the whole text leads, and reaches as far
abbrev pub invariant-loop-place : goal.invariant-loop-place
invariant-loop-place l = record {
  same_end : scan l.phase (drop l.place l.text) ≡ scan Start l.text;
  same_reach : l.place + reach l.phase (drop l.place l.text) ≡ reach Start l.text;
}
