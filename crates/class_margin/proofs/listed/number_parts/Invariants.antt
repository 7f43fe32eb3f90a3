use Rattle.std.proofs.Common.{take}
use Rattle.class_margin.specs.names_delta.Combine.{listed_in}
use Rattle.class_margin.proofs.names_delta.Parts.{HaveBeenNumbered}
use Rattle.class_margin.proofs.listed.number_parts.Given as goal

abbrev pub invariant-loop-part : goal.invariant-loop-part
invariant-loop-part l = HaveBeenNumbered (listed_in l.params l.class) (take l.part-index l.parts) l.margins.items l.places.items
