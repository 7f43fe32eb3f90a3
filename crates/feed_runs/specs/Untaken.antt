-- Lines of which nothing was taken yet.
use Rattle.std.specs.Prelude.{[]}
use Rattle.mh_io.specs.Lined.{Lined}
use Rattle.mh_io.specs.declared.lines_answer.Supply.TheVariants as supply

abbrev pub fresh : {S : Type 0} → S → Lined S
fresh source = record { source = source; pending = []; passed = 0; given = 0; supply = supply.Open }
