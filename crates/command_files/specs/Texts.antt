-- What putting a text out does.
use Rattle.std.specs.Prelude.{ℕ, List}
use Rattle.mh_io.specs.Sink.{SinkSeen}
use Rattle.command_files.specs.declared.texts.Printed.{Printed}
use Rattle.command_files.specs.declared.texts.Printed.TheVariants as printed
use Rattle.command_files.specs.Printed.{Got, GotFront}

abbrev pub TextGoes : List ℕ → SinkSeen → SinkSeen → Printed → Type 0
TextGoes text old new printed.Whole = Got old new text
TextGoes text old new printed.Cut = GotFront old new text
