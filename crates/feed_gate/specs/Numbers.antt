-- The number of each refused message in printed text.
use Rattle.std.specs.Prelude.{ℕ}
use Rattle.feed_gate.specs.declared.report.RefusedMessage.{RefusedMessage}
use Rattle.feed_gate.specs.declared.report.RefusedMessage.TheVariants as refused

abbrev pub refused_number : RefusedMessage → ℕ
refused_number (refused.BadLine line) = 1
refused_number (refused.UnknownSet line) = 2
refused_number (refused.BadBatch line fault) = 3
refused_number (refused.Full line set entries rows) = 4
refused_number (refused.BadTables line fault) = 5
refused_number (refused.LongTables line bytes) = 6
