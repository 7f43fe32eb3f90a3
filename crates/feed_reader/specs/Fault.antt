-- The own number of each fault of a feed. Want of memory has none.
use Rattle.std.specs.Prelude.{ℕ, Option, Some, None}
use Rattle.feed_reader.specs.declared.fault.FeedFault.{FeedFault}
use Rattle.feed_reader.specs.declared.fault.FeedFault.TheVariants as fault

abbrev pub feed_fault_number : FeedFault → Option ℕ
feed_fault_number (fault.BadLine line) = Some 1
feed_fault_number (fault.Cut line) = Some 2
feed_fault_number (fault.LineLong line) = Some 3
feed_fault_number (fault.TooLong taken) = Some 4
feed_fault_number fault.ReadFault = Some 5
feed_fault_number (fault.Memory line) = None
