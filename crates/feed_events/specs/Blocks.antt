-- What a block gives, as a file of its own, and want of memory.
use Rattle.std.specs.Prelude.{Bool, true, false, Result}
use Rattle.crif_reader.specs.declared.fault.CrifFault.{CrifFault}
use Rattle.crif_reader.specs.declared.fault.CrifFault.TheVariants as crif
use Rattle.set_core.specs.ParamsFile.TomlValues.Answers.{Answers}
use Rattle.set_core.specs.ParamsFile.Texts.{is_text_memory}
use Rattle.set_core.specs.declared.event.Event.{Event}
use Rattle.feed_events.specs.declared.block.BlockFault.{BlockFault}
use Rattle.feed_events.specs.declared.block.BlockFault.TheVariants as block

abbrev pub is_batch_memory : CrifFault → Bool
is_batch_memory crif.Memory = true
is_batch_memory _ = false

abbrev pub is_memory : BlockFault → Bool
is_memory (block.Batch fault) = is_batch_memory fault
is_memory (block.Tables fault) = is_text_memory fault

-- The event that is answered is what the block gives, or the fault the first of its grammar, unless memory ran out.
abbrev pub Gives : Result Event BlockFault → Result Event BlockFault → Type 0
Gives answer read = Answers is_memory (λ e. e) answer read
