-- The own number of each fault of a name, and of each fault of a batch. Want of memory has none.
use Rattle.std.specs.Prelude.{ℕ, Option, Some, None}
use Rattle.simm_kinds.specs.declared.fault.NameFault.{NameFault}
use Rattle.simm_kinds.specs.declared.fault.NameFault.TheVariants as name
use Rattle.simm_kinds.specs.declared.fault.MakeFault.{MakeFault}
use Rattle.simm_kinds.specs.declared.fault.MakeFault.TheVariants as batch

abbrev pub name_fault_number : NameFault → Option ℕ
name_fault_number name.Long = Some 1
name_fault_number name.Byte = Some 2
name_fault_number name.Memory = None

abbrev pub make_fault_number : MakeFault → Option ℕ
make_fault_number batch.Empty = Some 1
make_fault_number batch.Same = Some 2
make_fault_number batch.TooManyRows = Some 3
make_fault_number batch.Place = Some 4
make_fault_number batch.EmptyTrade = Some 5
make_fault_number batch.Amount = Some 6
make_fault_number batch.Memory = None
