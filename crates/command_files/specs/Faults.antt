-- The fault of a file at each fault of finding and reading it.
use Rattle.mh_io.specs.declared.folder.FindRefused.{FindRefused}
use Rattle.mh_io.specs.declared.folder.FindRefused.TheVariants as find
use Rattle.mh_io.specs.declared.reading.ReadAllFault.{ReadAllFault}
use Rattle.mh_io.specs.declared.reading.ReadAllFault.TheVariants as read
use Rattle.command_files.specs.declared.fault.FileFault.{FileFault}
use Rattle.command_files.specs.declared.fault.FileFault.TheVariants as why

abbrev pub fault_of_find : FindRefused → FileFault
fault_of_find find.Failed = why.Missing
fault_of_find find.Memory = why.Memory

abbrev pub fault_of_read : ReadAllFault → FileFault
fault_of_read read.ReadFault = why.Unread
fault_of_read (read.TooLong taken) = why.Long
fault_of_read read.Memory = why.Memory
