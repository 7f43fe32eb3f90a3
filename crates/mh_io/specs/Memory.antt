-- What a source, a sink and a folder over memory are, as contracts see them, and which of their calls fail.
use Rattle.std.specs.Prelude.{ℕ, ◌+◌, ◌-◌, ◌^◌, ◌==◌, Bool, ◌&&◌, ◌||◌, not, List, [], ◌∷◌, ◌++◌, Option, Some, Result, Ok, Err, min, length, map, find, is_none, bytes_eq}
use Rattle.std.specs.List.{list_any, filter}
use Rattle.mh_io.specs.Faults.{added_faults}
use Rattle.mh_io.specs.Sink.{SinkSeen}
use Rattle.mh_io.specs.Source.{SourceSeen}
use Rattle.mh_io.specs.Folder.{File, Reading, Telling, FolderSeen}
use Rattle.mh_io.specs.declared.folder.FindRefused.{FindRefused}
use Rattle.mh_io.specs.declared.folder.FindRefused.TheVariants.{Failed, Memory}

-- the numbers of the calls that are to fail, the first call being number 1; how many were made; the faults met
pub record Counted : Type 0 where
  pub failing : List ℕ
  pub made : ℕ
  pub faults : ℕ

-- no call was made yet
abbrev pub uncalled : List ℕ → Counted
uncalled failing = record { failing = failing; made = 0; faults = 0 }

-- one more call was made; past its last value the number stands
abbrev pub with_call : Counted → Counted
with_call calls = record calls { made = min (calls.made + 1) (2 ^ 64 - 1) }

-- one more fault was met
abbrev pub with_fault : Counted → Counted
with_fault calls = record calls { faults = added_faults calls.faults 1 }

-- the next call is to fail
abbrev pub is_due : Counted → Bool
is_due calls = list_any (λ number. number == (with_call calls).made) calls.failing

-- a source over memory: what it gave and has left, and the most bytes that it gives at one call
pub record MemorySource : Type 0 where
  pub name : List ℕ
  pub gave : List ℕ
  pub left : List ℕ
  pub most : ℕ
  pub calls : Counted

-- it tells its name, what it gave and what is left
abbrev pub source_seen : MemorySource → SourceSeen
source_seen source = record { faults = source.calls.faults; name = Some source.name; gave = Some source.gave; left = Some source.left }

-- a sink over memory: what it holds, the most bytes that it can hold, and the most that it takes at one call
pub record MemorySink : Type 0 where
  pub holds : List ℕ
  pub room : ℕ
  pub most : ℕ
  pub calls : Counted

-- it tells what it holds
abbrev pub sink_seen : MemorySink → SinkSeen
sink_seen sink = record { faults = sink.calls.faults; holds = Some sink.holds }

-- a put of so many bytes fails: it is due to fail, or the sink takes none of them
abbrev pub put_fails : MemorySink → ℕ → Bool
put_fails sink count = is_due sink.calls || (not (count == 0) && (min (min count sink.most) (sink.room - length sink.holds) == 0))

-- a file of a folder over memory: its name and bytes, the most that its sources give at one call, and their calls that are to fail
pub record MemoryFile : Type 0 where
  pub name : List ℕ
  pub bytes : List ℕ
  pub most : ℕ
  pub failing : List ℕ

-- a folder over memory
pub record MemoryFolder : Type 0 where
  pub files : List MemoryFile
  pub asked : List (List ℕ)
  pub reads : List Reading
  pub calls : Counted
  pub read_faults : ℕ
  pub due : ℕ

-- a source of this file that gave nothing
abbrev pub opened : MemoryFile → MemorySource
opened file = record { name = file.name; gave = []; left = file.bytes; most = file.most; calls = uncalled file.failing }

-- what was read of a source that came back
abbrev pub reading_of : MemorySource → Reading
reading_of source = record { name = source.name; taken = source.gave; faults = source.calls.faults }

-- the name and the bytes of a file
abbrev pub file_told : MemoryFile → File
file_told file = record { name = file.name; bytes = file.bytes }

-- all that the folder tells
abbrev pub telling : MemoryFolder → Telling
telling folder = record { files = map file_told folder.files; asked = folder.asked; reads = folder.reads }

abbrev pub folder_seen : MemoryFolder → FolderSeen
folder_seen folder = record { told = Some (telling folder); find_faults = folder.calls.faults; read_faults = folder.read_faults; due = folder.due }

abbrev pub is_named : List ℕ → MemoryFile → Bool
is_named name file = bytes_eq file.name name

-- the files of other names
abbrev pub files_but : List ℕ → List MemoryFile → List MemoryFile
files_but name files = filter (λ file. not (is_named name file)) files

-- this file, and the files of other names
abbrev pub with_file : MemoryFile → List MemoryFile → List MemoryFile
with_file file files = file ∷ files_but file.name files

-- the file of this name, if there is one
abbrev pub named_file : MemoryFolder → List ℕ → Option MemoryFile
named_file folder name = find (is_named name) folder.files

-- a find of this name fails: it is due to fail, or there is no such file
abbrev pub find_fails : MemoryFolder → List ℕ → Bool
find_fails folder name = is_due folder.calls || is_none (named_file folder name)

-- the folder after a find of this name
abbrev pub after_find : {S : Type 0} → Result S FindRefused → List ℕ → MemoryFolder → MemoryFolder
after_find (Ok _) name folder = record folder { asked = folder.asked ++ name ∷ []; calls = with_call folder.calls; due = folder.due + 1 }
after_find (Err Failed) name folder = record folder { asked = folder.asked ++ name ∷ []; calls = with_fault (with_call folder.calls) }
after_find (Err Memory) _ folder = folder

-- the folder after this source came back
abbrev pub after_done : MemorySource → MemoryFolder → MemoryFolder
after_done source folder = record folder { reads = folder.reads ++ reading_of source ∷ []; read_faults = added_faults folder.read_faults source.calls.faults; due = folder.due - 1 }
