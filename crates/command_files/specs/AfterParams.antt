-- The parameter file is the first that a command reads, and another comes behind it.
use Rattle.std.specs.Prelude.{ℕ, ◌≡◌, List, Some}
use Rattle.mh_io.specs.Folder.{FolderSeen}
use Rattle.simm_rules.specs.Params.{Params}
use Rattle.params_file.specs.Grammar.{params_of}
use Rattle.command_files.specs.declared.fault.FileFault.{FileFault}
use Rattle.command_files.specs.Files.{no_deeds, with_reading, IsWhole, NoValue}

-- the parameter file was read whole, with these bytes and values
pub record HasParams (folder : FolderSeen) (name bytes : List ℕ) (p : Params) : Type 0 where
  pub whole : IsWhole folder name bytes
  pub values : params_of bytes ≡ Some p

-- the parameters were read, and then the file of this name gave no value
pub record FailsAfterParams (params_name name : List ℕ) (Refuses : List ℕ → List ℕ → Type 0) (old new : FolderSeen) (why : FileFault) : Type 0 where
  pub param_bytes : List ℕ
  pub param_faults : ℕ
  pub p : Params
  pub params : HasParams old params_name param_bytes p
  pub failed : NoValue old new (with_reading no_deeds params_name param_bytes param_faults) name Refuses why
