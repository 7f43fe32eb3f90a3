-- The parameter file and the terms file of a command, one after the other.
use Rattle.std.specs.Prelude.{ℕ, ◌≡◌, ◌≤◌, List, Ok, Err, Result}
use Rattle.mh_io.specs.Folder.{FolderSeen}
use Rattle.simm_rules.specs.Params.{Params}
use Rattle.csa_terms.specs.Grammar.{terms_of}
use Rattle.csa_terms.specs.Terms.{Agreements}
use Rattle.command_files.specs.declared.fault.InputFile.TheVariants as input
use Rattle.command_files.specs.declared.fault.Fault.{Fault}
use Rattle.command_files.specs.declared.fault.Fault.TheVariants as fault
use Rattle.command_files.specs.declared.inputs.Inputs.{Inputs}
use Rattle.command_files.specs.Files.{no_deeds, with_reading, Did, IsWhole, NoValue}
use Rattle.command_files.specs.Grammars.{RefusesParams, RefusesTerms}
use Rattle.command_files.specs.AfterParams.{HasParams, FailsAfterParams}

-- both were read whole, with these values, and no count of faults fell
pub record HasInputs (params_name terms_name : List ℕ) (old new : FolderSeen) (p : Params) (agreements : List Agreements) : Type 0 where
  pub param_bytes : List ℕ
  pub param_faults : ℕ
  pub terms_bytes : List ℕ
  pub terms_faults : ℕ
  pub did : Did old new (with_reading (with_reading no_deeds params_name param_bytes param_faults) terms_name terms_bytes terms_faults)
  pub params : HasParams old params_name param_bytes p
  pub whole : IsWhole old terms_name terms_bytes
  pub terms : terms_of terms_bytes ≡ Ok agreements
  pub finds : old.find_faults ≤ new.find_faults
  pub reads : old.read_faults ≤ new.read_faults

-- what happened where the first or the second of them gave nothing
abbrev pub InputsCause : List ℕ → List ℕ → FolderSeen → FolderSeen → Fault → Type 0
InputsCause params_name terms_name old new (fault.OfFile input.Params name f) =
    (name.now ≡ params_name) × NoValue old new no_deeds params_name RefusesParams f
InputsCause params_name terms_name old new (fault.OfFile input.Terms name f) =
    (name.now ≡ terms_name) × FailsAfterParams params_name terms_name RefusesTerms old new f
InputsCause params_name terms_name old new _ = ⊥

-- what reading both does: what they say, or why there is nothing
abbrev pub InputsEnd : List ℕ → List ℕ → FolderSeen → FolderSeen → Result Inputs Fault → Type 0
InputsEnd params_name terms_name old new (Ok inputs) = HasInputs params_name terms_name old new inputs.params inputs.terms
InputsEnd params_name terms_name old new (Err f) = InputsCause params_name terms_name old new f
