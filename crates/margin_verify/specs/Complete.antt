-- When a verification has to succeed.
use Rattle.std.specs.Prelude.{ℕ, ◌≡◌, ◌≤◌, List, length, Some, Ok, true}
use Rattle.mh_io.specs.Faults.{Rises}
use Rattle.mh_io.specs.Sink.{SinkSeen}
use Rattle.mh_io.specs.Folder.{Telling, file_of, FolderSeen}
use Rattle.mh_io.specs.Limits.{most_bytes}
use Rattle.params_file.specs.SimmRules.Params.{Params}
use Rattle.params_file.specs.Grammar.{params_of}
use Rattle.csa_terms.specs.Grammar.{terms_of}
use Rattle.csa_terms.specs.Terms.{Agreements}
use Rattle.audit_file.specs.declared.answer.Verdict.TheVariants.{Yes}
use Rattle.margin_verify.specs.Verify.{verdict_of}

-- The folder has all files, none is too long, parameters and terms are inside their grammars, every reply of the audit file is
-- right, and no count of faults rose.
pub record IsWellVerify (params_name terms_name audit_name : List ℕ) (old new : FolderSeen) (out_old out_new : SinkSeen) : Type 0 where
  pub t : Telling
  pub param_bytes : List ℕ
  pub terms_bytes : List ℕ
  pub audit_bytes : List ℕ
  pub p : Params
  pub agreements : List Agreements
  pub sets : ℕ
  pub entries : ℕ
  pub told : old.told ≡ Some t
  pub has_params : file_of t.files params_name ≡ Some param_bytes
  pub has_terms : file_of t.files terms_name ≡ Some terms_bytes
  pub has_audit : file_of t.files audit_name ≡ Some audit_bytes
  pub params_fit : length param_bytes ≤ most_bytes
  pub terms_fit : length terms_bytes ≤ most_bytes
  pub audit_fits : length audit_bytes ≤ most_bytes
  pub params_read : params_of param_bytes ≡ Some p
  pub terms_read : terms_of terms_bytes ≡ Ok agreements
  pub right : verdict_of p agreements audit_bytes true ≡ Ok (Yes sets entries)
  pub finds_stood : Rises old.find_faults new.find_faults → ⊥
  pub reads_stood : Rises old.read_faults new.read_faults → ⊥
  pub puts_stood : Rises out_old.faults out_new.faults → ⊥
