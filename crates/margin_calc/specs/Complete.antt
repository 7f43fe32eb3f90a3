-- When a calculation has to succeed.
use Rattle.std.specs.Prelude.{ℕ, ◌≡◌, ◌≤◌, List, length, Some, None}
use Rattle.mh_io.specs.Faults.{Rises}
use Rattle.mh_io.specs.Sink.{SinkSeen}
use Rattle.mh_io.specs.Folder.{Telling, file_of, FolderSeen}
use Rattle.mh_io.specs.Limits.{most_bytes}
use Rattle.simm_kinds.specs.declared.row.TradeRows.{TradeRows}
use Rattle.simm_kinds.specs.Batch.{rows_of}
use Rattle.simm_rules.specs.Params.{Params}
use Rattle.simm_rules.specs.Range.{range}
use Rattle.params_file.specs.Grammar.{params_of}
use Rattle.set_core.specs.BucketCache.Live.{first_unadmitted}
use Rattle.command_files.specs.Grammars.{GivesTrades}

-- the folder has both files, neither is too long, both are inside their grammars, all rows are admitted, the book is in
-- range, and no count of faults rose
pub record IsWell (params_name crif_name : List ℕ) (old new : FolderSeen) (out_old out_new : SinkSeen) : Type 0 where
  pub t : Telling
  pub param_bytes : List ℕ
  pub crif_bytes : List ℕ
  pub p : Params
  pub trades : List TradeRows
  pub told : old.told ≡ Some t
  pub has_params : file_of t.files params_name ≡ Some param_bytes
  pub has_crif : file_of t.files crif_name ≡ Some crif_bytes
  pub params_fit : length param_bytes ≤ most_bytes
  pub crif_fits : length crif_bytes ≤ most_bytes
  pub params_read : params_of param_bytes ≡ Some p
  pub crif_read : GivesTrades crif_bytes trades
  pub admitted : first_unadmitted p trades ≡ None
  pub in_range : range p (rows_of trades) ≡ None
  pub finds_stood : Rises old.find_faults new.find_faults → ⊥
  pub reads_stood : Rises old.read_faults new.read_faults → ⊥
  pub puts_stood : Rises out_old.faults out_new.faults → ⊥
