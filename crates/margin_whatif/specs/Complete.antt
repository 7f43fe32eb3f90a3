-- When a what-if has to succeed.
use Rattle.std.specs.Prelude.{ℕ, ◌≡◌, ◌≤◌, List, length, Some, None}
use Rattle.mh_io.specs.Sink.{SinkSeen}
use Rattle.mh_io.specs.Folder.{file_of, FolderSeen}
use Rattle.mh_io.specs.Limits.{most_bytes}
use Rattle.whatif.specs.BucketCache.SimmRules.SimmKinds.declared.row.TradeRows.{TradeRows}
use Rattle.margin_calc.specs.CommandFiles.Grammars.{GivesTrades}
use Rattle.whatif.specs.Faults.{first_fault}
use Rattle.margin_calc.specs.Complete.{IsWell}

-- all is well for a calculation with the first two files; the folder has the candidate's, which is not too long and inside its
-- grammar; each name is current, and the candidate is taken in
pub record IsWellWhatIf (params_name crif_name candidate_name : List ℕ) (names : List (List ℕ)) (old new : FolderSeen) (out_old out_new : SinkSeen) : Type 0 where
  pub calc : IsWell params_name crif_name old new out_old out_new
  pub candidate_bytes : List ℕ
  pub candidate : List TradeRows
  pub has_candidate : file_of calc.t.files candidate_name ≡ Some candidate_bytes
  pub candidate_fits : length candidate_bytes ≤ most_bytes
  pub candidate_read : GivesTrades candidate_bytes candidate
  pub none : first_fault calc.p names (Some candidate) calc.trades ≡ None
