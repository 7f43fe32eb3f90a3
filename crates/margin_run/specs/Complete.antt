-- When a run has to succeed.
use Rattle.std.specs.Prelude.{ℕ, ◌≡◌, ◌≤◌, List, length, Some, Ok, true}
use Rattle.std.specs.List.{AllByRecursion}
use Rattle.mh_io.specs.Faults.{Rises}
use Rattle.mh_io.specs.Sink.{SinkSeen}
use Rattle.mh_io.specs.Folder.{Telling, file_of, FolderSeen}
use Rattle.mh_io.specs.Limits.{most_bytes}
use Rattle.feed_gate.specs.SetCore.SimmRules.Params.{Params}
use Rattle.feed_gate.specs.SetCore.ParamsFile.Grammar.{params_of}
use Rattle.csa_terms.specs.Grammar.{terms_of}
use Rattle.csa_terms.specs.Terms.{Agreements}
use Rattle.feed_gate.specs.FeedReader.Feed.{Whole, feed}
use Rattle.margin_run.specs.Desks.{Desks}

-- the folder has a feed of this name, which isn't too long and stops whole
pub record IsWellFeed (t : Telling) (name : List ℕ) : Type 0 where
  pub bytes : List ℕ
  pub there : file_of t.files name ≡ Some bytes
  pub fits : length bytes ≤ most_bytes
  pub whole : (feed bytes true).stop ≡ Whole

-- The folder has all files, none is too long, parameters and terms are inside their grammars, each feed stops whole, no
-- count of faults rose, and no desk was retired. A feed may have lines that are no message, and messages that are refused.
pub record IsWellRun {B : Type 0} (params_name terms_name : List ℕ) (feed_names : List (List ℕ)) (old new : FolderSeen)
    (out_old out_new : SinkSeen) (d : Desks B) : Type 0 where
  pub t : Telling
  pub param_bytes : List ℕ
  pub terms_bytes : List ℕ
  pub p : Params
  pub agreements : List Agreements
  pub told : old.told ≡ Some t
  pub has_params : file_of t.files params_name ≡ Some param_bytes
  pub has_terms : file_of t.files terms_name ≡ Some terms_bytes
  pub params_fit : length param_bytes ≤ most_bytes
  pub terms_fit : length terms_bytes ≤ most_bytes
  pub params_read : params_of param_bytes ≡ Some p
  pub terms_read : terms_of terms_bytes ≡ Ok agreements
  pub feeds : AllByRecursion (IsWellFeed t) feed_names
  pub finds_stood : Rises old.find_faults new.find_faults → ⊥
  pub reads_stood : Rises old.read_faults new.read_faults → ⊥
  pub puts_stood : Rises out_old.faults out_new.faults → ⊥
  pub desks_stay : d.retired ≡ d.retired_before
