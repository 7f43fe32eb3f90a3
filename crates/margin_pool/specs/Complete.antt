-- When a pool has to succeed.
use Rattle.std.specs.Prelude.{ℕ, ◌≡◌, ◌≤◌, List, length, Some, true}
use Rattle.std.specs.List.{AllByRecursion}
use Rattle.mh_io.specs.Faults.{Rises}
use Rattle.mh_io.specs.Sink.{SinkSeen}
use Rattle.mh_io.specs.Folder.{Telling, file_of, FolderSeen}
use Rattle.mh_io.specs.Limits.{most_bytes}
use Rattle.mh_io.specs.Lines as cut
use Rattle.mh_io.specs.Lines.{lines}
use Rattle.csa_terms.specs.Terms.{Agreements}
use Rattle.feed_files.specs.CommandFiles.Grammars.{GivesTerms}

-- the folder has a feed of this name, which isn't too long and stops whole
pub record IsWellFeed (t : Telling) (name : List ℕ) : Type 0 where
  pub bytes : List ℕ
  pub there : file_of t.files name ≡ Some bytes
  pub fits : length bytes ≤ most_bytes
  pub whole : (lines bytes true).stop ≡ cut.Whole

-- The folder has all files, none is too long, the terms are inside their grammar and have a set for each feed, each feed stops
-- whole, and no count of faults rose. A feed may have lines that are no message.
pub record IsWellPool (terms_name : List ℕ) (feed_names : List (List ℕ)) (old new : FolderSeen) (out_old out_new : SinkSeen) : Type 0 where
  pub t : Telling
  pub terms_bytes : List ℕ
  pub agreements : List Agreements
  pub told : old.told ≡ Some t
  pub has_terms : file_of t.files terms_name ≡ Some terms_bytes
  pub terms_fit : length terms_bytes ≤ most_bytes
  pub terms_read : GivesTerms terms_bytes agreements
  pub sets : length feed_names ≤ length agreements
  pub feeds : AllByRecursion (IsWellFeed t) feed_names
  pub finds_stood : Rises old.find_faults new.find_faults → ⊥
  pub reads_stood : Rises old.read_faults new.read_faults → ⊥
  pub puts_stood : Rises out_old.faults out_new.faults → ⊥
