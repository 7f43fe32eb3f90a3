-- Both files were read, one after the other.
use Rattle.std.proofs.Common.{◌≡◌, ℕ, ◌≤◌, List, Some, Ok}
use Rattle.mh_io.specs.Folder.{FolderSeen}
use Rattle.simm_rules.specs.Params.{Params}
use Rattle.params_file.specs.Grammar.{params_of}
use Rattle.csa_terms.specs.Grammar.{terms_of}
use Rattle.csa_terms.specs.Terms.{Agreements}
use Rattle.command_files.specs.Files.{no_deeds, with_reading, IsRead}
use Rattle.command_files.specs.Inputs.{HasInputs}
use Rattle.command_files.proofs.FileLemmas.{did_more}
use Rattle.command_files.proofs.AfterParamsLemmas.{whole_before}

pub inputs_read : (old mid new : FolderSeen) (pn tn : List ℕ) (p : Params) (agreements : List Agreements) → IsRead old mid no_deeds pn (λ bytes. params_of bytes ≡ Some p) → IsRead mid new no_deeds tn (λ bytes. terms_of bytes ≡ Ok agreements) → old.find_faults ≤ new.find_faults → old.read_faults ≤ new.read_faults → HasInputs pn tn old new p agreements
inputs_read old mid new pn tn p agreements first second finds reads = record {
  param_bytes = first.bytes;
  param_faults = first.faults;
  terms_bytes = second.bytes;
  terms_faults = second.faults;
  did = did_more old mid new pn first.bytes first.faults (with_reading no_deeds tn second.bytes second.faults) first.did second.did;
  params = record { whole = first.whole; values = first.so };
  whole = whole_before old mid (with_reading no_deeds pn first.bytes first.faults) tn second.bytes first.did second.whole;
  terms = second.so;
  finds = finds;
  reads = reads;
}
