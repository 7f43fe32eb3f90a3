-- A file after another: what is told of it later holds of it before.
use Rattle.std.proofs.Common.{◌≡◌, ℕ, ◌≤◌, List, ◌++◌, Option, Some, None, IfSome, option_map, subst, inl, inr, ⊎_elim}
use Rattle.mh_io.specs.Folder.{Telling, File, file_of, FolderSeen}
use Rattle.simm_rules.specs.Params.{Params}
use Rattle.params_file.specs.Grammar.{params_of}
use Rattle.command_files.specs.declared.fault.FileFault.{FileFault}
use Rattle.command_files.specs.declared.fault.FileFault.TheVariants as why
use Rattle.command_files.specs.Files.{Deeds, no_deeds, with_reading, told_after, Did, IsWhole, IsTooLong, IsRead, NoValue}
use Rattle.command_files.specs.AfterParams.{FailsAfterParams}
use Rattle.command_files.proofs.FileLemmas.{did_more, rises_earlier}

-- what is told of files later is told of them before
pub files_before : (old mid : Option Telling) (deeds : Deeds) (P : List File → Type 0) → mid ≡ option_map (told_after deeds) old → IfSome mid (λ t. P t.files) → IfSome old (λ t. P t.files)
files_before None mid deeds P e h = tt
files_before (Some t) mid deeds P e h = subst (λ m. IfSome m (λ t. P t.files)) e h

pub whole_before : (old mid : FolderSeen) (deeds : Deeds) (name bytes : List ℕ) → Did old mid deeds → IsWhole mid name bytes → IsWhole old name bytes
whole_before old mid deeds name bytes did h =
    record { whole = files_before old.told mid.told deeds (λ files. file_of files name ≡ Some bytes) did h.whole; few = h.few }

long_before : (old mid : FolderSeen) (deeds : Deeds) (name taken : List ℕ) → Did old mid deeds → IsTooLong mid name taken → IsTooLong old name taken
long_before old mid deeds name taken did h =
    record { front = files_before old.told mid.told deeds (λ files. (rest : List ℕ) × (file_of files name ≡ Some (taken ++ rest))) did h.front; many = h.many }

-- a file without a value after another file was read
pub no_value_after : (old mid new : FolderSeen) (first bytes name : List ℕ) (faults : ℕ) (Refuses : List ℕ → List ℕ → Type 0) (f : FileFault) → Did old mid (with_reading no_deeds first bytes faults) → old.find_faults ≤ mid.find_faults → old.read_faults ≤ mid.read_faults → NoValue mid new no_deeds name Refuses f → NoValue old new (with_reading no_deeds first bytes faults) name Refuses f
no_value_after old mid new first bytes name faults Refuses why.Missing did finds reads h =
    record { did = did_more old mid new first bytes faults _ did h.did; rose = rises_earlier old.find_faults mid.find_faults new.find_faults finds h.rose }
no_value_after old mid new first bytes name faults Refuses why.Unread did finds reads h =
    record { taken = h.taken; faults = h.faults; did = did_more old mid new first bytes faults (with_reading no_deeds name h.taken h.faults) did h.did; failed = h.failed; rose = rises_earlier old.read_faults mid.read_faults new.read_faults reads h.rose }
no_value_after old mid new first bytes name faults Refuses why.Long did finds reads h =
    record { taken = h.taken; faults = h.faults; did = did_more old mid new first bytes faults (with_reading no_deeds name h.taken h.faults) did h.did; long = long_before old mid (with_reading no_deeds first bytes faults) name h.taken did h.long }
no_value_after old mid new first bytes name faults Refuses (why.Refused line) did finds reads h =
    record { bytes = h.bytes; faults = h.faults; did = did_more old mid new first bytes faults (with_reading no_deeds name h.bytes h.faults) did h.did; whole = whole_before old mid (with_reading no_deeds first bytes faults) name h.bytes did h.whole; so = h.so }
no_value_after old mid new first bytes name faults Refuses why.Memory did finds reads h =
    ⊎_elim
    (λ stood. inl (did_more old mid new first bytes faults no_deeds did stood))
    (λ was. inr (record { taken = was.taken; faults = was.faults; did = did_more old mid new first bytes faults (with_reading no_deeds name was.taken was.faults) did was.did }))
    h

-- the parameters were read, and then another file gave no value
pub fails_after_params : (old mid new : FolderSeen) (params_name name : List ℕ) (p : Params) (Refuses : List ℕ → List ℕ → Type 0) (f : FileFault) → IsRead old mid no_deeds params_name (λ bytes. params_of bytes ≡ Some p) → old.find_faults ≤ mid.find_faults → old.read_faults ≤ mid.read_faults → NoValue mid new no_deeds name Refuses f → FailsAfterParams params_name name Refuses old new f
fails_after_params old mid new params_name name p Refuses f first finds reads h = record {
  param_bytes = first.bytes;
  param_faults = first.faults;
  p = p;
  params = record { whole = first.whole; values = first.so };
  failed = no_value_after old mid new params_name first.bytes name first.faults Refuses f first.did finds reads h;
}
