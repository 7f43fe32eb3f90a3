-- A file behind others: what is told of it then holds of it before.
use Rattle.std.proofs.Common.{◌≡◌, ℕ, ◌≤◌, List, [], ◌∷◌, ◌++◌, Option, Some, None, option_map, ap, sym, ◌∙◌, append-nil, append_assoc, refl, inl, inr, ⊎_elim}
use Rattle.mh_io.specs.Folder.{Telling, file_of, FolderSeen}
use Rattle.margin_calc.specs.CommandFiles.declared.fault.FileFault.{FileFault}
use Rattle.margin_calc.specs.CommandFiles.declared.fault.FileFault.TheVariants as why
use Rattle.margin_calc.specs.CommandFiles.Files.{Deeds, no_deeds, with_name, with_reading, told_after, Did, IsTooLong, NoValue}
use Rattle.margin_calc.proofs.CommandFiles.FileLemmas.{did_nothing, rises_earlier}
use Rattle.margin_calc.proofs.CommandFiles.AfterParamsLemmas.{files_before, whole_before}

-- the ones and then the others
abbrev joined : Deeds → Deeds → Deeds
joined a b = record { names = a.names ++ b.names; readings = a.readings ++ b.readings }

did_both : (old mid new : FolderSeen) (a b : Deeds) → Did old mid a → Did mid new b → Did old new (joined a b)
did_both old mid new a b first second = second ∙ (ap (option_map (told_after b)) first ∙ at old.told)
  where
    at : (told : Option Telling) → option_map (told_after b) (option_map (told_after a) told) ≡ option_map (told_after (joined a b)) told
    at None = refl
    at (Some t) =
        ap Some (ap (λ names. record t { asked = names; reads = (t.reads ++ a.readings) ++ b.readings }) (append_assoc t.asked a.names b.names)
        ∙ ap (λ reads. record t { asked = t.asked ++ (a.names ++ b.names); reads = reads }) (append_assoc t.reads a.readings b.readings))

pub did_reading : (old mid new : FolderSeen) (before : Deeds) (name bytes : List ℕ) (faults : ℕ) → Did old mid before → Did mid new (with_reading no_deeds name bytes faults) → Did old new (with_reading before name bytes faults)
did_reading old mid new before name bytes faults first second = did_both old mid new before (with_reading no_deeds name bytes faults) first second

did_name : (old mid new : FolderSeen) (before : Deeds) (name : List ℕ) → Did old mid before → Did mid new (with_name no_deeds name) → Did old new (with_name before name)
did_name old mid new before name first second =
    did_both old mid new before (with_name no_deeds name) first second
    ∙ ap (λ readings. option_map (told_after (record { names = before.names ++ name ∷ []; readings = readings })) old.told) (append-nil before.readings)

did_no_more : (old mid new : FolderSeen) (before : Deeds) → Did old mid before → Did mid new no_deeds → Did old new before
did_no_more old mid new before first second = second ∙ sym (did_nothing mid.told) ∙ first

long_before : (old mid : FolderSeen) (deeds : Deeds) (name taken : List ℕ) → Did old mid deeds → IsTooLong mid name taken → IsTooLong old name taken
long_before old mid deeds name taken did h =
    record { front = files_before old.told mid.told deeds (λ files. (rest : List ℕ) × (file_of files name ≡ Some (taken ++ rest))) did h.front; many = h.many }

-- a file without a value
pub no_value_behind : (old mid new : FolderSeen) (before : Deeds) (name : List ℕ) (Refuses : List ℕ → List ℕ → Type 0) (f : FileFault) → Did old mid before
    → old.find_faults ≤ mid.find_faults → old.read_faults ≤ mid.read_faults → NoValue mid new no_deeds name Refuses f → NoValue old new before name Refuses f
no_value_behind old mid new before name Refuses why.Missing did finds reads h =
    record { did = did_name old mid new before name did h.did; rose = rises_earlier old.find_faults mid.find_faults new.find_faults finds h.rose }
no_value_behind old mid new before name Refuses why.Unread did finds reads h =
    record { taken = h.taken; faults = h.faults; did = did_reading old mid new before name h.taken h.faults did h.did; failed = h.failed; rose = rises_earlier old.read_faults mid.read_faults new.read_faults reads h.rose }
no_value_behind old mid new before name Refuses why.Long did finds reads h =
    record { taken = h.taken; faults = h.faults; did = did_reading old mid new before name h.taken h.faults did h.did; long = long_before old mid before name h.taken did h.long }
no_value_behind old mid new before name Refuses (why.Refused line) did finds reads h =
    record { bytes = h.bytes; faults = h.faults; did = did_reading old mid new before name h.bytes h.faults did h.did; whole = whole_before old mid before name h.bytes did h.whole; so = h.so }
no_value_behind old mid new before name Refuses why.Memory did finds reads h =
    ⊎_elim
    (λ stood. inl (did_no_more old mid new before did stood))
    (λ was. inr (record { taken = was.taken; faults = was.faults; did = did_reading old mid new before name was.taken was.faults did was.did }))
    h
