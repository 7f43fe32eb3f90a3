-- What finding, reading and handing back a file do together.
use Rattle.std.proofs.Common.{◌≡◌, ℕ, ◌<◌, ◌≤◌, List, [], ◌∷◌, ◌++◌, length, Option, Some, None, IfSome, IsSome, option_map, ap, sym, refl, subst, ◌∙◌, append-nil, append_assoc, arith, inl, inr, Result, Ok, Err, IsErrAnd}
use Rattle.std.specs.Io.KnownBytes.{append_known, prepend_known, IsAtEnd}
use Rattle.mh_io.specs.Faults.{Rises, added_faults}
use Rattle.mh_io.specs.Folder.{Telling, file_of, with_asked, told_after_find, told_after_done, IsFound, FolderSeen}
use Rattle.mh_io.specs.Source.{SourceSeen, Takes, StopsAt}
use Rattle.mh_io.specs.declared.folder.FindRefused.{FindRefused}
use Rattle.mh_io.specs.declared.folder.FindRefused.TheVariants as find
use Rattle.mh_io.specs.declared.reading.ReadAllFault.{ReadAllFault}
use Rattle.mh_io.specs.declared.reading.ReadAllFault.TheVariants as read
use Rattle.command_files.specs.declared.fault.FileFault.{FileFault}
use Rattle.command_files.specs.declared.fault.FileFault.TheVariants as why
use Rattle.command_files.specs.Files.{Deeds, no_deeds, with_reading, with_name, told_after, Did, NoValue, RefusesNone, ValueEnds, FileEnds}
use Rattle.command_files.specs.Faults.{fault_of_find, fault_of_read}

-- a name was asked for, a source of it gave these bytes, and it came back
pub told_read : (old mid new : Option Telling) (name bytes : List ℕ) (found back : SourceSeen) → mid ≡ option_map (with_asked name) old → IfSome old (λ f. IsFound f.files name found) → back.name ≡ found.name → Takes found back bytes → new ≡ told_after_done mid back.name back.gave back.faults → new ≡ option_map (told_after (with_reading no_deeds name bytes back.faults)) old
told_read None mid new name bytes found back asked is named takes done = done ∙ ap (λ m. told_after_done m back.name back.gave back.faults) asked
told_read (Some t) mid new name bytes found back asked is named takes done =
    let gave : back.gave ≡ Some bytes = takes.gave ∙ ap (λ g. append_known g bytes) is.fresh in
    let name_is : back.name ≡ Some name = named ∙ is.named in
    done
    ∙ (ap (λ m. told_after_done m back.name back.gave back.faults) asked
    ∙ (ap (λ n. told_after_done (Some (with_asked name t)) n back.gave back.faults) name_is
    ∙ ap (λ g. told_after_done (Some (with_asked name t)) (Some name) g back.faults) gave))

-- what was left and is left no more is what was taken
at_end : (l0 l1 : Option (List ℕ)) (bytes : List ℕ) → IsSome l0 → l0 ≡ prepend_known bytes l1 → IsAtEnd l1 → l0 ≡ Some bytes
at_end l0 None bytes there e end = cc
at_end l0 (Some rest) bytes there e end = e ∙ ap Some (ap (λ xs. bytes ++ xs) end ∙ append-nil bytes)

-- a source that gave all that it had left gave the whole file
pub whole_file : (old : Option Telling) (name bytes : List ℕ) (found back : SourceSeen) → IfSome old (λ f. IsFound f.files name found) → Takes found back bytes → IsAtEnd back.left → IfSome old (λ t. file_of t.files name ≡ Some bytes)
whole_file None name bytes found back is takes end = tt
whole_file (Some t) name bytes found back is takes end = sym is.whole ∙ at_end found.left back.left bytes is.there takes.left end

front_of : (l0 l1 : Option (List ℕ)) (taken : List ℕ) → IsSome l0 → l0 ≡ prepend_known taken l1 → (rest : List ℕ) × (l0 ≡ Some (taken ++ rest))
front_of l0 None taken there e = cc
front_of l0 (Some rest) taken there e = (rest, e)

-- what a source gave is a front of its file
pub file_front : (old : Option Telling) (name taken : List ℕ) (found back : SourceSeen) → IfSome old (λ f. IsFound f.files name found) → Takes found back taken → IfSome old (λ t. (rest : List ℕ) × (file_of t.files name ≡ Some (taken ++ rest)))
file_front None name taken found back is takes = tt
file_front (Some t) name taken found back is takes =
    let f = front_of found.left back.left taken is.there takes.left in (f.0, sym is.whole ∙ f.1)

-- a count that was 0 and rose is above 0
pub rose_from_none : (n : ℕ) (old : ℕ) → old ≡ 0 → Rises old n → 0 < n
rose_from_none n old e r = omega (arith, r.rose (omega arith))

-- a folder's count rises by a source's faults
pub rises_by : (old new faults : ℕ) → old ≤ new → new ≡ added_faults old faults → 0 < faults → Rises old new
rises_by old new faults kept e h = record { kept = kept; rose = λ below. grind arith }

-- later faults are faults of the whole
pub rises_earlier : (first old new : ℕ) → first ≤ old → Rises old new → Rises first new
rises_earlier first old new le r = record { kept = omega (arith, r.kept); rose = λ below. grind (arith, r.kept, r.rose) }

pub rises_later : (old new last : ℕ) → Rises old new → new ≤ last → Rises old last
rises_later old new last r le = record { kept = omega (arith, r.kept); rose = λ below. omega (arith, r.rose below) }

-- nothing was done
pub did_nothing : (old : Option Telling) → old ≡ option_map (told_after no_deeds) old
did_nothing None = refl
did_nothing (Some t) =
    ap Some (ap (λ names. record t { asked = names }) (sym (append-nil t.asked)) ∙ ap (λ reads. record t { asked = t.asked ++ []; reads = reads }) (sym (append-nil t.reads)))

-- a name was asked for
pub did_ask : (old : Option Telling) (name : List ℕ) → option_map (with_asked name) old ≡ option_map (told_after (with_name no_deeds name)) old
did_ask None name = refl
did_ask (Some t) name = ap (λ reads. Some (record t { asked = t.asked ++ name ∷ []; reads = reads })) (sym (append-nil t.reads))

-- how the reading of a file ends where it wasn't found
pub find_ends : (S : Type 0) (old new : FolderSeen) (name : List ℕ) (r : FindRefused) (result : Result (List ℕ) FileFault) → IsErrAnd result (λ e. e ≡ fault_of_find r) → new.told ≡ told_after_find {S = S} (Err r) name old.told → (r ≡ find.Failed → Rises old.find_faults new.find_faults) → FileEnds old new name result
find_ends S old new name r (Ok bytes) h told rose = absurd h
find_ends S old new name find.Failed (Err e) h told rose =
    subst (NoValue old new no_deeds name RefusesNone) (sym h) (record { did = told ∙ did_ask old.told name; rose = rose refl })
find_ends S old new name find.Memory (Err e) h told rose =
    subst (NoValue old new no_deeds name RefusesNone) (sym h) (inl (told ∙ did_nothing old.told))

-- how the reading of a file ends where it wasn't read to its end
pub read_ends : (old new : FolderSeen) (name : List ℕ) (r : ReadAllFault) (result : Result (List ℕ) FileFault) (taken : List ℕ) (first faults : ℕ) → IsErrAnd result (λ e. e ≡ fault_of_read r) → Did old new (with_reading no_deeds name taken faults) → IfSome old.told (λ t. (rest : List ℕ) × (file_of t.files name ≡ Some (taken ++ rest))) → StopsAt r (length taken) → first ≡ 0 → (r ≡ read.ReadFault → Rises first faults) → old.read_faults ≤ new.read_faults → new.read_faults ≡ added_faults old.read_faults faults → FileEnds old new name result
read_ends old new name r (Ok bytes) taken first faults h did front stops none rose kept rises = absurd h
read_ends old new name read.ReadFault (Err e) taken first faults h did front stops none rose kept rises =
    let failed = rose_from_none faults first none (rose refl) in
    subst (NoValue old new no_deeds name RefusesNone) (sym h)
    (record { taken = taken; faults = faults; did = did; failed = failed; rose = rises_by old.read_faults new.read_faults faults kept rises failed })
read_ends old new name (read.TooLong n) (Err e) taken first faults h did front stops none rose kept rises =
    subst (NoValue old new no_deeds name RefusesNone) (sym h)
    (record { taken = taken; faults = faults; did = did; long = record { front = front; many = stops.0 } })
read_ends old new name read.Memory (Err e) taken first faults h did front stops none rose kept rises =
    subst (NoValue old new no_deeds name RefusesNone) (sym h) (inr (record { taken = taken; faults = faults; did = did }))

-- two things done one after the other
pub did_more : (old mid new : FolderSeen) (name bytes : List ℕ) (faults : ℕ) (deeds : Deeds) → Did old mid (with_reading no_deeds name bytes faults) → Did mid new deeds → Did old new (record { names = name ∷ deeds.names; readings = record { name = name; taken = bytes; faults = faults } ∷ deeds.readings })
did_more old mid new name bytes faults deeds first second =
    second ∙ (ap (option_map (told_after deeds)) first ∙ joined old.told)
  where
    both : Deeds
    both = record { names = name ∷ deeds.names; readings = record { name = name; taken = bytes; faults = faults } ∷ deeds.readings }

    joined : (told : Option Telling) → option_map (told_after deeds) (option_map (told_after (with_reading no_deeds name bytes faults)) told) ≡ option_map (told_after both) told
    joined None = refl
    joined (Some t) =
        ap Some (ap (λ names. record t { asked = names; reads = t.reads ++ record { name = name; taken = bytes; faults = faults } ∷ [] ++ deeds.readings }) (append_assoc t.asked (name ∷ []) deeds.names)
        ∙ ap (λ reads. record t { asked = t.asked ++ (name ∷ [] ++ deeds.names); reads = reads }) (append_assoc t.reads (record { name = name; taken = bytes; faults = faults } ∷ []) deeds.readings))

-- bytes that weren't read have no value
pub no_bytes : {A : Type 0} (Has : List ℕ → A → Type 0) (Refuses : List ℕ → List ℕ → Type 0) (old new : FolderSeen) (name : List ℕ) (f : FileFault) (result : Result A FileFault) → IsErrAnd result (λ e. e ≡ f) → NoValue old new no_deeds name RefusesNone f → ValueEnds Has Refuses old new name result
no_bytes Has Refuses old new name f (Ok value) h ends = absurd h
no_bytes Has Refuses old new name f (Err e) h ends = subst (NoValue old new no_deeds name Refuses) (sym h) (at f ends)
  where
    at : (f : FileFault) → NoValue old new no_deeds name RefusesNone f → NoValue old new no_deeds name Refuses f
    at why.Missing ends = ends
    at why.Unread ends = ends
    at why.Long ends = ends
    at (why.Refused line) ends = absurd ends.so
    at why.Memory ends = ends
