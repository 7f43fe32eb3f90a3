-- Sources that are found and handed back, one after another.
use Rattle.std.proofs.Common.{◌≡◌, ℕ, ◌+◌, ◌<◌, ◌≤◌, arith, List, [], ◌∷◌, ◌++◌, length, map, take, drop, get_or, Option, Some, None, IfSome, option_map, append-nil, append_assoc, Ok, Err, refl, sym, ap, ◌∙◌, subst}
use Rattle.std.specs.List.{AllByRecursion, AllZip}
use Rattle.std.proofs.lemmas.List.{length-append, map-append, take-append-drop, drop_more}
use Rattle.mh_io.specs.Faults.{Rises}
use Rattle.mh_io.specs.Source.{SourceSeen}
use Rattle.mh_io.specs.Folder.{Telling, Reading, FolderSeen, with_asked, with_read, told_after_done, IsFound, Finds, TakesBack}
use Rattle.mh_io.specs.declared.folder.FindRefused.{FindRefused}
use Rattle.mh_io.specs.declared.folder.FindRefused.TheVariants as find
use Rattle.command_files.specs.Faults.{fault_of_find}
use Rattle.command_files.specs.Files.{told_after, Did, FindEnds}
use Rattle.command_files.proofs.FileLemmas.{rises_by, rises_earlier, rises_later}
use Rattle.command_files.proofs.AfterParamsLemmas.{files_before}
use Rattle.feed_files.specs.Sources.{IsFresh, FindsAll, told_after_all, TakesAllBack}
use Rattle.feed_files.specs.Unrun.{untouched, handed_back}

-- ---- words

-- the words before a place, the one at it, and those behind it
pub split_words : {V : Type 0} (f : V → List ℕ) (xs : List V) (i : ℕ) (x : V) → i < length xs → x ≡ get_or xs i x → map f xs ≡ map f (take i xs) ++ f x ∷ map f (drop (i + 1) xs)
split_words f xs i x within is =
    ap (map f) (sym (take-append-drop i xs)) ∙ map-append f (take i xs) (drop i xs)
    ∙ ap (λ ys. map f (take i xs) ++ map f ys) (drop_more xs i x within)
    ∙ ap (λ y. map f (take i xs) ++ f y ∷ map f (drop (i + 1) xs)) (sym is)

-- ---- what a folder is told of sources

-- the source tells this reading
pub record Tells (reading : Reading) (s : SourceSeen) : Type 0 where
  pub name : s.name ≡ Some reading.name
  pub gave : s.gave ≡ Some reading.taken
  pub faults : s.faults ≡ reading.faults

tells_one : (t : Telling) (reading : Reading) (s : SourceSeen) → Tells reading s → told_after_done (Some t) s.name s.gave s.faults ≡ Some (with_read reading t)
tells_one t reading s tells =
    ap (λ n. told_after_done (Some t) n s.gave s.faults) tells.name
    ∙ (ap (λ g. told_after_done (Some t) (Some reading.name) g s.faults) tells.gave
    ∙ ap (λ n. Some (with_read (record { name = reading.name; taken = reading.taken; faults = n }) t)) tells.faults)

tells_all : (t : Telling) (readings : List Reading) (sources : List SourceSeen) → AllZip Tells readings sources → told_after_all (Some t) sources ≡ Some (record t { reads = t.reads ++ readings })
tells_all t [] [] all = ap (λ reads. Some (record t { reads = reads })) (sym (append-nil t.reads))
tells_all t [] (s ∷ sources) all = absurd all
tells_all t (r ∷ readings) [] all = absurd all
tells_all t (r ∷ readings) (s ∷ sources) all =
    ap (λ told. told_after_all told sources) (tells_one t r s all.0)
    ∙ (tells_all (with_read r t) readings sources all.1
    ∙ ap (λ reads. Some (record t { reads = reads })) (append_assoc t.reads (r ∷ []) readings))

tells_nothing : (sources : List SourceSeen) → told_after_all None sources ≡ None
tells_nothing [] = refl
tells_nothing (s ∷ sources) = tells_nothing sources

-- names were asked for, and then sources came back
pub told_all : (old mid new : Option Telling) (names : List (List ℕ)) (readings : List Reading) (sources : List SourceSeen) → mid ≡ option_map (told_after (record { names = names; readings = [] })) old → IfSome old (λ t. AllZip Tells readings sources) → new ≡ told_after_all mid sources → new ≡ option_map (told_after (record { names = names; readings = readings })) old
told_all None mid new names readings sources asked tells back = back ∙ (ap (λ told. told_after_all told sources) asked ∙ tells_nothing sources)
told_all (Some t) mid new names readings sources asked tells back =
    back
    ∙ (ap (λ told. told_after_all told sources) asked
    ∙ (tells_all (record t { asked = t.asked ++ names; reads = t.reads ++ [] }) readings sources tells
    ∙ ap (λ reads. Some (record t { asked = t.asked ++ names; reads = reads ++ readings })) (append-nil t.reads)))

-- ---- one file more is found

asked_more : (told : Option Telling) (before : List (List ℕ)) (name : List ℕ) → option_map (with_asked name) (option_map (told_after (record { names = before; readings = [] })) told) ≡ option_map (told_after (record { names = before ++ name ∷ []; readings = [] })) told
asked_more None before name = refl
asked_more (Some t) before name = ap (λ names. Some (record t { asked = names; reads = t.reads ++ [] })) (append_assoc t.asked before (name ∷ []))

push_zip : {X Y : Type 0} (R : X → Y → Type 0) (xs : List X) (ys : List Y) (x : X) (y : Y) → AllZip R xs ys → R x y → AllZip R (xs ++ x ∷ []) (ys ++ y ∷ [])
push_zip R [] [] x y all here = (here, tt)
push_zip R [] (b ∷ ys) x y all here = absurd all
push_zip R (a ∷ xs) [] x y all here = absurd all
push_zip R (a ∷ xs) (b ∷ ys) x y all here = (all.0, push_zip R xs ys x y all.1 here)

pub found_more : {S : Type 0} (seen : S → SourceSeen) (old mid new : FolderSeen) (names : List (List ℕ)) (sources : List SourceSeen) (name : List ℕ) (source : S) → FindsAll old mid names sources → Finds seen mid new name (Ok source) → FindsAll old new (names ++ name ∷ []) (sources ++ seen source ∷ [])
found_more seen old mid new names sources name source found one = record {
  did = one.told ∙ ap (option_map (with_asked name)) found.did ∙ asked_more old.told names name;
  finds = omega (arith, found.finds, one.count);
  reads = one.reads_stand ∙ found.reads;
  due = omega (arith, one.due, found.due, length-append sources (seen source ∷ []));
  each = push_zip (IsFresh old) names sources name (seen source) found.each
      (record { clean = one.clean; found = files_before old.told mid.told (record { names = names; readings = [] }) (λ files. IsFound files name (seen source)) found.did one.found });
}

-- ---- sources come back

pub back_none : (folder : FolderSeen) → TakesAllBack folder folder []
back_none folder = record { told = refl; finds = refl; count = omega arith; rises = tt; due = omega arith }

all_after : (told : Option Telling) (xs : List SourceSeen) (x : SourceSeen) → told_after_all told (xs ++ x ∷ []) ≡ told_after_done (told_after_all told xs) x.name x.gave x.faults
all_after told [] x = refl
all_after told (y ∷ xs) x = all_after (told_after_done told y.name y.gave y.faults) xs x

rises_on : (old mid new : ℕ) (xs : List SourceSeen) → mid ≤ new → AllByRecursion (λ s. 0 < s.faults → Rises old mid) xs → AllByRecursion (λ s. 0 < s.faults → Rises old new) xs
rises_on old mid new [] more all = tt
rises_on old mid new (x ∷ xs) more all = ((λ some. rises_later old mid new (all.0 some) more), rises_on old mid new xs more all.1)

push_all : {X : Type 0} (P : X → Type 0) (xs : List X) (x : X) → AllByRecursion P xs → P x → AllByRecursion P (xs ++ x ∷ [])
push_all P [] x all here = (here, tt)
push_all P (y ∷ xs) x all here = (all.0, push_all P xs x all.1 here)

pub back_more : (old mid new : FolderSeen) (xs : List SourceSeen) (x : SourceSeen) → TakesAllBack old mid xs → TakesBack mid new x → TakesAllBack old new (xs ++ x ∷ [])
back_more old mid new xs x all one = record {
  told = one.told ∙ (ap (λ told. told_after_done told x.name x.gave x.faults) all.told ∙ sym (all_after old.told xs x));
  finds = one.finds_stand ∙ all.finds;
  count = omega (arith, all.count, one.count);
  rises = push_all (λ s. 0 < s.faults → Rises old.read_faults new.read_faults) xs x (rises_on old.read_faults mid.read_faults new.read_faults xs one.count all.rises)
      (λ some. rises_earlier old.read_faults mid.read_faults new.read_faults all.count (rises_by mid.read_faults new.read_faults x.faults one.count one.rises some));
  due = omega (arith, length-append xs (x ∷ []), all.due, one.due);
}

-- ---- sources that weren't run

fresh_tells : (t : Telling) (name : List ℕ) (s : SourceSeen) → s.faults ≡ 0 → IsFound t.files name s → Tells (untouched name) s
fresh_tells t name s clean is = record { name = is.named; gave = is.fresh; faults = clean }

fresh_all : (folder : FolderSeen) (t : Telling) (names : List (List ℕ)) (sources : List SourceSeen) → folder.told ≡ Some t → AllZip (IsFresh folder) names sources → AllZip Tells (map untouched names) sources
fresh_all folder t [] [] told all = tt
fresh_all folder t [] (s ∷ sources) told all = absurd all
fresh_all folder t (n ∷ names) [] told all = absurd all
fresh_all folder t (n ∷ names) (s ∷ sources) told all = (
  fresh_tells t n s all.0.clean (subst (λ o. IfSome o (λ f. IsFound f.files n s)) told all.0.found),
  fresh_all folder t names sources told all.1,
)

pub where_told : {P : Type 0} (told : Option Telling) → ((t : Telling) → told ≡ Some t → P) → IfSome told (λ t. P)
where_told None at = tt
where_told (Some t) at = at t refl

-- all that were found come back untouched
pub back_untouched : (old mid new : FolderSeen) (names : List (List ℕ)) (sources : List SourceSeen) → FindsAll old mid names sources → TakesAllBack mid new sources → Did old new (handed_back names)
back_untouched old mid new names sources found back =
    told_all old.told mid.told new.told names (map untouched names) sources found.did
    (where_told old.told (λ t told. fresh_all old t names sources told found.each)) back.told

-- a file that wasn't found, and those before it come back
pub missing_after : (S : Type 0) (seen : S → SourceSeen) (old mid next new : FolderSeen) (before : List (List ℕ)) (name : List ℕ) (sources : List SourceSeen) (r : FindRefused) → FindsAll old mid before sources → Finds seen mid next name (Err r) → TakesAllBack next new sources → FindEnds old new (handed_back before) name (fault_of_find r)
missing_after S seen old mid next new before name sources find.Failed found one back = record {
  did = told_all old.told next.told new.told (before ++ name ∷ []) (map untouched before) sources
      (one.told ∙ ap (option_map (with_asked name)) found.did ∙ asked_more old.told before name)
      (where_told old.told (λ t told. fresh_all old t before sources told found.each)) back.told;
  rose = subst (Rises old.find_faults) (sym back.finds) (rises_earlier old.find_faults mid.find_faults next.find_faults found.finds (one.failed refl));
}
missing_after S seen old mid next new before name sources find.Memory found one back =
    told_all old.told next.told new.told before (map untouched before) sources (one.told ∙ found.did)
    (where_told old.told (λ t told. fresh_all old t before sources told found.each)) back.told
