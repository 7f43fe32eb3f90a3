-- Files of a folder over memory, looked up by name.
use Rattle.std.proofs.Common.{◌≡◌, ℕ, Bool, true, false, cond, List, [], ◌∷◌, Option, Some, None, map, find, option_map, bytes_eq, refl, sym, ap, ◌∙◌}
use Rattle.std.proofs.lemmas.Slice.Eq.{bytes_eq-Decides}
use Rattle.mh_io.specs.Folder.{File, file_of, IsFound}
use Rattle.mh_io.specs.Memory.{MemoryFile, MemorySource, file_told, is_named, opened, source_seen}

-- the file that is told is the file that is there
pub file_of-told : (files : List MemoryFile) (name : List ℕ) → file_of (map file_told files) name ≡ option_map (λ f. f.bytes) (find (is_named name) files)
file_of-told [] name = refl
file_of-told (f ∷ fs) name =
    elim (bytes_eq f.name name) as (λ b. option_map (λ (g : File). g.bytes) (cond b (Some (file_told f)) (find (λ (g : File). bytes_eq g.name name) (map file_told fs))) ≡ option_map (λ (g : MemoryFile). g.bytes) (cond b (Some f) (find (is_named name) fs)))
    [ true ↦ refl | false ↦ file_of-told fs name ]

-- what is found passes the test
pub find_passes : {X : Type 0} (p : X → Bool) (xs : List X) (x : X) → find p xs ≡ Some x → p x ≡ true
find_passes p [] x h = cc
find_passes {X} p (y ∷ ys) x h =
    (elim (p y) as (λ b. p y ≡ b → cond b (Some y) (find p ys) ≡ Some x → p x ≡ true)
    [ true ↦ λ here is. cc | false ↦ λ _ is. find_passes p ys x is ]) refl h

-- a source of the file that was looked up is one that was found
pub found_file : (files : List MemoryFile) (name : List ℕ) (source : MemorySource) (found : Option MemoryFile) → find (is_named name) files ≡ found → option_map opened found ≡ Some source → IsFound (map file_told files) name (source_seen source)
found_file files name source None here is = cc
found_file files name source (Some file) here is =
    let same : source ≡ opened file = cc in
    let named : file.name ≡ name = (bytes_eq-Decides file.name name).0 (find_passes (is_named name) files file here) in
    record {
      named = ap (λ (s : MemorySource). Some s.name) same ∙ ap (λ (xs : List ℕ). Some xs) named;
      fresh = ap (λ (s : MemorySource). Some s.gave) same;
      whole = ap (λ (s : MemorySource). Some s.left) same ∙ sym (file_of-told files name ∙ ap (λ o. option_map (λ (g : MemoryFile). g.bytes) o) here);
      there = refl;
    }
