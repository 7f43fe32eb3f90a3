-- What a folder that tells a file excludes: what was read is the file, and where it fits no fault of it comes.
use Rattle.std.proofs.Common.{◌≡◌, ℕ, ◌≤◌, List, ◌++◌, length, Option, Some, IfSome, Result, Ok, Err, IsOkAnd, IsErrAnd, ap, refl, subst, length-append, arith}
use Rattle.std.specs.Result.{result_ok}
use Rattle.mh_io.specs.Faults.{Rises}
use Rattle.mh_io.specs.Folder.{Telling, file_of, FolderSeen}
use Rattle.mh_io.specs.Limits.{most_bytes}
use Rattle.simm_rules.specs.Params.{Params}
use Rattle.params_file.specs.declared.fault.ParamFault.{ParamFault}
use Rattle.params_file.specs.Grammar.{params_of, params_read}
use Rattle.simm_kinds.specs.declared.row.TradeRows.{TradeRows}
use Rattle.crif_reader.specs.declared.fault.CrifFault.{CrifFault}
use Rattle.crif_reader.specs.Grammar.{Crif, crif_of}
use Rattle.csa_terms.specs.Grammar.{terms_of}
use Rattle.csa_terms.specs.Terms.{Agreements}
use Rattle.fault_text.specs.CrifLine.{crif_fault}
use Rattle.fault_text.specs.ParamsLine.{params_fault}
use Rattle.fault_text.specs.TermsLine.{terms_fault}
use Rattle.command_files.specs.declared.fault.FileFault.{FileFault}
use Rattle.command_files.specs.declared.fault.FileFault.TheVariants as why
use Rattle.command_files.specs.Files.{Deeds, NoValue}
use Rattle.command_files.specs.Grammars.{RefusesParams, RefusesTerms, GivesTrades, RefusesTrades}

-- what was read whole of a file is the file
pub same_bytes : (told : Option Telling) (t : Telling) (name a b : List ℕ) → told ≡ Some t
    → IfSome told (λ t. file_of t.files name ≡ Some a) → file_of t.files name ≡ Some b → a ≡ b
same_bytes told t name a b e h known =
    let there : file_of t.files name ≡ Some a = subst (λ o. IfSome o (λ t. file_of t.files name ≡ Some a)) e h in
    cc

-- what was taken of a file is a front of it
pub front_bytes : (told : Option Telling) (t : Telling) (name taken bytes : List ℕ) → told ≡ Some t
    → IfSome told (λ t. (rest : List ℕ) × (file_of t.files name ≡ Some (taken ++ rest)))
    → file_of t.files name ≡ Some bytes → (rest : List ℕ) × (taken ++ rest ≡ bytes)
front_bytes told t name taken bytes e h known =
    let IsFront : Telling → Type 0 = λ t. (rest : List ℕ) × (file_of t.files name ≡ Some (taken ++ rest)) in
    let front : IsFront t = subst (λ o. IfSome o IsFront) e h in
    let whole : file_of t.files name ≡ Some (taken ++ front.0) = front.1 in
    let same : taken ++ front.0 ≡ bytes = cc in
    (front.0, same)

-- of a file that fits and isn't refused no fault comes but want of memory, where no count rose
pub only_memory_for : (old new : FolderSeen) (before : Deeds) (name bytes : List ℕ) (Refuses : List ℕ → List ℕ → Type 0)
    (t : Telling) (f : FileFault) → old.told ≡ Some t → file_of t.files name ≡ Some bytes
    → length bytes ≤ most_bytes → ((line : List ℕ) → Refuses bytes line → ⊥)
    → (Rises old.find_faults new.find_faults → ⊥) → (Rises old.read_faults new.read_faults → ⊥)
    → NoValue old new before name Refuses f → f ≡ why.Memory
only_memory_for old new before name bytes Refuses t why.Missing told has few so finds reads h = absurd (finds h.rose)
only_memory_for old new before name bytes Refuses t why.Unread told has few so finds reads h = absurd (reads h.rose)
only_memory_for old new before name bytes Refuses t why.Long told has few so finds reads h =
    let front = front_bytes old.told t name h.taken bytes told (h.long).front has in
    absurd (omega (arith, ap length front.1, length-append h.taken front.0, (h.long).many))
only_memory_for old new before name bytes Refuses t (why.Refused line) told has few so finds reads h =
    let same = same_bytes old.told t name h.bytes bytes told (h.whole).whole has in
    absurd (so line (subst (λ read. Refuses read line) same h.so))
only_memory_for old new before name bytes Refuses t why.Memory told has few so finds reads h = refl

-- bytes that give parameters are not refused
pub params_taken : (bytes : List ℕ) (p : Params) → params_of bytes ≡ Some p → (line : List ℕ) → RefusesParams bytes line → ⊥
unfolding params_of
params_taken bytes p known line refused = at (params_read bytes) known refused
  where
    at : (read : Result Params ParamFault) → result_ok read ≡ Some p → IsErrAnd read (λ e. line ≡ params_fault e) → ⊥
    at (Ok q) known refused = absurd refused
    at (Err e) known refused = cc

-- bytes that give a batch are not refused
pub trades_taken : (word bytes : List ℕ) (trades : List TradeRows) → GivesTrades bytes trades → (line : List ℕ) → RefusesTrades word bytes line → ⊥
trades_taken word bytes trades known line refused = at (crif_of bytes) known refused
  where
    at : (read : Result Crif CrifFault) → IsOkAnd read (λ crif. crif.trades ≡ trades) → IsErrAnd read (λ e. line ≡ crif_fault word e) → ⊥
    at (Ok crif) known refused = absurd refused
    at (Err e) known refused = absurd known

-- bytes that give terms are not refused
pub terms_taken : (bytes : List ℕ) (agreements : List Agreements) → terms_of bytes ≡ Ok agreements → (line : List ℕ) → RefusesTerms bytes line → ⊥
terms_taken bytes agreements known line refused = subst (λ read. IsErrAnd read (λ e. line ≡ terms_fault e)) known refused
