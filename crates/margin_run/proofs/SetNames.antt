-- The names of the sets of a terms file are full names.
use Rattle.std.proofs.Common.{◌≡◌, ℕ, ◌+◌, Bool, true, false, cond, List, [], ◌∷◌, ◌++◌, Option, Some, ok_or, Result, Ok, Err, codes, refl, subst}
use Rattle.std.specs.List.{AllByRecursion}
use Rattle.toml.specs.Data.{Data, Items, no_items, item, Members, get_member}
use Rattle.csa_terms.specs.SimmKinds.NameText.{is_full_name}
use Rattle.csa_terms.specs.declared.fault.TermsFault.TheVariants.{BadName, Toml}
use Rattle.csa_terms.specs.declared.terms_path.TermsTable.TheVariants.{Own}
use Rattle.csa_terms.specs.Faults.{of_value}
use Rattle.csa_terms.specs.Paths.{key_path, set_path, sets_path}
use Rattle.csa_terms.specs.Terms.{Agreement, Agreements}
use Rattle.csa_terms.specs.Values.{set_name_of, minute_of}
use Rattle.csa_terms.specs.Grammar.{amounts_of, fx_haircut_of, haircut_table_of, holiday_list_of, collect_of, post_of, set_of, set_of_place, set_at, few_sets, some_table, repeated, once_each, terms_of_table, terms_of}
use Rattle.feed_gate.specs.SetCore.ParamsFile.TomlValues.Answers.{◌>>=◌}
use Rattle.feed_gate.specs.SetCore.ParamsFile.TomlValues.Values.{items_count, text_of, array_of, table_of}
use Rattle.feed_gate.specs.SetCore.ParamsFile.TomlValues.Places.{each_of}
use Rattle.feed_gate.specs.SetCore.ParamsFile.TomlValues.Document.{document_of}

-- what holds of each value that a chain may come to behind its first part
behind : {A B E : Type 0} (P : B → Type 0) (first : Result A E) (more : A → Result B E) (y : B) → (first >>= more) ≡ Ok y → ((x : A) → first ≡ Ok x → more x ≡ Ok y → P y) → P y
behind P (Ok x) more y h holds = holds x refl h
behind P (Err e) more y h holds = absurd cc

-- what holds of a value holds of what a chain comes to with it
arrived : {A E : Type 0} (P : A → Type 0) (x y : A) (result : Result A E) → result ≡ Ok x → result ≡ Ok y → P x → P y
arrived P x y result is h holds = let same : x ≡ y = cc in subst P same holds

-- a test that is passed
passed : {A E : Type 0} (P : A → Type 0) (test : Bool) (x y : A) (e : E) → cond test (Ok x) (Err e) ≡ Ok y → (test ≡ true → P x) → P y
passed P true x y e h holds = let same : x ≡ y = cc in subst P same (holds refl)
passed P false x y e h holds = absurd cc

abbrev IsFull : List ℕ → Type 0
IsFull name = is_full_name name ≡ true

name_full : (path : List ℕ) (value : Option Data) (name : List ℕ) → set_name_of path value ≡ Ok name → IsFull name
unfolding set_name_of
name_full path value name h =
    behind IsFull (of_value (text_of path value)) _ name h (λ text is more. passed IsFull (is_full_name text) text name (BadName path) more (λ full. full))

collect_full : (set : ℕ) (table : Members) (collect : Agreement) → collect_of set table ≡ Ok collect → IsFull collect.name
unfolding collect_of
collect_full set table collect h =
    let Named : Agreement → Type 0 = λ c. IsFull c.name in
    let path = key_path (Own set) (codes "name") in
    let value = get_member (codes "name") table in
    behind Named (set_name_of path value) _ collect h (λ name is more.
    behind Named (of_value (amounts_of (Own set) table)) _ collect more (λ cents _ more.
    behind Named (minute_of (key_path (Own set) (codes "notification")) (get_member (codes "notification") table)) _ collect more (λ notification _ more.
    behind Named (of_value (fx_haircut_of (Own set) table)) _ collect more (λ fx_haircut _ more.
    behind Named (haircut_table_of (Own set) table) _ collect more (λ haircuts _ more.
    behind Named (holiday_list_of set table) _ collect more (λ holidays _ more.
    arrived Named _ collect _ refl more (name_full path value name is)))))))

-- the name of a set is a full name
abbrev pub IsNamed : Agreements → Type 0
IsNamed t = IsFull t.collect.name

set_named : (number : ℕ) (table : Members) (t : Agreements) → set_of number table ≡ Ok t → IsNamed t
unfolding set_of
set_named number table t h =
    behind IsNamed (collect_of number table) _ t h (λ collect is more.
    behind IsNamed (post_of number (get_member (codes "post") table) collect) _ t more (λ post _ more.
    arrived IsNamed _ t _ refl more (collect_full number table collect is)))

place_named : (number : ℕ) (value : Data) (t : Agreements) → set_of_place number value ≡ Ok t → IsNamed t
unfolding set_of_place
place_named number value t h = behind IsNamed (of_value (table_of (set_path number) (Some value))) _ t h (λ table _ more. set_named number table t more)

places_named : (number : ℕ) (before : List Agreements) (places : Items) (ts : List Agreements) → each_of set_at number before places ≡ Ok ts → AllByRecursion IsNamed ts
unfolding each_of
places_named number before no_items ts h = arrived (AllByRecursion IsNamed) [] ts _ refl h tt
places_named number before (item value rest) ts h =
    let Named : List Agreements → Type 0 = AllByRecursion IsNamed in
    behind Named (set_at number before value) _ ts h (λ one is more.
    behind Named (each_of set_at (number + 1) (before ++ one ∷ []) rest) _ ts more (λ others are more.
    arrived Named (one ∷ others) ts _ refl more (place_named number value one is, places_named (number + 1) (before ++ one ∷ []) rest others are)))

table_named : (root : Members) (ts : List Agreements) → terms_of_table root ≡ Ok ts → AllByRecursion IsNamed ts
unfolding terms_of_table
table_named root ts h =
    let Named : List Agreements → Type 0 = AllByRecursion IsNamed in
    behind Named (of_value (array_of sets_path (get_member (codes "set") root))) _ ts h (λ places _ more.
    behind Named (few_sets (items_count places)) _ ts more (λ few _ more.
    behind Named (of_value (some_table places)) _ ts more (λ some _ more.
    behind Named (each_of set_at 1 [] places) _ ts more (λ sets are more.
    behind Named (once_each (repeated [] sets)) _ ts more (λ different _ more.
    arrived Named sets ts _ refl more (places_named 1 [] places sets are))))))

pub terms_named : (bytes : List ℕ) (ts : List Agreements) → terms_of bytes ≡ Ok ts → AllByRecursion IsNamed ts
unfolding terms_of
terms_named bytes ts h = behind (AllByRecursion IsNamed) (ok_or (document_of bytes) Toml) _ ts h (λ root _ more. table_named root ts more)
