-- Fields that are read one after another.
use Rattle.std.proofs.Common.{◌≡◌, ◌<◌, ◌==◌, ◌∷◌, [], ◌++◌, ◌&&◌, not, ℕ, Bool, true, false, cond, List, Option, Some, None, is_some, Bor, length, refl, sym, ap, ◌∙◌, arith, append_assoc, option_map}
use Rattle.std.specs.List.{list_all}
use Rattle.std.proofs.lemmas.List.{append-nil}
use Rattle.std.proofs.lemmas.List.Folds.{list_all-append}
use Rattle.side_events.specs.CsaTerms.SimmKinds.NameText.{is_full_name}
use Rattle.feed_reader.specs.Fields.{fields_of, first, is_nil}
use Rattle.feed_reader.specs.Values.{full_name, full_names}
use Rattle.mh_io.proofs.MhUnits.Cuts.{first_part}

-- a line has a field
pub some_field : (line : List ℕ) → false ≡ is_nil (fields_of line)
some_field line = let f = first_part (λ b. b == 9) line in rw f.2 refl

pub some_left : (rest : Option (Bor (List ℕ))) → is_some rest ≡ not (is_nil (elim rest [ None ↦ [] | Some line ↦ fields_of line.now ]))
some_left None = refl
some_left (Some line) = ap not (some_field line.now)

-- the first field was a name, and these are behind it
pub record ReadsName (left further : List (List ℕ)) (name : List ℕ) : Type 0 where
  pub fields : left ≡ name ∷ further
  pub full : is_full_name name ≡ true

-- the first field with those behind it, where it is a name
first_if : Bool → List ℕ → List (List ℕ) → Option (List ℕ × List (List ℕ))
first_if true field fields = Some (field, fields)
first_if false field fields = None

first_is : (b : Bool) (field : List ℕ) (fields : List (List ℕ)) → option_map (λ (value : List ℕ). let both : List ℕ × List (List ℕ) = (value, fields) in both) (cond b (Some field) None) ≡ first_if b field fields
unfolding first_if
first_is true field fields = refl
first_is false field fields = refl

some_is : {A : Type 0} {x y : A} → Some x ≡ Some y → x ≡ y
some_is is = cc

read_if : (b : Bool) (field name : List ℕ) (fields further : List (List ℕ)) → first_if b field fields ≡ Some (name, further) → (b ≡ true) × (field ≡ name) × (fields ≡ further)
unfolding first_if
read_if true field name fields further is =
    let same = some_is is in (refl, ap (λ (both : List ℕ × List (List ℕ)). both.0) same, ap (λ (both : List ℕ × List (List ℕ)). both.1) same)
read_if false field name fields further is = absurd (cc is)

not_read_if : (b : Bool) (field : List ℕ) (fields : List (List ℕ)) → first_if b field fields ≡ None → b ≡ false
unfolding first_if
not_read_if true field fields is = absurd (cc is)
not_read_if false field fields is = refl

pub name_read : (left further : List (List ℕ)) (name : List ℕ) → first full_name left ≡ Some (name, further) → ReadsName left further name
name_read [] further name is = absurd (cc is)
name_read (field ∷ fields) further name is =
    let r = read_if (is_full_name field) field name fields further (sym (first_is (is_full_name field) field fields) ∙ is) in
    record { fields = cc (r.1, r.2); full = ap is_full_name (sym r.1) ∙ r.0 }

-- one name more was read
pub record HasNames (names left all : List (List ℕ)) : Type 0 where
  pub fields : names ++ left ≡ all
  pub full : list_all is_full_name names ≡ true

pub one_more : (names left further all : List (List ℕ)) (name : List ℕ) → HasNames names left all → first full_name left ≡ Some (name, further) → HasNames (names ++ name ∷ []) further all
one_more names left further all name has is =
    let r = name_read left further name is in
    record {
      fields = append_assoc names (name ∷ []) further ∙ (ap (λ fs. names ++ fs) (sym r.fields) ∙ has.fields);
      full = rw (list_all-append, has.full, r.full) refl;
    }

-- the list grew
pub some_names : (names : List (List ℕ)) (name : List ℕ) → is_nil (names ++ name ∷ []) ≡ false
some_names [] name = refl
some_names (n ∷ names) name = refl

-- it is no name
no_name : (left : List (List ℕ)) → is_nil left ≡ false → first full_name left ≡ None → list_all is_full_name left ≡ false
no_name [] some is = absurd (cc some)
no_name (field ∷ fields) some is = rw (not_read_if (is_full_name field) field fields (sym (first_is (is_full_name field) field fields) ∙ is)) refl

-- then the fields aren't names
pub not_names : (names left all : List (List ℕ)) → HasNames names left all → is_nil left ≡ false → first full_name left ≡ None → full_names all ≡ None
not_names names left all has some is =
    let none : list_all is_full_name all ≡ false = rw (← has.fields, list_all-append, has.full, no_name left some is) refl in
    (elim (is_nil all) as (λ b. cond (not b && list_all is_full_name all) (Some all) None ≡ None) [ true ↦ refl | false ↦ rw none refl ])

pub no_first_name : (all : List (List ℕ)) → first full_name all ≡ None → full_names all ≡ None
no_first_name [] is = refl
no_first_name (field ∷ fields) is = not_names [] (field ∷ fields) (field ∷ fields) (record { fields = refl; full = refl }) refl is

-- all were read
pub all_names : (names left all : List (List ℕ)) → HasNames names left all → is_nil names ≡ false → is_nil left ≡ true → full_names all ≡ Some names
all_names names [] all has some done =
    let same : all ≡ names = sym has.fields ∙ append-nil names in
    rw (same, some, has.full) refl
all_names names (field ∷ left) all has some done = absurd (cc done)

-- fewer are left
pub fewer : (left further : List (List ℕ)) (name : List ℕ) → first full_name left ≡ Some (name, further) → length further < length left
fewer left further name is = let r = name_read left further name is in rw r.fields (omega arith)
