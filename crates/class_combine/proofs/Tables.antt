-- The table of qualifiers that contracts see of a map.
use Rattle.std.proofs.Common.{◌≡◌, ℕ, List, [], ◌∷◌, Bool, true, false, cond, Option, Some, None, refl, sym, ap, ◌∙◌}
use Rattle.std.specs.Map.{lookup}
use Rattle.std.specs.Ordering.{is_eq}
use Rattle.std.specs.FinMap.{FinMap, get, find, from_entries, get-insert, get-remove, get-from_entries, same_map, nat_cmp-IsAntisymmetric, slice_cmp-IsAntisymmetric}
use Rattle.std.proofs.lemmas.Cmp.{nat_list_cmp_total, tied_itself, eq_by_cmp_equiv}
use Rattle.std.proofs.lemmas.Map.Lookups.{exact_bytes}
use Rattle.std.proofs.lemmas.Map.Views.{tells_apart}
use Rattle.simm_params.specs.SimmKinds.Order.{name_cmp, same_name}
use Rattle.class_combine.specs.declared.notional_sum.NotionalSum.{NotionalSum}
use Rattle.class_combine.specs.Summed.{with_left}

abbrev pub Table : Type 0
Table = FinMap name_cmp NotionalSum

abbrev pub Entries : Type 0
Entries = List (List ℕ × NotionalSum)

-- ---- names

pub same_name-refl : (a : List ℕ) → same_name a a ≡ true
same_name-refl a = ap is_eq (tied_itself nat_list_cmp_total a)

pub same_name-equal : (a b : List ℕ) → same_name a b ≡ true → a ≡ b
same_name-equal a b h = tells_apart exact_bytes a b h

pub same_name-sym : (a b : List ℕ) → same_name a b ≡ same_name b a
same_name-sym a b = (eq_by_cmp_equiv nat_list_cmp_total).symm a b

-- ---- tables

pub same_table : (m n : Table) → ((name : List ℕ) → get m name ≡ get n name) → m ≡ n
same_table m n h = same_map nat_list_cmp_total (slice_cmp-IsAntisymmetric nat_cmp-IsAntisymmetric) m n h

abbrev pub table_of : Entries → Table
table_of es = from_entries {R = name_cmp} es

pub seen : (name : List ℕ) (es : Entries) → lookup (same_name name) es ≡ get (table_of es) name
seen name es = found es ∙ sym (get-from_entries nat_list_cmp_total es name)
  where
    found : (fs : Entries) → lookup (same_name name) fs ≡ find name_cmp name fs
    found [] = refl
    found (e ∷ fs) = ap (cond (same_name name e.0) (Some e.1)) (found fs)

pub get-left : (m : Table) (name : List ℕ) (o : Option NotionalSum) (q : List ℕ) → get (with_left m name o) q ≡ cond (same_name name q) o (get m q)
get-left m name None q = get-remove nat_list_cmp_total m name q ∙ ap (λ t. cond t None (get m q)) (same_name-sym q name)
get-left m name (Some s) q = get-insert nat_list_cmp_total m name s q ∙ ap (λ t. cond t (Some s) (get m q)) (same_name-sym q name)

-- ---- a map that is seen as a table

module _ (old : Entries) (table : Table) (view : table_of old ≡ table) (name : List ℕ) where
  pub held_at : (o : Option NotionalSum) → o ≡ lookup (same_name name) old → o ≡ get table name
  held_at o at = at ∙ seen name old ∙ ap (λ m. get m name) view

  -- the map in which o was written at the name
  pub wrote : (new : Entries) (o its : Option NotionalSum) → ((q : List ℕ) → lookup (same_name q) new ≡ cond (same_name name q) o (lookup (same_name q) old)) → o ≡ its → table_of new ≡ with_left table name its
  wrote new o its h e =
      same_table (table_of new) (with_left table name its)
      (λ q. sym (seen q new) ∙ h q ∙ ap (cond (same_name name q) o) (seen q old) ∙ (λ i. cond (same_name name q) (e i) (get (view i) q)) ∙ sym (get-left table name its q))

  over : (t : Bool) (x y z : Option NotionalSum) → cond t x (cond t y z) ≡ cond t x z
  over true x y z = refl
  over false x y z = refl

  -- the name was taken out after something was written there
  pub dropped : (mid new : Entries) (o its : Option NotionalSum) → ((q : List ℕ) → lookup (same_name q) mid ≡ cond (same_name name q) o (lookup (same_name q) old))
      → ((q : List ℕ) → lookup (same_name q) new ≡ cond (same_name name q) None (lookup (same_name q) mid)) → None ≡ its → table_of new ≡ with_left table name its
  dropped mid new o its f g e =
      wrote new None its (λ q. g q ∙ ap (cond (same_name name q) None) (f q) ∙ over (same_name name q) None o (lookup (same_name q) old)) e
