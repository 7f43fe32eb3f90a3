-- The trades of a map, held once more.
use Rattle.std.proofs.Common.{◌≡◌, ◌∙◌, ℕ, List, [], ◌∷◌, ◌++◌, Bool, false, cond, ◌==◌, refl, sym, ap, subst, append_assoc}
use Rattle.std.specs.Cmp.Lexicographic.{pointwise}
use Rattle.std.specs.List.{IsDistinct, AllByRecursion}
use Rattle.std.specs.Map.{keys_of}
use Rattle.std.proofs.lemmas.Map.Keys.{IsDistinct-head, IsDistinct-tail}
use Rattle.indexmap.specs.IndexMap.{insert_entry}
use Rattle.book_margin.specs.SimmKinds.declared.row.CrifRow.{CrifRow}
use Rattle.bucket_cache.proofs.Keeping.{Entries}
use Rattle.bucket_cache.proofs.Maps.{key_test, same_name-sym}

abbrev same_key : List ℕ → List ℕ → Bool
same_key = pointwise ◌==◌

abbrev Entry : Type 0
Entry = List ℕ × List CrifRow

same_key-sym : (a b : List ℕ) → same_key a b ≡ same_key b a
same_key-sym a b = key_test a b ∙ same_name-sym a b ∙ sym (key_test b a)

other_next : (name : List ℕ) (es rest : Entries) (x : Entry) → AllByRecursion (λ other. same_key name other ≡ false) (keys_of (es ++ x ∷ rest)) → same_key name x.0 ≡ false
other_next name [] rest x h = h.0
other_next name (e ∷ es) rest x h = other_next name es rest x h.1

entry_last : (es rest : Entries) (x : Entry) → IsDistinct same_key (keys_of (es ++ x ∷ rest)) → insert_entry same_key es x.0 x.1 ≡ es ++ x ∷ []
entry_last [] rest x h = refl
entry_last (e ∷ es) rest x h =
    ap (λ b. cond b ((e.0, x.1) ∷ es) (e ∷ insert_entry same_key es x.0 x.1))
    (same_key-sym x.0 e.0 ∙ other_next e.0 es rest x (IsDistinct-head same_key e.0 (keys_of (es ++ x ∷ rest)) h))
    ∙ ap (λ fs. e ∷ fs) (entry_last es rest x (IsDistinct-tail same_key e.0 (keys_of (es ++ x ∷ rest)) h))

-- the next trade is put in behind those before it
pub next_held : (done rest left all new : Entries) (name own_name : List ℕ) (rows own_rows : List CrifRow) → IsDistinct same_key (keys_of all) → left ≡ (name, rows) ∷ rest → own_name ≡ name → own_rows ≡ rows
    → new ≡ insert_entry same_key done own_name own_rows → done ++ left ≡ all → new ++ rest ≡ all
next_held done rest left all new name own_name rows own_rows different next named held put whole =
    let all_is : done ++ (name, rows) ∷ rest ≡ all = ap (λ es. done ++ es) (sym next) ∙ whole in
    ap (λ es. es ++ rest) (put ∙ (λ i. insert_entry same_key done (named i) (held i)) ∙ entry_last done rest (name, rows) (subst (λ (es : Entries). IsDistinct same_key (keys_of es)) (sym all_is) different))
    ∙ append_assoc done ((name, rows) ∷ []) rest ∙ all_is
