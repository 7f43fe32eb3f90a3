-- What is kept of bytes that are cut in place: no quote is left, and of ASCII bytes each field is ASCII.
use Rattle.std.proofs.Common.{◌≡◌, ◌+◌, ◌++◌, ◌∷◌, [], ℕ, suc, true, false, cond, List, drop, take, ap, subst, sym, ◌∙◌}
use Rattle.std.specs.Borrow.{Bor}
use Rattle.std.specs.List.{AllByRecursion}
use Rattle.std.specs.Prelude.{map}
use Rattle.std.specs.Str.{IsAscii}
use Rattle.std.proofs.lemmas.List.{drop-drop, map-append}
use Rattle.std.proofs.lemmas.Str.{IsAscii-drop, IsAscii-take}
use Rattle.crif_records.specs.Plain.{is_line_end, plain_fields, without_leading_line_ends, IsPlain}
use Rattle.crif_records.specs.declared.plain.PlainRecords.{PlainRecords}
use Rattle.crif_records.proofs.PlainReads.{quoteless_drop, quoteless_record}

one_more : {X : Type 0} (P : X → Type 0) (xs : List X) (x : X) → AllByRecursion P xs → P x → AllByRecursion P (xs ++ x ∷ [])
one_more P [] x all one = (one, all)
one_more P (y ∷ ys) x all one = (all.0, one_more P ys x all.1 one)

behind_line_ends : (bytes : List ℕ) → IsAscii bytes → IsAscii (without_leading_line_ends bytes)
behind_line_ends [] h = h
behind_line_ends (b ∷ bs) h =
    elim (is_line_end b) as (λ ends. IsAscii (cond ends (without_leading_line_ends bs) (b ∷ bs))) [
      | true ↦ behind_line_ends bs (λ i. h (suc i))
      | false ↦ h
    ]

pub field_pushed : (before after : List (Bor (List ℕ))) (field : Bor (List ℕ)) → after ≡ before ++ field ∷ [] → map (λ f. f.now) after ≡ map (λ f. f.now) before ++ field.now ∷ []
field_pushed before after field pushed = ap (map (λ f. f.now)) pushed ∙ map-append (λ (f : Bor (List ℕ)). f.now) before (field ∷ [])

-- what stands behind a field and the byte after it
pub behind_field : (b n : ℕ) (rest bytes : List ℕ) → b ∷ rest ≡ drop n bytes → rest ≡ drop (n + 1) bytes
behind_field b n rest bytes back = ap (drop 1) back ∙ drop-drop 1 n bytes

-- a field was taken, and so many bytes of the front
pub plain_pushed : (old new : PlainRecords) (field : Bor (List ℕ)) (n m : ℕ) → IsPlain old → new.is_ascii ≡ old.is_ascii
    → new.fields.items ≡ old.fields.items ++ field ∷ [] → field.now ≡ take n old.rest.now → new.rest.now ≡ drop m old.rest.now → IsPlain new
plain_pushed old new field n m plain same pushed front back = record {
  quoteless = rw back (quoteless_drop m old.rest.now plain.quoteless);
  left = λ ascii. subst IsAscii (sym back) (IsAscii-drop old.rest.now m (plain.left (sym same ∙ ascii)));
  fields = λ ascii.
      let kept = sym same ∙ ascii in
      subst (AllByRecursion IsAscii) (sym (field_pushed old.fields.items new.fields.items field pushed))
      (one_more IsAscii (plain_fields old) field.now (plain.fields kept) (subst IsAscii (sym front) (IsAscii-take old.rest.now n (plain.left kept))));
}

-- a record begins: it has no field yet
pub plain_begins : (old new : PlainRecords) → IsPlain old → new.is_ascii ≡ old.is_ascii → new.fields.items ≡ [] → new.rest.now ≡ without_leading_line_ends old.rest.now → IsPlain new
plain_begins old new plain same none back = record {
  quoteless = rw back (quoteless_record old.rest.now plain.quoteless);
  left = λ ascii. subst IsAscii (sym back) (behind_line_ends old.rest.now (plain.left (sym same ∙ ascii)));
  fields = λ ascii. subst (λ (items : List (Bor (List ℕ))). AllByRecursion IsAscii (map (λ f. f.now) items)) (sym none) (record {});
}
