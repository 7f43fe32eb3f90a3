-- A byte order mark at the start is left off.
use Rattle.std.proofs.Common.{◌≡◌, ◌==◌, ◌&&◌, ◌+◌, ◌∷◌, [], ℕ, Bool, true, false, List, length, take, drop, Option, Some, None, refl, sym, ◌∙◌, inl, inr}
use Rattle.std.specs.Borrow.{Bor}
use Rattle.std.specs.Cmp.Lexicographic.{pointwise}
use Rattle.std.specs.Prelude.{MatchOption, unwrap_or}
use Rattle.std.proofs.lemmas.Bool.{cases_Bool}
use Rattle.csv.specs.Reading.{strip_bom}
use Rattle.crif_records.specs.Plain.{has_quote}
use Rattle.crif_records.proofs.PlainReads.{quoteless_drop}

abbrev mark : List ℕ
mark = 239 ∷ 187 ∷ 191 ∷ []

abbrev has_mark : List ℕ → Bool
has_mark bytes = pointwise ◌==◌ (take 3 bytes) mark

grouped : (x y z : Bool) → (x && (y && (z && true))) ≡ (x && y && z)
grouped false y z = refl
grouped true false z = refl
grouped true true false = refl
grouped true true true = refl

first_alone : (x : Bool) → (x && false) ≡ false
first_alone false = refl
first_alone true = refl

two_alone : (x y : Bool) → (x && (y && false)) ≡ false
two_alone false y = refl
two_alone true y = first_alone y

with_mark : (bytes : List ℕ) → has_mark bytes ≡ true → drop 3 bytes ≡ strip_bom bytes
unfolding strip_bom
with_mark [] e = absurd (cc e)
with_mark (a ∷ []) e = absurd (cc (e, first_alone (a == 239)))
with_mark (a ∷ b ∷ []) e = absurd (cc (e, two_alone (a == 239) (b == 187)))
with_mark (a ∷ b ∷ c ∷ rest) e = rw (sym (grouped (a == 239) (b == 187) (c == 191)) ∙ e) refl

without_mark : (bytes : List ℕ) → has_mark bytes ≡ false → bytes ≡ strip_bom bytes
unfolding strip_bom
without_mark [] e = refl
without_mark (a ∷ []) e = refl
without_mark (a ∷ b ∷ []) e = refl
without_mark (a ∷ b ∷ c ∷ rest) e = rw (sym (grouped (a == 239) (b == 187) (c == 191)) ∙ e) refl

-- what is left behind the mark, where there is one
pub stripped : (bytes : Bor (List ℕ)) (rest : Option (Bor (List ℕ)))
    → MatchOption rest (has_mark bytes.now ≡ false) (λ r. (has_mark bytes.now ≡ true) × (r.now ≡ drop 3 bytes.now) × (length r.now + 3 ≡ length bytes.now))
    → (unwrap_or rest bytes).now ≡ strip_bom bytes.now
stripped bytes None h = without_mark bytes.now h
stripped bytes (Some rest) h = h.1 ∙ with_mark bytes.now h.0

pub quoteless_stripped : (bytes : List ℕ) → has_quote bytes ≡ false → has_quote (strip_bom bytes) ≡ false
quoteless_stripped bytes e = elim (cases_Bool (has_mark bytes)) [
  | inl marked ↦ rw (← with_mark bytes marked) (quoteless_drop 3 bytes e)
  | inr bare ↦ rw (← without_mark bytes bare) e
]
