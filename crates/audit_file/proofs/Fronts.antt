-- What stands behind a front.
use Rattle.std.proofs.Common.{◌≡◌, ◌≢◌, ℕ, List, [], ◌∷◌, ◌++◌, Option, Some, None, MatchOption, option_map, Bor, ◌==◌, cond, refl, sym, ◌∙◌, inl, inr}
use Rattle.std.proofs.lemmas.Bool.Decides.{eqb_tells}
use Rattle.audit_file.specs.Fields.{behind}

same_byte : (b : ℕ) (x y : Option (List ℕ)) → cond (b == b) x y ≡ x
same_byte b x y = elim (eqb_tells b b) [ inl same ↦ rw same.0 refl | inr other ↦ absurd (other.1 refl) ]

pub behind_front : (front rest : List ℕ) → behind front (front ++ rest) ≡ Some rest
behind_front [] rest = refl
behind_front (p ∷ ps) rest = same_byte p _ None ∙ behind_front ps rest

pub behind_none : (front text : List ℕ) → ((rest : List ℕ) → text ≢ front ++ rest) → behind front text ≡ None
behind_none [] text never = absurd (never text refl)
behind_none (p ∷ ps) [] never = refl
behind_none (p ∷ ps) (b ∷ bs) never = elim (eqb_tells b p) [
  | inl same ↦ rw same.0 (behind_none ps bs (λ rest e. never rest (cc (e, same.1))))
  | inr other ↦ rw other.0 refl
]

pub stripped : (front text : List ℕ) (r : Option (Bor (List ℕ))) → MatchOption r ((rest : List ℕ) → text ≢ front ++ rest) (λ x. text ≡ front ++ x.now) → option_map (λ x. x.now) r ≡ behind front text
stripped front text None never = sym (behind_none front text never)
stripped front text (Some x) is = sym (rw is (behind_front front x.now))
