-- The terms of the sample's sets: their names are names, and they are those of a file of terms.
use Rattle.std.proofs.Common.{◌≡◌, ℕ, ◌==◌, List, [], ◌∷◌, ◌++◌, Bool, true, false, cond, refl, sym, ap, ◌∙◌, subst, arith, codes}
use Rattle.std.specs.List.{IsDistinct}
use Rattle.simm_params.specs.SimmKinds.NameText.{IsName}
use Rattle.feed_reader.specs.CsaTerms.Terms.{Agreements, AreTerms}
use Rattle.house_sample.specs.Agreements.{set_name, agreements, sample_terms}
use Rattle.house_sample.proofs.Rows.{visible_name}

pub cash_is_name : IsName (codes "CASH-USD")
cash_is_name = visible_name (codes "CASH-USD") refl (omega arith)

pub set_is_name : (place : ℕ) (name : List ℕ) → name ≡ set_name place → IsName name
set_is_name place name is = subst IsName (sym is) (either (place == 0))
  where
    either : (t : Bool) → IsName (cond t (codes "S0") (codes "S1"))
    either true = visible_name (codes "S0") refl (omega arith)
    either false = visible_name (codes "S1") refl (omega arith)

sample_are : AreTerms sample_terms
unfolding IsDistinct
sample_are = record { some = omega arith; few = omega arith; different = ((refl, tt), (tt, tt)) }

-- two sets, one after the other
pub both_are_terms : (none one two : List Agreements) (a b : Agreements) (first second : List ℕ) → none ≡ [] → a ≡ agreements first → first ≡ set_name 0 → one ≡ none ++ a ∷ []
    → b ≡ agreements second → second ≡ set_name 1 → two ≡ one ++ b ∷ [] → AreTerms two
both_are_terms none one two a b first second empty a_is first_is one_is b_is second_is two_is =
    let all : two ≡ sample_terms =
    two_is
    ∙ (ap (λ (ts : List Agreements). ts ++ b ∷ []) (one_is ∙ ap (λ (ts : List Agreements). ts ++ a ∷ []) empty)
    ∙ (ap (λ (t : Agreements). t ∷ b ∷ []) (a_is ∙ ap agreements first_is) ∙ ap (λ (t : Agreements). agreements (set_name 0) ∷ t ∷ []) (b_is ∙ ap agreements second_is))) in
    subst AreTerms (sym all) sample_are
