-- The haircut of a class that has one is a share of the value.
use Rattle.std.proofs.Common.{◌≡◌, ℕ, List, [], ◌∷◌, Bool, true, false, cond, Some, ℤ, subst}
use Rattle.std.specs.List.{AllByRecursion}
use Rattle.csa_terms.specs.SimmKinds.Order.{same_name}
use Rattle.csa_terms.specs.Terms.{Haircut, IsShare, haircut_in}

pub share_of : (hs : List Haircut) (class : List ℕ) (rate : ℤ) → AllByRecursion (λ h. IsShare h.rate) hs → haircut_in hs class ≡ Some rate → IsShare rate
share_of [] class rate h found = absurd (cc)
share_of (x ∷ hs) class rate h found = by (same_name class x.class) found (λ later. share_of hs class rate h.1 later)
  where
    by : (b : Bool) → cond b (Some x.rate) (haircut_in hs class) ≡ Some rate → (haircut_in hs class ≡ Some rate → IsShare rate) → IsShare rate
    by true found rest = let one : x.rate ≡ rate = cc in subst IsShare one h.0
    by false found rest = rest found
