-- Names that compare equal are equal.
use Rattle.std.proofs.Common.{◌≡◌, ℕ, List, Bool, true, false, refl, sym, ap, subst}
use Rattle.std.specs.declared.cmp.Ordering.{Ordering}
use Rattle.std.specs.declared.cmp.Ordering.TheVariants.{Less, Equal, Greater}
use Rattle.std.specs.Ordering.{is_eq}
use Rattle.std.proofs.lemmas.Bool.{false≢true}
use Rattle.std.proofs.lemmas.Cmp.{nat_list_cmp_total, tied_itself}
use Rattle.std.proofs.lemmas.Map.Lookups.{exact_bytes}
use Rattle.collateral_ledger.specs.SimmKinds.Order.{name_cmp, same_name}

equal_from_is_eq : (o : Ordering) → is_eq o ≡ true → o ≡ Equal
equal_from_is_eq Equal h = refl
equal_from_is_eq Less h = absurd (false≢true h)
equal_from_is_eq Greater h = absurd (false≢true h)

pub one_name : (a b : List ℕ) → same_name a b ≡ true → a ≡ b
one_name a b h = exact_bytes a b (equal_from_is_eq (name_cmp a b) h)

pub same_name_refl : (a : List ℕ) → same_name a a ≡ true
same_name_refl a = ap is_eq (tied_itself nat_list_cmp_total a)

alike : (s t : Bool) → (s ≡ true → t ≡ true) → (t ≡ true → s ≡ true) → s ≡ t
alike true t f g = sym (f refl)
alike false true f g = g refl
alike false false f g = refl

pub same_name_sym : (a b : List ℕ) → same_name a b ≡ same_name b a
same_name_sym a b = alike (same_name a b) (same_name b a)
    (λ h. subst (λ n. same_name n a ≡ true) (one_name a b h) (same_name_refl a))
    (λ h. subst (λ n. same_name n b ≡ true) (one_name b a h) (same_name_refl b))
