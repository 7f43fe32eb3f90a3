-- Which names a list of currencies has.
use Rattle.std.proofs.Common.{◌≡◌, ℕ, Bool, true, false, cond, ◌||◌, Some, None, List, [], ◌∷◌, ◌++◌, Ordering, Less, Equal, Greater, is_eq, refl, sym, ap, ◌∙◌}
use Rattle.std.specs.List.{AllByRecursion}
use Rattle.std.proofs.lemmas.Bool.{false_from_ne_true, false≢true}
use Rattle.std.proofs.lemmas.Cmp.{nat_list_cmp_total, eq_by_cmp_equiv}
use Rattle.std.proofs.lemmas.List.Folds.{list_any-append}
use Rattle.std.proofs.lemmas.Map.Lookups.{exact_bytes}
use Rattle.simm_rules.specs.SimmKinds.NameText.{is_currency}
use Rattle.simm_rules.specs.SimmKinds.Order.{same_name}
use Rattle.simm_rules.specs.Lookups.{is_listed}
use Rattle.simm_params.specs.Listed.{AreListed}

abbrev IsCurrency : List ℕ → Type 0
IsCurrency c = is_currency c ≡ true

Equal-from_is_eq : (o : Ordering) → is_eq o ≡ true → o ≡ Equal
Equal-from_is_eq Less h = absurd cc
Equal-from_is_eq Equal h = refl
Equal-from_is_eq Greater h = absurd cc

-- equal names have the same bytes
same_name-is : (a b : List ℕ) → same_name a b ≡ true → a ≡ b
same_name-is a b h = exact_bytes a b (Equal-from_is_eq _ h)

pub same_name-symm : (a b : List ℕ) → same_name a b ≡ same_name b a
same_name-symm a b = (eq_by_cmp_equiv nat_list_cmp_total).symm a b

pub not_chosen : {A : Type 0} (b : Bool) (x : A) → None ≡ cond b (Some x) None → b ≡ false
not_chosen true x e = absurd cc
not_chosen false x e = refl

-- a name that is no currency is in no list of currencies
pub not_listed : (cs : List (List ℕ)) (name : List ℕ) → AllByRecursion IsCurrency cs → is_currency name ≡ false → is_listed cs name ≡ false
not_listed [] name all h = refl
not_listed (c ∷ cs) name all h =
    let differs : same_name name c ≡ false = false_from_ne_true _ (λ e. false≢true (sym h ∙ ap is_currency (same_name-is name c e) ∙ all.0)) in
    rw differs (not_listed cs name all.1 h)

currencies-push : (cs : List (List ℕ)) (c : List ℕ) → AllByRecursion IsCurrency cs → IsCurrency c → AllByRecursion IsCurrency (cs ++ c ∷ [])
currencies-push [] c all h = (h, tt)
currencies-push (x ∷ cs) c all h = (all.0, currencies-push cs c all.1 h)

or_last : (a b d : Bool) → d ≡ cond b true a → d ≡ (a || (b || false))
or_last true true d h = h
or_last true false d h = h
or_last false true d h = h
or_last false false d h = h

-- one more currency in the list and among the different ones
pub AreListed-push : (listed different more : List (List ℕ)) (c : List ℕ) → AreListed listed different → IsCurrency c
    → ((q : List ℕ) → is_listed more q ≡ cond (same_name c q) true (is_listed different q)) → AreListed (listed ++ c ∷ []) more
AreListed-push listed different more c before currency h = record {
  currencies = currencies-push listed c before.currencies currency;
  same = λ q. or_last (is_listed listed q) (same_name q c) (is_listed more q) (h q ∙ ap (λ b. cond b true (is_listed different q)) (same_name-symm c q) ∙ ap (λ b. cond (same_name q c) true b) (before.same q)) ∙ sym (list_any-append (same_name q) listed (c ∷ []));
}
