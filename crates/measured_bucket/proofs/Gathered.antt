-- Sums over different keys are sums over all that has them.
use Rattle.std.proofs.Common.{◌≡◌, ℕ, ◌+◌, List, [], ◌∷◌, map, Bool, refl, sym, ap, ◌∙◌}
use Rattle.std.specs.Prelude.{sum_by}
use Rattle.std.specs.declared.cmp.Ordering.{Ordering}
use Rattle.std.specs.Ordering.{is_eq}
use Rattle.std.specs.Cmp.{IsTotalOrder}
use Rattle.std.specs.List.{filter, flat_map}
use Rattle.std.specs.List.Sorted.{IsPermutation}
use Rattle.std.proofs.lemmas.Cmp.{nat_list_cmp_total, eq_by_cmp_equiv}
use Rattle.std.proofs.lemmas.List.Sorted.{sum_by-IsPermutation}
use Rattle.std.proofs.lemmas.List.Sums.{sum_by-cons, sum_by-append}
use Rattle.std.proofs.lemmas.Map.Lookups.{CmpEqualImpliesEq, exact_bytes}
use Rattle.simm_params.specs.SimmKinds.Order.{name_cmp, same_name}
use Rattle.simm_params.specs.SimmRules.Sums.{different}
use Rattle.factor_book.proofs.Sorting.{any_different, different_ascends}
use Rattle.factor_book.proofs.Grouping.{grouped_all}

module _ {A K : Type 0} (cmp : K → K → Ordering) (order : IsTotalOrder cmp) (exact : CmpEqualImpliesEq cmp) (same : K → K → Bool) (tests : (x y : K) → same x y ≡ is_eq (cmp x y)) (key_at : A → K) (xs : List A) where
  abbrev keys : List K
  keys = different cmp (map key_at xs)

  abbrev own : K → List A
  own key = filter (λ x. same (key_at x) key) xs

  abbrev group : K → List A
  group key = filter (λ x. is_eq (cmp key (key_at x))) xs

  abbrev grouped : List K → List A
  grouped ks = flat_map (λ (e : K × List A). e.1) (map (λ key. (key, group key)) ks)

  group_is : (key : K) → own key ≡ group key
  group_is key = λ i. filter (λ x. (tests (key_at x) key ∙ (eq_by_cmp_equiv order).symm (key_at x) key) i) xs

  gathered : IsPermutation xs (grouped keys)
  gathered =
      grouped_all cmp order key_at keys xs (different_ascends cmp order (map key_at xs))
      (λ x. any_different cmp (λ q. is_eq (cmp q (key_at x))) (λ k l alike. ap (λ q. is_eq (cmp q (key_at x))) (exact k l alike)) (map key_at xs))

  group_sums : (f : A → ℕ) (ks : List K) → sum_by (λ key. sum_by f (own key)) ks ≡ sum_by f (grouped ks)
  group_sums f [] = refl
  group_sums f (key ∷ ks) =
      sum_by-cons (λ k. sum_by f (own k)) key ks ∙ ap (λ ys. sum_by f ys + sum_by (λ k. sum_by f (own k)) ks) (group_is key)
      ∙ ap (λ n. sum_by f (group key) + n) (group_sums f ks)
      ∙ sym (sum_by-append f (group key) (grouped ks))

  pub over_keys : (f : A → ℕ) → sum_by (λ key. sum_by f (filter (λ x. same (key_at x) key) xs)) (different cmp (map key_at xs)) ≡ sum_by f xs
  over_keys f = group_sums f keys ∙ sum_by-IsPermutation f xs (grouped keys) gathered

-- names are such keys
pub over_names : {A : Type 0} (name_at : A → List ℕ) (xs : List A) (f : A → ℕ) → sum_by (λ name. sum_by f (filter (λ x. same_name (name_at x) name) xs)) (different name_cmp (map name_at xs)) ≡ sum_by f xs
over_names name_at xs f = over_keys name_cmp nat_list_cmp_total exact_bytes same_name (λ x y. refl) name_at xs f
