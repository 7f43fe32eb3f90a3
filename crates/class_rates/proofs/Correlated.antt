-- Nets of a currency, in order, have the rule's correlations by their places.
use Rattle.std.proofs.Common.{◌≡◌, ℕ, ◌<◌, List, map, length, get_or, Bool, sym, ap, ◌∙◌, ℤ, arith}
use Rattle.std.specs.declared.cmp.Ordering.{Ordering}
use Rattle.std.specs.Ordering.{is_eq}
use Rattle.std.specs.Cmp.{IsTotalOrder}
use Rattle.std.specs.List.Sorted.{IsStrictlySortedBy}
use Rattle.std.proofs.lemmas.List.{get_or-map, length-map}
use Rattle.measured_bucket.specs.SimmRules.Risks.{Amount}
use Rattle.measured_bucket.specs.SimmRules.Bucket.{Weighted}
use Rattle.measured_bucket.specs.Measured.{AreCorrelated}
use Rattle.measured_bucket.proofs.Valued.{correlated}

pub nets_correlated : {N A : Type 0} (cmp : A → A → Ordering) → IsTotalOrder cmp → (same : A → A → Bool) → ((x y : A) → same x y ≡ is_eq (cmp x y)) → (R : A → A → ℤ) (rule : N → Amount A) (W : Amount A → Weighted A) → ((a : Amount A) → (W a).of ≡ a.of)
    → (none : N) (nets : List N) → IsStrictlySortedBy cmp (map (λ a. a.of) (map rule nets)) → AreCorrelated same R (map W (map rule nets)) (λ i j. R (rule (get_or nets i none)).of (rule (get_or nets j none)).of)
nets_correlated {N} {A} cmp order same tests R rule W of_same none nets ascends =
    correlated cmp order same tests R W of_same (rule none) (map rule nets) ascends (λ i j. R (of_at i) (of_at j))
    (λ i j l m apart. ap (λ x. R x (of_at j)) (placed i l) ∙ ap (R (get_or (map rule nets) i (rule none)).of) (placed j m))
  where
    of_at : ℕ → A
    of_at n = (rule (get_or nets n none)).of

    placed : (n : ℕ) → n < length (map rule nets) → of_at n ≡ (get_or (map rule nets) n (rule none)).of
    placed n l = sym (ap (λ (a : Amount A). a.of) (get_or-map rule nets n none (rule none) (omega (arith, length-map nets rule))))
