-- The lines of the factors that a measure explains are those of the rule's factors.
use Rattle.std.proofs.Common.{◌≡◌, ℕ, List, [], ◌∷◌, ◌++◌, map, Result, refl, sym, ap, ◌∙◌, subst}
use Rattle.std.specs.Prelude.{OnOk}
use Rattle.std.specs.List.{flat_map}
use Rattle.measured_bucket.specs.SimmKinds.declared.kinds.Measure.{Measure}
use Rattle.measured_bucket.specs.SimmKinds.declared.kinds.ProductClass.{ProductClass}
use Rattle.measured_bucket.specs.SimmRules.Bucket.{Weighted}
use Rattle.measured_bucket.specs.declared.explained.Explained.{Explained}
use Rattle.measured_bucket.specs.Explained.{Unweighed, unweighed_view, weighted_view}
use Rattle.explain_text.specs.Factors.{weighted_line, weighted_lines, explained_line}

module _ {N A : Type 0} (measure : Measure) (product : ProductClass) (of : N → A) (name : A → List ℕ) where
  -- the lines of the factors of two lists, place by place
  abbrev beside : List (Unweighed A) → List (Weighted A) → List ℕ
  beside [] ws = []
  beside (u ∷ us) [] = []
  beside (u ∷ us) (w ∷ ws) = weighted_line measure product name u w ++ beside us ws

  beside_mapped : {X : Type 0} (u : X → Unweighed A) (w : X → Weighted A) (xs : List X) → beside (map u xs) (map w xs) ≡ flat_map (λ x. weighted_line measure product name (u x) (w x)) xs
  beside_mapped u w [] = refl
  beside_mapped u w (x ∷ xs) = ap (λ t. weighted_line measure product name (u x) (w x) ++ t) (beside_mapped u w xs)

  abbrev pub line_of : Explained N → List ℕ
  line_of = explained_line measure product (λ n. name (of n))

  module _ {X : Type 0} (u : X → Unweighed A) (w : X → Weighted A) (xs : List X) (factors : List (Explained N)) where
    lines_are : map (unweighed_view of) factors ≡ map u xs → map (weighted_view of) factors ≡ map w xs → flat_map line_of factors ≡ weighted_lines measure product name u w xs
    lines_are from weighted =
        sym (beside_mapped (unweighed_view of) (weighted_view of) factors) ∙ (λ k. beside (from k) (weighted k)) ∙ beside_mapped u w xs

    -- once they are added
    pub added : {V E : Type 0} (result : Result V E) (shown : List (Explained N)) (t0 t1 lines : List ℕ) → shown ≡ factors
        → map (unweighed_view of) factors ≡ map u xs → map (weighted_view of) factors ≡ map w xs → weighted_lines measure product name u w xs ≡ lines
        → OnOk result (t1 ≡ t0 ++ flat_map line_of shown) → OnOk result (t1 ≡ t0 ++ lines)
    added result shown t0 t1 lines is from weighted same grown =
        subst (λ t. OnOk result (t1 ≡ t0 ++ t)) (ap (flat_map line_of) is ∙ lines_are from weighted ∙ same) grown
