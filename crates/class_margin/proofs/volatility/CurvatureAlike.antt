-- The curvature margin over buckets hangs on sums over their values alone.
use Rattle.std.proofs.Common.{◌≡◌, List, not, ap, ◌∙◌, ℤ, ◌+ℤ◌}
use Rattle.class_rates.specs.SimmKinds.declared.bucket.Bucket.{Bucket}
use Rattle.class_rates.specs.SimmKinds.Order.{same_bucket}
use Rattle.class_rates.specs.SimmRules.Sums.{total_by}
use Rattle.class_rates.specs.SimmRules.Across.{Part, outer, is_residual, numbered, residual, gamma_squared}
use Rattle.class_rates.specs.SimmRules.Curvature.{curvature_part, curvature_over}
use Rattle.class_margin.specs.curvature.Part.{part_by}
use Rattle.class_margin.proofs.delta.Totals.{Alike, alike_filter, alike_outer}

abbrev Parts : Type 0
Parts = List (Part Bucket)

part_alike : (base : ℤ) (root : Parts → ℤ) → ((ps qs : Parts) → Alike ps qs → root ps ≡ root qs) → (ps qs : Parts) → Alike ps qs → curvature_part base ps (root ps) ≡ curvature_part base qs (root qs)
part_alike base root roots ps qs same =
    ap (λ z. part_by base z (total_by (λ b. (b.value).gross) ps) (root ps)) (same (λ b. (b.value).sum))
    ∙ ap (λ z. part_by base (total_by (λ b. (b.value).sum) qs) z (root ps)) (same (λ b. (b.value).gross))
    ∙ ap (curvature_part base qs) (roots ps qs same)

pub curvature_alike : (base : ℤ) (listed : List Bucket) (gamma : List (List ℤ)) (ps qs : List (Part Bucket)) → Alike ps qs → curvature_over base listed gamma ps ≡ curvature_over base listed gamma qs
curvature_alike base listed gamma ps qs same =
    let root : Parts → ℤ = outer same_bucket (gamma_squared listed gamma) in
    let margins : Parts → ℤ = total_by (λ b. (b.value).k) in
    let first : curvature_part base (numbered ps) (root (numbered ps)) ≡ curvature_part base (numbered qs) (root (numbered qs)) =
    part_alike base root (alike_outer (gamma_squared listed gamma)) (numbered ps) (numbered qs) (alike_filter (λ b. not (is_residual b.at)) ps qs same) in
    let second : curvature_part base (residual ps) (margins (residual ps)) ≡ curvature_part base (residual qs) (margins (residual qs)) =
    part_alike base margins (λ xs ys alike. alike (λ b. (b.value).k)) (residual ps) (residual qs) (alike_filter (λ b. is_residual b.at) ps qs same) in
    λ i. first i +ℤ second i
