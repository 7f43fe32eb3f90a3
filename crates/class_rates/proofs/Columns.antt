-- Factors that are weighed each from the amount of what has a currency, which the rule's factor leaves out.
use Rattle.std.proofs.Common.{◌≡◌, List, map, sym, ◌∙◌}
use Rattle.std.proofs.lemmas.Simd.{map-map}
use Rattle.measured_bucket.specs.SimmRules.Risks.{Amount}
use Rattle.measured_bucket.specs.SimmRules.Bucket.{Weighted}
use Rattle.measured_bucket.specs.WeightedBucket.declared.weighed.Weighed.{Weighed}
use Rattle.measured_bucket.specs.Values.{weighed_as}

-- with the currency
abbrev pub of_own : {A B : Type 0} → (Amount A → Weighted B) → Amount A → Weighted A
of_own W a = record { of = a.of; w = (W a).w; cr = (W a).cr }

pub made_by : {A B : Type 0} (W : Amount A → Weighted B) (amounts : List (Amount A)) (factors : List Weighed) → factors ≡ map weighed_as (map (of_own W) amounts) → factors ≡ map weighed_as (map W amounts)
made_by {A} {B} W amounts factors made = made ∙ map-map (λ (f : Weighted A). weighed_as f) (of_own W) amounts ∙ sym (map-map (λ (f : Weighted B). weighed_as f) W amounts)
