-- Thresholds that are thick beside their weights.
use Rattle.std.specs.Prelude.{List, map, ℤ, pos}
use Rattle.std.specs.List.{All}
use Rattle.simm_rules.specs.Params.{BucketTerms, CreditParams, PricedParams}
use Rattle.simm_params.specs.declared.thresholds.ThresholdKind.{ThresholdKind}
use Rattle.simm_params.specs.Ranges.{IsThick}
use Rattle.simm_params.specs.ThresholdKinds.{threshold_in, weight_beside}

-- ---- foreign exchange: a pair's threshold beside 1

abbrev pub IsThickRow : List ℤ → Type 0
IsThickRow thresholds = All (IsThick (pos 10000)) thresholds

abbrev pub AreThickPairs : List (List ℤ) → Type 0
AreThickPairs rows = All IsThickRow rows

-- ---- a class that has buckets: each threshold beside its bucket's weight

abbrev pub AreThickBuckets : ThresholdKind → List BucketTerms → Type 0
AreThickBuckets kind buckets = All (λ b. IsThick (weight_beside kind b.weight) (threshold_in kind b.thresholds)) buckets

abbrev pub credit_terms : CreditParams → List BucketTerms
credit_terms c = map (λ b. b.terms) c.buckets

abbrev pub priced_terms : PricedParams → List BucketTerms
priced_terms c = map (λ b. b.terms) c.buckets
