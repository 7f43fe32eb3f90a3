-- What becomes of a figure where all sensitivities that it is of are negated.
use Rattle.std.specs.Prelude.{◌≡◌, List, ℤ}
use Rattle.factor_book.specs.SimmRules.declared.values.BucketMargin.{BucketMargin}
use Rattle.factor_book.specs.SimmRules.Net.{Sensitivity}
use Rattle.factor_book.specs.SimmRules.Risks.{Amount}
use Rattle.factor_book.specs.SimmRules.Across.{Part}
use Rattle.negated_book.specs.Negated.{negated_nets, negated_amounts, negated_value, negated_parts}

-- a margin that stays as it is
abbrev pub IsEven : (List Sensitivity → ℤ) → Type 0
IsEven margin = (ss : List Sensitivity) → margin (negated_nets ss) ≡ margin ss

-- the value of a bucket of which the sums turn
abbrev pub Turns : {A : Type 0} → (List (Amount A) → BucketMargin) → Type 0
Turns {A} value = (amounts : List (Amount A)) → value (negated_amounts amounts) ≡ negated_value (value amounts)

-- buckets that stay the same ones, each of which has its sums turned
abbrev pub TurnParts : {A : Type 0} → (List Sensitivity → List (Part A)) → Type 0
TurnParts parts = (ss : List Sensitivity) → parts (negated_nets ss) ≡ negated_parts (parts ss)
