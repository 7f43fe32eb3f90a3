-- The lines of a what-if: both margins, and the totals without each trade.
use Rattle.std.specs.Prelude.{ℕ, List, [], ◌∷◌, ◌++◌, codes, ℤ}
use Rattle.whatif.specs.BucketCache.SimmRules.MhUnits.Money.{money_text}
use Rattle.whatif.specs.BucketCache.SimmRules.MhUnits.declared.quantities.Cents.{Cents}
use Rattle.whatif.specs.BucketCache.SimmRules.declared.values.Breakdown.{Breakdown}
use Rattle.breakdown_text.specs.FaultText.Fields.{field, last_field}
use Rattle.breakdown_text.specs.Margins.{total_line, part_lines}

-- a word's line, and a margin with all of its parts that aren't 0
abbrev pub margin_after : List ℕ → Breakdown → List ℕ
margin_after word b = word ++ total_line b.total.0 ++ part_lines b

abbrev pub margins_text : Breakdown → Breakdown → List ℕ
margins_text before after = margin_after (codes "BEFORE\n") before ++ margin_after (codes "AFTER\n") after

-- a trade, and the total without it
abbrev pub without_line : List ℕ → ℤ → List ℕ
without_line name total = field (codes "WITHOUT") ++ field name ++ last_field (money_text total)

-- name by name
abbrev pub without_lines : List (List ℕ) → List Cents → List ℕ
without_lines [] totals = []
without_lines (n ∷ ns) [] = []
without_lines (n ∷ ns) (t ∷ ts) = without_line n t.0 ++ without_lines ns ts
