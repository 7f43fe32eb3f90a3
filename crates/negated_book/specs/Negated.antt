-- A book with all of its sensitivities negated: the same trades as the other party to them has them. Add-ons, which are of no
-- factor, stay as they are.
use Rattle.std.specs.Prelude.{List, map, neg_ℤ}
use Rattle.factor_book.specs.SimmKinds.declared.row.CrifRow.{CrifRow}
use Rattle.factor_book.specs.SimmKinds.declared.row.CrifRow.TheVariants as row
use Rattle.factor_book.specs.SimmKinds.declared.key.FactorKey.{FactorKey}
use Rattle.factor_book.specs.SimmRules.declared.values.BucketMargin.{BucketMargin}
use Rattle.factor_book.specs.SimmRules.Net.{Sensitivity}
use Rattle.factor_book.specs.SimmRules.Risks.{Amount}
use Rattle.factor_book.specs.SimmRules.Across.{Part}
use Rattle.factor_book.specs.declared.holding.Holding.{Holding}

-- ---- rows

abbrev pub negated_row : CrifRow → CrifRow
negated_row (row.Sensitivity key amount) = row.Sensitivity key record { 0 = neg_ℤ amount.0 }
negated_row (row.Notional qualifier amount) = row.Notional qualifier amount
negated_row (row.FixedAmount amount) = row.FixedAmount amount
negated_row (row.NotionalFactor qualifier factor) = row.NotionalFactor qualifier factor
negated_row (row.Multiplier product factor) = row.Multiplier product factor

abbrev pub negated : List CrifRow → List CrifRow
negated rows = map negated_row rows

-- ---- sensitivities, netted or not, and those of a sort

abbrev pub negated_sensitivity : Sensitivity → Sensitivity
negated_sensitivity s = record { key = s.key; amount = neg_ℤ s.amount }

abbrev pub negated_nets : List Sensitivity → List Sensitivity
negated_nets ss = map negated_sensitivity ss

abbrev pub negated_amount : {A : Type 0} → Amount A → Amount A
negated_amount a = record { of = a.of; amount = neg_ℤ a.amount }

abbrev pub negated_amounts : {A : Type 0} → List (Amount A) → List (Amount A)
negated_amounts amounts = map negated_amount amounts

-- ---- factors of a book: the net turns, and the size and the number of rows stay

abbrev pub negated_factor : FactorKey × Holding → FactorKey × Holding
negated_factor f = (f.0, record { net = neg_ℤ (f.1).net; size = (f.1).size; rows = (f.1).rows })

abbrev pub negated_factors : List (FactorKey × Holding) → List (FactorKey × Holding)
negated_factors factors = map negated_factor factors

-- ---- what a bucket comes to: its sum turns, and the held sum with it, and nothing else

abbrev pub negated_value : BucketMargin → BucketMargin
negated_value v = record { q = v.q; k = v.k; s = neg_ℤ v.s; sum = neg_ℤ v.sum; gross = v.gross; cr = v.cr }

abbrev pub negated_part : {A : Type 0} → Part A → Part A
negated_part b = record { at = b.at; value = negated_value b.value }

abbrev pub negated_parts : {A : Type 0} → List (Part A) → List (Part A)
negated_parts parts = map negated_part parts
