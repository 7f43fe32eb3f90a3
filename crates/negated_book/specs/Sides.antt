-- A book as a side of the margin sees it: what is posted is the margin that the other party collects, of the negated book.
-- (ISDA 2016 Credit Support Annex for Initial Margin: each party calculates by its own sensitivities.)
use Rattle.std.specs.Prelude.{List}
use Rattle.factor_book.specs.SimmKinds.declared.key.FactorKey.{FactorKey}
use Rattle.factor_book.specs.SimmKinds.declared.margin_side.MarginSide.{MarginSide}
use Rattle.factor_book.specs.SimmKinds.declared.margin_side.MarginSide.TheVariants.{Collect, Post}
use Rattle.factor_book.specs.SimmKinds.declared.row.CrifRow.{CrifRow}
use Rattle.factor_book.specs.declared.holding.Holding.{Holding}
use Rattle.negated_book.specs.Negated.{negated, negated_factors}

-- its rows
abbrev pub side_rows : MarginSide → List CrifRow → List CrifRow
side_rows Collect rows = rows
side_rows Post rows = negated rows

-- and its factors
abbrev pub side_factors : MarginSide → List (FactorKey × Holding) → List (FactorKey × Holding)
side_factors Collect factors = factors
side_factors Post factors = negated_factors factors
