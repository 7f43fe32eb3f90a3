-- The gross size of a side of a class, by the factors that a book nets to.
use Rattle.std.specs.Prelude.{List, ℤ, ◌*ℤ◌}
use Rattle.std.specs.List.{AllByRecursion}
use Rattle.simm_params.specs.SimmKinds.declared.kinds.ProductClass.{ProductClass}
use Rattle.simm_params.specs.SimmKinds.declared.kinds.RiskClass.{RiskClass}
use Rattle.simm_params.specs.SimmKinds.declared.key.FactorKey.{FactorKey}
use Rattle.simm_params.specs.SimmRules.Params.{Params}
use Rattle.simm_params.specs.SimmRules.Sums.{total_by}
use Rattle.factor_book.specs.declared.holding.Holding.{Holding}
use Rattle.factor_book.specs.declared.place.BookSide.{BookSide}
use Rattle.factor_book.specs.Factors.{IsWithin}
use Rattle.factor_book.specs.Places.{by_side}
use Rattle.book_range.specs.Weights.{factor_weight}

-- as small as what 200,000 rows of a batch come to
abbrev pub AreSmall : List (FactorKey × Holding) → Type 0
AreSmall factors = AllByRecursion (λ f. IsWithin 200000 f.1) factors

-- sizes times weights, in ten-thousandths of a cent
abbrev pub place_size : Params → List (FactorKey × Holding) → ℤ
place_size p factors = total_by (λ f. (f.1).size *ℤ factor_weight p f.0.factor) factors

abbrev pub side_size : Params → List (FactorKey × Holding) → ProductClass → RiskClass → BookSide → ℤ
side_size p factors product class side = total_by (λ lent. place_size p lent.factors) (by_side product class side factors)
