-- The factors of few rows are small.
use Rattle.std.proofs.Common.{◌≡◌, ◌^◌, ◌≤◌, ℕ, List, length, None, pos, ◌≤ℤ◌, sym, subst, arith, mul-le-mul_right}
use Rattle.std.proofs.lemmas.Int.{ints}
use Rattle.simm_params.specs.SimmKinds.declared.key.FactorKey.{FactorKey}
use Rattle.simm_params.specs.SimmRules.declared.values.RangeKind.TheVariants as range_kind
use Rattle.simm_params.specs.SimmRules.Range.{above}
use Rattle.factor_book.specs.declared.holding.Holding.{Holding}
use Rattle.factor_book.specs.Factors.{factors_of, IsWithin}
use Rattle.factor_book.proofs.Rows.{all_within}
use Rattle.book_range.specs.Faults.{AreOf}
use Rattle.book_range.specs.Gross.{AreSmall}
use Rattle.book_range.proofs.Lists.{each_weaker}
use Rattle.book_range.proofs.Tests.{not_above}

within_more : (m n : ℕ) (h : Holding) → m ≤ n → IsWithin m h → IsWithin n h
within_more m n h le its = record {
  net = omega (arith, its.net, mul-le-mul_right (10 ^ 15) le);
  size = omega (arith, its.size, mul-le-mul_right (10 ^ 15) le);
  rows = omega (arith, its.rows, le);
}

pub small : (rows : ℕ) (factors : List (FactorKey × Holding)) → AreOf rows factors → above range_kind.RowCount (pos rows) (pos 200000) ≡ None → AreSmall factors
small rows factors its none =
    let few : pos rows ≤ℤ pos 200000 = not_above range_kind.RowCount (pos rows) (pos 200000) none in
    let count : length its.held ≤ 200000 = omega (arith, ints, few, its.count) in
    subst AreSmall (sym its.are)
    (each_weaker (λ (f : FactorKey × Holding). IsWithin (length its.held) f.1) (λ f. IsWithin 200000 f.1) (λ f w. within_more (length its.held) 200000 f.1 count w) (factors_of its.held) (all_within its.held its.amounts))

pub few : (factors : List (FactorKey × Holding)) → above range_kind.KeyCount (pos (length factors)) (pos 20000) ≡ None → length factors ≤ 20000
few factors none = omega (arith, ints, not_above range_kind.KeyCount (pos (length factors)) (pos 20000) none)
