-- What a live margin keeps beside its trades.
use Rattle.std.specs.Prelude.{◌≡◌, List, Option, None, IfSome, true, false}
use Rattle.std.specs.List.{list_all, flat_map}
use Rattle.book_margin.specs.SimmKinds.declared.margin_side.MarginSide.{MarginSide}
use Rattle.book_margin.specs.SimmKinds.declared.row.CrifRow.{CrifRow}
use Rattle.book_margin.specs.SimmKinds.declared.row.TradeRows.{TradeRows}
use Rattle.book_margin.specs.SimmKinds.Batch.{rows_of, factor_names, is_in_range}
use Rattle.book_margin.specs.SimmKinds.Order.{same_name}
use Rattle.book_margin.specs.SimmKinds.Repeats.{repeats}
use Rattle.book_margin.specs.SimmRules.Params.{Params}
use Rattle.book_margin.specs.SimmRules.AddOns.{multiplier, notional_factor}
use Rattle.book_margin.specs.SimmRules.Admits.{admits}
use Rattle.book_margin.specs.SimmRules.Range.{range}
use Rattle.book_margin.specs.SimmRules.Simm.{simm}
use Rattle.book_margin.specs.FactorBook.Factors.{factors_of}
use Rattle.book_margin.specs.KeptBuckets.Kept.{Kept}
use Rattle.book_margin.specs.KeptBuckets.Touched.{Forgets, SameElsewhere}
use Rattle.book_margin.specs.ClassCombine.Whole.{IsTotal}
use Rattle.book_margin.specs.NegatedBook.Sides.{side_rows}
use Rattle.book_margin.specs.declared.both_breakdowns.BothBreakdowns.{BothBreakdowns}
use Rattle.book_margin.specs.Sides.{breakdown_on}
use Rattle.book_margin.specs.Right.{AreRight, IsFresh}
use Rattle.bucket_cache.specs.declared.sums.Sums.{Sums}
use Rattle.bucket_cache.specs.Live.{IsLive}
use Rattle.bucket_cache.specs.Sums.{book_sums}

-- the sums are those of the book's rows, and what is kept of its buckets is right
pub record IsSummed (p : Params) (trades : List TradeRows) (sums : Sums) (kept : Kept) : Type 0 where
  pub live : IsLive p trades
  pub summed : sums ≡ book_sums p (rows_of trades)
  pub right : AreRight p (factors_of (rows_of trades)) kept

-- The sums are those of these rows now. What the rows that came or went touch is forgotten, all else is kept, and what is kept is right.
pub record IsMoved (p : Params) (before rows moved : List CrifRow) (had : Kept) (sums : Sums) (kept : Kept) : Type 0 where
  pub summed : sums ≡ book_sums p rows
  pub right : AreRight p (factors_of rows) kept
  pub forgotten : Forgets moved had kept
  pub elsewhere : SameElsewhere moved (factors_of before) (factors_of rows)

-- the margins of the rows on both sides, of which all is kept
pub record IsMargin (p : Params) (rows : List CrifRow) (kept : Kept) (margins : BothBreakdowns) : Type 0 where
  pub value : (side : MarginSide) → breakdown_on margins side ≡ simm p (side_rows side rows)
  pub total : (side : MarginSide) → IsTotal (breakdown_on margins side).total.0
  pub all : IsFresh (factors_of rows) kept

-- so, and the margins that are kept are the book's
pub record IsHeld (p : Params) (trades : List TradeRows) (sums : Sums) (kept : Kept) (last : Option BothBreakdowns) : Type 0 where
  pub summed : IsSummed p trades sums kept
  pub fresh : IfSome last (IsMargin p (rows_of trades) kept)

-- the sums are those of the rows of a book in range, and the parameters are theirs
pub record IsMarginBook (p : Params) (sums : Sums) (parameters held : List CrifRow) : Type 0 where
  pub are : sums ≡ book_sums p held
  pub in_range : range p held ≡ None
  pub amounts : list_all is_in_range held ≡ true
  pub admitted : list_all (admits p) held ≡ true
  pub once : repeats same_name (flat_map factor_names held) ≡ false
  pub factors : flat_map notional_factor parameters ≡ flat_map notional_factor held
  pub multipliers : flat_map multiplier parameters ≡ flat_map multiplier held
  pub ranged : list_all is_in_range parameters ≡ true
