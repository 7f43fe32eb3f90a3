-- How many rows and trades a book in range has.
use Rattle.std.proofs.Common.{◌≡◌, ℕ, ◌<◌, ◌≤◌, List, [], ◌∷◌, length, true, not, ◌==◌, arith}
use Rattle.std.specs.List.{list_all}
use Rattle.std.proofs.lemmas.Bool.{and_parts}
use Rattle.std.proofs.lemmas.Bool.Decides.{nat_tests}
use Rattle.std.proofs.lemmas.List.{length-append}
use Rattle.book_margin.specs.SimmKinds.declared.row.TradeRows.{TradeRows}
use Rattle.book_margin.specs.SimmKinds.Batch.{rows_of}
use Rattle.book_margin.specs.SimmRules.Params.{Params}
use Rattle.bucket_cache.specs.Live.{IsLive}
use Rattle.bucket_cache.proofs.Ranges.{few_rows}

-- each trade has a row
pub trades_within : (ts : List TradeRows) → list_all (λ t. not (length t.rows == 0)) ts ≡ true → length ts ≤ length (rows_of ts)
trades_within [] h = omega arith
trades_within (t ∷ ts) h =
    let parts = and_parts (not (length t.rows == 0)) (list_all (λ u. not (length u.rows == 0)) ts) h in
    let some : 0 < length t.rows = positive (length t.rows) parts.0 in
    omega (arith, trades_within ts parts.1, length-append t.rows (rows_of ts))
  where
    positive : (n : ℕ) → not (n == 0) ≡ true → 0 < n
    positive n h = grind (arith, nat_tests)

pub few_trades : (p : Params) (ts : List TradeRows) → IsLive p ts → length ts ≤ 200000
few_trades p ts live = omega (arith, trades_within ts live.filled, few_rows p (rows_of ts) live.in_range)
