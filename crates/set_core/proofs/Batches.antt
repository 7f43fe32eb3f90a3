-- What each batch keeps: at most 100,000 rows, and no trade twice.
use Rattle.std.proofs.Common.{◌≡◌, ℕ, ◌≤◌, List, [], ◌∷◌, length, false, ◌||◌, map, ◌+◌, ◌<◌, take, get_or, arith, refl, sym, ap, ◌∙◌}
use Rattle.std.specs.List.{list_any}
use Rattle.std.proofs.lemmas.Bool.{or_parts}
use Rattle.std.proofs.lemmas.List.Folds.{length-flat_map-take}
use Rattle.collateral_ledger.specs.SimmKinds.declared.row.TradeRows.{TradeRows}
use Rattle.collateral_ledger.specs.SimmKinds.Batch.{IsBatch, rows_of, repeats}
use Rattle.collateral_ledger.specs.SimmKinds.Order.{same_name}
use Rattle.bucket_cache.specs.Live.{is_current as has_trade}
use Rattle.bucket_cache.proofs.Lives.{batch_facts}
use Rattle.set_core.specs.Kept.{AreDifferent}

pub few_rows : (trades : List TradeRows) → IsBatch trades → length (rows_of trades) ≤ 100000
few_rows trades h = (batch_facts trades h).few

any_name : (name : List ℕ) (trades : List TradeRows) → list_any (same_name name) (map (λ t. t.trade) trades) ≡ has_trade trades name
any_name name [] = refl
any_name name (t ∷ trades) = ap (λ s. same_name name t.trade || s) (any_name name trades)

different_names : (trades : List TradeRows) → repeats same_name (map (λ t. t.trade) trades) ≡ false → AreDifferent trades
different_names [] h = tt
different_names (t ∷ trades) h =
    let parts = or_parts (list_any (same_name t.trade) (map (λ u. u.trade) trades)) (repeats same_name (map (λ u. u.trade) trades)) h in
    (sym (any_name t.trade trades) ∙ parts.0, different_names trades parts.1)

pub different_trades : (trades : List TradeRows) → IsBatch trades → AreDifferent trades
different_trades trades h = different_names trades (batch_facts trades h).once

-- the rows of the trades before one and its own are among all
pub trade_count : (trades : List TradeRows) (i : ℕ) (t : TradeRows) → i < length trades → t ≡ get_or trades i t → length (rows_of (take i trades)) + length t.rows ≤ length (rows_of trades)
trade_count trades i t h e = omega (arith, length-flat_map-take (λ u. u.rows) trades i t h, ap (λ u. length u.rows) e)
