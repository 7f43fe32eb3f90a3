-- The rows of the trades of a batch, by their places.
use Rattle.std.proofs.Common.{◌≡◌, ℕ, ◌+◌, ◌<◌, List, [], ◌∷◌, ◌++◌, length, get_or, take, zero, suc, sym, ap, ◌∙◌, arith}
use Rattle.std.proofs.lemmas.List.{take_more, map-append}
use Rattle.book_margin.specs.SimmKinds.declared.row.TradeRows.{TradeRows}
use Rattle.bucket_cache.specs.declared.held_rows.HeldTrade.{HeldTrade}
use Rattle.bucket_cache.specs.RowsAt.{rows_at}
use Rattle.bucket_cache.specs.Entries.{held_trade, held_trades}

pub rows_at-found : (ts : List TradeRows) (i : ℕ) (t : TradeRows) → i < length ts → t ≡ get_or ts i t → t.rows ≡ rows_at ts i
rows_at-found [] i t h at = absurd (omega (arith, h))
rows_at-found (u ∷ ts) zero t h at = ap (λ (x : TradeRows). x.rows) at
rows_at-found (u ∷ ts) (suc i) t h at = rows_at-found ts i t (omega (arith, h)) at

-- one more trade is held
pub held_more : (held : List HeldTrade) (ts : List TradeRows) (i : ℕ) (t : TradeRows) (h : HeldTrade) → held_trades held ≡ take i ts → i < length ts → t ≡ get_or ts i t → h.trade ≡ t.trade → h.rows ≡ t.rows → held_trades (held ++ h ∷ []) ≡ take (i + 1) ts
held_more held ts i t h so_far within at trade rows =
    let same : held_trade h ≡ t = λ j. record { trade = trade j; rows = rows j } in
    map-append held_trade held (h ∷ []) ∙ ap (λ us. us ++ held_trade h ∷ []) so_far ∙ ap (λ u. take i ts ++ u ∷ []) (same ∙ at) ∙ sym (take_more ts i t within)
