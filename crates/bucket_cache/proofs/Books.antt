-- Books that are lent trade by trade.
use Rattle.std.proofs.Common.{◌≡◌, ℕ, zero, suc, ◌+◌, ◌<◌, List, [], ◌∷◌, ◌++◌, length, take, get_or, Bool, true, refl, sym, ap, ◌∙◌, append-nil, arith}
use Rattle.std.specs.List.{list_all}
use Rattle.std.proofs.lemmas.Bool.{and_parts, and_from}
use Rattle.std.proofs.lemmas.List.{take_more}
use Rattle.std.proofs.lemmas.List.Concat.{flat_map-append}
use Rattle.std.proofs.lemmas.List.Folds.{list_all-append}
use Rattle.book_margin.specs.SimmKinds.declared.row.CrifRow.{CrifRow}
use Rattle.bucket_cache.specs.declared.lent.LentRows.{LentRows}
use Rattle.bucket_cache.specs.Lent.{all_rows}

-- what passes of all rows passes of those of each trade
pub each_trade : (p : CrifRow → Bool) (ts : List LentRows) (i : ℕ) (t : LentRows) → i < length ts → t ≡ get_or ts i t → list_all p (all_rows ts) ≡ true → list_all p t.rows.now ≡ true
each_trade p [] i t h e all = absurd (omega arith)
each_trade p (s ∷ ts) zero t h e all =
    let parts = and_parts (list_all p s.rows.now) (list_all p (all_rows ts)) (sym (list_all-append p s.rows.now (all_rows ts)) ∙ all) in
    ap (λ (x : LentRows). list_all p x.rows.now) e ∙ parts.0
each_trade p (s ∷ ts) (suc i) t h e all =
    let parts = and_parts (list_all p s.rows.now) (list_all p (all_rows ts)) (sym (list_all-append p s.rows.now (all_rows ts)) ∙ all) in
    each_trade p ts i t (omega arith) e parts.1

-- so it does of those of the first trades
pub front_trades : (p : CrifRow → Bool) (ts : List LentRows) (i : ℕ) → list_all p (all_rows ts) ≡ true → list_all p (all_rows (take i ts)) ≡ true
front_trades p ts zero all = refl
front_trades p [] (suc i) all = refl
front_trades p (s ∷ ts) (suc i) all =
    let parts = and_parts (list_all p s.rows.now) (list_all p (all_rows ts)) (sym (list_all-append p s.rows.now (all_rows ts)) ∙ all) in
    list_all-append p s.rows.now (all_rows (take i ts)) ∙ and_from (list_all p s.rows.now) (list_all p (all_rows (take i ts))) parts.0 (front_trades p ts i parts.1)

-- the rows of the first trades, and those of one trade more
pub one_trade_more : (ts : List LentRows) (i : ℕ) (t : LentRows) → i < length ts → t ≡ get_or ts i t → all_rows (take (i + 1) ts) ≡ all_rows (take i ts) ++ t.rows.now
one_trade_more ts i t below is =
    ap all_rows (take_more ts i t below ∙ ap (λ x. take i ts ++ x ∷ []) (sym is)) ∙ flat_map-append (λ (x : LentRows). x.rows.now) (take i ts) (t ∷ [])
    ∙ ap (λ rows. all_rows (take i ts) ++ rows) (append-nil t.rows.now)
