-- The rows of trades of different names, trade after trade, are gathered into just these trades.
use Rattle.std.proofs.Common.{◌≡◌, ℕ, ◌<◌, false, List, [], ◌∷◌, ◌++◌, length, map, fold, refl, sym, ap, ◌∙◌, arith, append_assoc}
use Rattle.std.specs.List.{flat_map, list_any, AllByRecursion}
use Rattle.std.proofs.lemmas.Bool.{or_parts}
use Rattle.std.proofs.lemmas.List.{append-nil, map-append}
use Rattle.std.proofs.lemmas.List.Sums.{fold-append}
use Rattle.crif_reader.specs.SimmKinds.declared.row.CrifRow.{CrifRow}
use Rattle.crif_reader.specs.SimmKinds.declared.row.TradeRows.{TradeRows}
use Rattle.crif_reader.specs.SimmKinds.Batch.{repeats}
use Rattle.crif_reader.specs.SimmKinds.Order.{same_name}
use Rattle.crif_reader.specs.Growth.{with_entry}
use Rattle.crif_reader.specs.Row.{Entry}
use Rattle.crif_reader.specs.Trades.{gathered}
use Rattle.crif_reader.proofs.Gathered.{grown-gathered}
use Rattle.crif_reader.proofs.Places.{same_name-refl, same_name_comm}
use Rattle.crif_writer.proofs.FirstOfKind.{unseen}

abbrev pub entry : List ℕ → CrifRow → Entry
entry trade r = record { trade = trade; row = r }

abbrev pub trade_entries : TradeRows → List Entry
trade_entries t = map (entry t.trade) t.rows

abbrev pub entries_of : List TradeRows → List Entry
entries_of trades = flat_map trade_entries trades

abbrev trade_names : List TradeRows → List (List ℕ)
trade_names trades = map (λ t. t.trade) trades

-- the first row of a trade starts it behind the others
starts : (done : List TradeRows) (trade : List ℕ) (r : CrifRow) → list_any (same_name trade) (trade_names done) ≡ false
    → with_entry done (entry trade r) ≡ done ++ record { trade = trade; rows = r ∷ [] } ∷ []
starts [] trade r new = refl
starts (t ∷ ts) trade r new =
    let parts = or_parts (same_name trade t.trade) (list_any (same_name trade) (trade_names ts)) new in
    rw parts.0 (ap (λ (x : List TradeRows). t ∷ x) (starts ts trade r parts.1))

-- each further one joins it
joins : (done : List TradeRows) (trade : List ℕ) (rows : List CrifRow) (r : CrifRow) → list_any (same_name trade) (trade_names done) ≡ false
    → with_entry (done ++ record { trade = trade; rows = rows } ∷ []) (entry trade r) ≡ done ++ record { trade = trade; rows = rows ++ r ∷ [] } ∷ []
joins [] trade rows r new = rw (same_name-refl trade) refl
joins (t ∷ ts) trade rows r new =
    let parts = or_parts (same_name trade t.trade) (list_any (same_name trade) (trade_names ts)) new in
    rw parts.0 (ap (λ (x : List TradeRows). t ∷ x) (joins ts trade rows r parts.1))

join_all : (done : List TradeRows) (trade : List ℕ) (rows more : List CrifRow) → list_any (same_name trade) (trade_names done) ≡ false
    → fold with_entry (done ++ record { trade = trade; rows = rows } ∷ []) (map (entry trade) more) ≡ done ++ record { trade = trade; rows = rows ++ more } ∷ []
join_all done trade rows [] new = ap (λ (x : List CrifRow). done ++ record { trade = trade; rows = x } ∷ []) (sym (append-nil rows))
join_all done trade rows (r ∷ more) new =
    ap (λ (x : List TradeRows). fold with_entry x (map (entry trade) more)) (joins done trade rows r new)
    ∙ join_all done trade (rows ++ r ∷ []) more new
    ∙ ap (λ (x : List CrifRow). done ++ record { trade = trade; rows = x } ∷ []) (append_assoc rows (r ∷ []) more)

trade_grows : (done : List TradeRows) (trade : List ℕ) (rows : List CrifRow) → 0 < length rows → list_any (same_name trade) (trade_names done) ≡ false
    → fold with_entry done (map (entry trade) rows) ≡ done ++ record { trade = trade; rows = rows } ∷ []
trade_grows done trade [] some new = absurd (omega arith)
trade_grows done trade (r ∷ rows) some new =
    ap (λ (x : List TradeRows). fold with_entry x (map (entry trade) rows)) (starts done trade r new) ∙ join_all done trade (r ∷ []) rows new

abbrev pub HasRows : TradeRows → Type 0
HasRows t = 0 < length t.rows

all_grow : (done more : List TradeRows) → AllByRecursion HasRows more → repeats same_name (trade_names (done ++ more)) ≡ false → fold with_entry done (entries_of more) ≡ done ++ more
all_grow done [] some once = sym (append-nil done)
all_grow done (t ∷ ts) some once =
    let names = sym (map-append (λ (t : TradeRows). t.trade) done (t ∷ ts)) in
    let new = unseen same_name same_name_comm (trade_names done) t.trade (trade_names ts) (ap (repeats same_name) names ∙ once) in
    let one = append_assoc done (t ∷ []) ts in
    fold-append with_entry done (trade_entries t) (entries_of ts)
    ∙ ap (λ (x : List TradeRows). fold with_entry x (entries_of ts)) (trade_grows done t.trade t.rows some.0 new)
    ∙ all_grow (done ++ t ∷ []) ts some.1 (ap (λ (x : List TradeRows). repeats same_name (trade_names x)) one ∙ once)
    ∙ one

pub gathered_back : (trades : List TradeRows) → AllByRecursion HasRows trades → repeats same_name (map (λ t. t.trade) trades) ≡ false → gathered (entries_of trades) ≡ trades
gathered_back trades some once = sym (grown-gathered (entries_of trades)) ∙ all_grow [] trades some once
