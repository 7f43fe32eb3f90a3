-- The block of a batch reads back as just the batch.
use Rattle.std.proofs.Common.{◌≡◌, ℕ, ◌<◌, Ok, refl}
use Rattle.std.specs.List.{AllByRecursion}
use Rattle.crif_reader.specs.Grammar.{crif_of}
use Rattle.crif_writer.specs.Parts.{HasParts}
use Rattle.crif_writer.specs.Rows.{HasRowParts}
use Rattle.crif_writer.specs.Text.{batch_text}
use Rattle.crif_writer.proofs.ReadsBack.{reads_back}
use Rattle.house_sample.specs.Draws.{next_state, drawn}
use Rattle.house_sample.specs.Trades.{currency, exchange_rate, curve_point, row_from, behind_row, rows_from, batch_at, state_at, trade_name}
use Rattle.house_sample.proofs.Rows.{of_four, name_is, batch_is}

rate_parts : (draw : ℕ) → HasParts (exchange_rate (currency draw))
rate_parts = of_four (λ cur. HasParts (exchange_rate cur))
    (record { qualifier = refl; bucket = tt; label2 = tt })
    (record { qualifier = refl; bucket = tt; label2 = tt })
    (record { qualifier = refl; bucket = tt; label2 = tt })
    (record { qualifier = refl; bucket = tt; label2 = tt })

point_parts : (draw : ℕ) → HasParts (curve_point (currency draw))
point_parts = of_four (λ cur. HasParts (curve_point cur))
    (record { qualifier = refl; bucket = tt; label2 = tt })
    (record { qualifier = refl; bucket = tt; label2 = tt })
    (record { qualifier = refl; bucket = tt; label2 = tt })
    (record { qualifier = refl; bucket = tt; label2 = tt })

row_parts : (x : ℕ) → AllByRecursion HasRowParts (rows_from x)
unfolding rows_from row_from
row_parts x =
    let second : ℕ = behind_row x in
    let third : ℕ = behind_row second in
    let fourth : ℕ = behind_row third in
    (rate_parts (drawn (next_state x)), (point_parts (drawn (next_state second)), (rate_parts (drawn (next_state third)), (point_parts (drawn (next_state fourth)), tt))))

pub batch_back : (seed feed batch : ℕ) → feed < 32 → batch < 50 → crif_of (batch_text (batch_at seed feed batch)) ≡ Ok (record { trades = batch_at seed feed batch; passed_over = 0 })
batch_back seed feed batch few less =
    let x = state_at seed feed batch in
    reads_back (batch_at seed feed batch) (batch_is feed batch x) (record { name = name_is feed batch (trade_name feed batch) refl few less; rows = row_parts x }, tt)
