-- Rows that are lent trade by trade.
use Rattle.std.specs.Prelude.{List}
use Rattle.std.specs.List.{flat_map}
use Rattle.book_margin.specs.SimmKinds.declared.row.CrifRow.{CrifRow}
use Rattle.bucket_cache.specs.declared.lent.LentRows.{LentRows}

-- all rows of the trades, trade after trade
abbrev pub all_rows : List LentRows → List CrifRow
all_rows lent = flat_map (λ t. t.rows.now) lent
