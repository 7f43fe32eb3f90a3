-- Parameters of which there is one at most: a factor of a qualifier, a multiplier of a product class; fixed amounts add up.
use Rattle.std.specs.Prelude.{List, map, Bool, false, Option, Some, None, Result, Ok, Err, if◌then◌else◌}
use Rattle.std.specs.List.{list_any, flat_map}
use Rattle.crif_records.specs.SimmKinds.declared.row.CrifRow.{CrifRow}
use Rattle.crif_records.specs.SimmKinds.declared.row.CrifRow.TheVariants as row
use Rattle.crif_records.specs.SimmKinds.Batch.{factor_names, multiplied}
use Rattle.crif_records.specs.SimmKinds.Order.{same_name, same_product}
use Rattle.crif_reader.specs.declared.fault.RowFault.{RowFault}
use Rattle.crif_reader.specs.declared.fault.RowFault.TheVariants.{DuplicateParam}
use Rattle.crif_reader.specs.Row.{Entry}

-- the row is one of which another stood before
abbrev pub is_repeated : List CrifRow → CrifRow → Bool
is_repeated before (row.Sensitivity key amount) = false
is_repeated before (row.Notional qualifier amount) = false
is_repeated before (row.FixedAmount amount) = false
is_repeated before (row.NotionalFactor qualifier factor) = list_any (same_name qualifier) (flat_map factor_names before)
is_repeated before (row.Multiplier product factor) = list_any (same_product product) (flat_map multiplied before)

abbrev pub rows_in : List Entry → List CrifRow
rows_in entries = map (λ e. e.row) entries

-- the last test of a row
abbrev pub once : List Entry → Option Entry → Result (Option Entry) RowFault
once before None = Ok None
once before (Some entry) = if is_repeated (rows_in before) entry.row then Err DuplicateParam else Ok (Some entry)
