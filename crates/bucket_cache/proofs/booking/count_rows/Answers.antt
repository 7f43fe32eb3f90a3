use Rattle.std.proofs.Common.{arith, length, ap}
use Rattle.std.proofs.lemmas.List.Folds.{length-flat_map-take}
use Rattle.bucket_cache.specs.declared.lent.LentRows.{LentRows}
use Rattle.bucket_cache.proofs.booking.count_rows.Goals as goal

pub overflow_add-count : goal.overflow_add-count
overflow_add-count c =
    omega (
      arith,
      ap (λ (t : LentRows). length t.rows.now) c.trade-item.is,
      length-flat_map-take (λ (t : LentRows). t.rows.now) c.args.lent.now c.loop-trade.trade-index c.trade-item.result c.loop-trade-test.true,
    )
