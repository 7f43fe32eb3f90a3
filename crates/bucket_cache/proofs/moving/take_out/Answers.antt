use Rattle.std.proofs.Common.{List, ℕ}
use denote.Bor.{Bor}
use Rattle.bucket_cache.specs.Live.{rows_in}
use Rattle.bucket_cache.specs.Entries.{trades_of, lent_names}
use Rattle.bucket_cache.specs.Lent.{all_rows}
use Rattle.bucket_cache.proofs.Gaining.{lent_rows}
use Rattle.bucket_cache.proofs.AddOnOrder.{add_ons_move}
use Rattle.bucket_cache.proofs.Exchanges.{its_rows, withdrawn_holds, withdrawn_is_moved}
use Rattle.bucket_cache.proofs.moving.take_out.Goals as goal

pub take_lent-requires : goal.take_lent-requires
take_lent-requires c =
    let us = trades_of c.args.current.now.entries in
    withdrawn_holds c.args.params.now us (lent_names c.args.names.now) c.args.sums.now _ c.requires.book.live c.requires.different
    (its_rows us c.args.names.now (lent_rows (λ (name : Bor (List ℕ)). rows_in us name.now) _ _ c.args.names.now c.as_slice-leaving.ensures.value c.in_ok-gone.ensures))
    c.order_is_free.ensures.permuted (add_ons_move c.sums_ignore_order.ensures.alike) c.requires.book.summed

pub returns-clause-moved : goal.returns-clause-moved
returns-clause-moved c =
    let us = trades_of c.args.current.now.entries in
    withdrawn_is_moved c.args.params.now us (lent_names c.args.names.now) (all_rows c.as_slice-leaving.result.now) c.requires.book.live c.requires.different
    (its_rows us c.args.names.now (lent_rows (λ (name : Bor (List ℕ)). rows_in us name.now) _ _ c.args.names.now c.as_slice-leaving.ensures.value c.in_ok-gone.ensures))
    c.args.kept.now c.touch_lent.new.kept c.args.sums.now c.take_lent.new.self c.order_is_free.ensures.permuted (add_ons_move c.sums_ignore_order.ensures.alike) c.other_factors_stand.ensures.taken c.touched_stays_right.ensures
    c.requires.book.right c.requires.book.summed c.take_lent.ensures c.touch_lent.ensures
