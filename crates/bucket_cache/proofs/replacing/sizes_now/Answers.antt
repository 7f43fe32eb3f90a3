use Rattle.std.proofs.Common.{rules, ◌≡◌, ◌∙◌, ◌∷◌}
use Rattle.bucket_cache.proofs.Replaced.{weighing_begins, next_left, room_here, amounts_here, weighed_more}
use Rattle.bucket_cache.proofs.replacing.sizes_now.Goals as goal

pub loop-rows-init : goal.loop-rows-init
loop-rows-init c =
    weighing_begins c.args.params.now c.args.current.now.entries c.new-sizes.result c.into_iter-rows-iterator.result (c.new-sizes.ensures c.args.params.now)
    (c.into_iter-rows-iterator.ensures.into_iter_gives ∙ c.values-rows-items.ensures.rest)

pub add_rows-requires-clause-room : goal.add_rows-requires-clause-room
add_rows-requires-clause-room c =
    let first : c.loop-rows.rows-iterator ≡ c.in-Some.rows.now ∷ c.next.new.self = search rules in
    room_here c.args.params.now c.args.current.now.entries c.requires c.loop-rows.sizes c.as_slice.result.now c.next.new.self
    (next_left c.args.params.now c.args.current.now.entries c.loop-rows.sizes c.loop-rows.rows-iterator c.next.new.self c.in-Some.rows.now c.as_slice.result.now first c.as_slice.ensures c.loop-rows.invariant)

pub add_rows-requires-clause-amounts : goal.add_rows-requires-clause-amounts
add_rows-requires-clause-amounts c =
    let first : c.loop-rows.rows-iterator ≡ c.in-Some.rows.now ∷ c.next.new.self = search rules in
    amounts_here c.args.params.now c.args.current.now.entries c.requires c.loop-rows.sizes c.as_slice.result.now c.next.new.self
    (next_left c.args.params.now c.args.current.now.entries c.loop-rows.sizes c.loop-rows.rows-iterator c.next.new.self c.in-Some.rows.now c.as_slice.result.now first c.as_slice.ensures c.loop-rows.invariant)

pub loop-rows-preserved : goal.loop-rows-preserved
loop-rows-preserved c =
    let first : c.loop-rows.rows-iterator ≡ c.in-Some.rows.now ∷ c.next.new.self = search rules in
    weighed_more c.args.params.now c.args.current.now.entries c.requires c.loop-rows.sizes c.as_slice.result.now c.next.new.self
    (next_left c.args.params.now c.args.current.now.entries c.loop-rows.sizes c.loop-rows.rows-iterator c.next.new.self c.in-Some.rows.now c.as_slice.result.now first c.as_slice.ensures c.loop-rows.invariant)
    c.add_rows.new.self c.add_rows.ensures
