use Rattle.std.proofs.Common.{◌≡◌, ◌+◌, ◌-◌, ◌≤◌, ◌++◌, take, length, ap, ◌∙◌, arith}
use Rattle.std.proofs.lemmas.List.{length-take-le, with_items_is}
use Rattle.std.specs.Vec.{with_items}
use borrow.Rule.Slice.PartMut.{put_mid}
use Rattle.mh_io.proofs.LinesPieces.{filled, same_written}
use Rattle.mh_io.proofs.lines_window.Window.fill.Goals as goal

pub returns-clause-takes : goal.returns-clause-takes
returns-clause-takes g c =
    let n = c.in_ok-taken.taken in
    let held = c.self.inside.end - c.self.inside.start in
    let piece = c.take.new.buf in
    let front : take held c.deref_mut.result.now ≡ c.args.self.now = ap (λ xs. take held xs) c.deref_mut.ensures.value ∙ (c.move_to_front.ensures.front ∙ c.self.view_is) in
    let long : length piece ≡ held + c.min-room.result - held = omega (arith, c.take.auto.buf) in
    let few : n ≤ length piece = omega (arith, c.take.auto.buf, c.in_ok-taken.ensures.within) in
    let fits : held ≤ length c.deref_mut.result.now = omega (arith, c.deref_mut.ensures.len) in
    let whole : (with_items c.move_to_front.new.bytes (put_mid held (held + c.min-room.result - held) c.deref_mut.result.now piece)).items ≡ put_mid held (held + c.min-room.result - held) c.deref_mut.result.now piece =
    with_items_is c.move_to_front.new.bytes _ (same_written held (held + c.min-room.result - held) c.deref_mut.result.now piece (omega (arith, c.deref_mut.ensures.len)) long ∙ c.deref_mut.ensures.len) in (
      take n piece,
      c.in_ok-taken.ensures.takes,
      ap (λ xs. take (held + n - 0) xs) whole ∙ filled held (held + c.min-room.result - held) n c.deref_mut.result.now piece fits long (omega arith) ∙ ap (λ xs. xs ++ take n piece) front,
      length-take-le n piece few,
    )
