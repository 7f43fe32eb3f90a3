use Rattle.std.proofs.Common.{◌≡◌, suc, arith, [], ◌∷◌, ◌++◌, length, map, take, drop, append-nil, append_assoc, sym, ap, ◌∙◌, subst}
use Rattle.std.specs.List.{AllZip}
use Rattle.std.specs.Vec.{vec_len}
use Rattle.std.proofs.lemmas.List.{take_at, length-map}
use Rattle.std.proofs.lemmas.Option.{slice_get_within, get_or_from_slice_get}
use Rattle.feed_events.specs.SetCore.HeldCell.Entries.{own_of}
use Rattle.feed_gate.specs.Share.{IsCut, AreLasts, AreCut, Gathers, Closes, AreKeptIn}
use Rattle.feed_runs.proofs.Zips.{map_lengths, zip_length}
use Rattle.feed_gate.proofs.Closings.{last_open, lasts_of, cut_rows, kept_more, kept_none, all_of, none_dropped}
use Rattle.feed_gate.proofs.close.close_sets.Goals as goal

pub loop-cell-init : goal.loop-cell-init
loop-cell-init c = record {
  closed = [];
  cells = append-nil c.args.cells.items;
  rows = sym (all_of c.args.cells.items 0 (vec_len c.args.cells) (map (λ row. row.items) c.args.rows.items) (omega arith) c.requires.rows);
  sets = subst (AllZip (Closes (vec_len c.args.rows)) []) (sym c.requires.room.0) tt;
  kept = subst (AreKeptIn 0 (map (drop (vec_len c.args.cells)) (map (λ row. row.items) c.args.rows.items))) (sym c.requires.room.0) (kept_none 0 (vec_len c.args.cells) (map (λ row. row.items) c.args.rows.items));
  room = omega (arith, c.requires.room.1, ap length c.requires.room.0);
}

-- ---- the last open cell

pub join_last-seat-requires-clause-lasts : goal.join_last-seat-requires-clause-lasts
join_last-seat-requires-clause-lasts c =
    let m = vec_len c.pop.new.self in
    let more : vec_len c.loop-cell.unclosed ≡ suc m = omega (arith, c.in-Some.ensures.cases) in
    let at = last_open c.args.cells.items c.loop-cell.unclosed.items c.pop.new.self.items c.loop-cell.invariant.closed c.in-Some.cell m c.loop-cell.invariant.cells c.in-Some.ensures.items (omega arith) in
    subst (AreLasts c.in-Some.cell 0) (sym (ap (map (λ row. row.items)) c.deref_mut.ensures.value ∙ c.loop-cell.invariant.rows ∙ ap (λ n. map (take n) (map (λ row. row.items) c.args.rows.items)) more))
    (lasts_of c.args.cells.items c.in-Some.cell m 0 (map (λ row. row.items) c.args.rows.items) at c.requires.rows)

pub close-set-requires-clause-all : goal.close-set-requires-clause-all
close-set-requires-clause-all c =
    let m = vec_len c.pop.new.self in
    let at = last_open c.args.cells.items c.loop-cell.unclosed.items c.pop.new.self.items c.loop-cell.invariant.closed c.in-Some.cell m c.loop-cell.invariant.cells c.in-Some.ensures.items (omega arith) in
    let many : length c.deref_mut.result.now ≡ vec_len c.args.rows = omega (arith, c.deref_mut.ensures.len, map_lengths (λ row. row.items) (take (vec_len c.loop-cell.unclosed)) c.loop-cell.left.items (map (λ row. row.items) c.args.rows.items) c.loop-cell.invariant.rows, length-map c.args.rows.items (λ row. row.items)) in
    let callers = c.requires.callers m c.in-Some.cell (slice_get_within c.args.cells.items m c.in-Some.cell at) in
    c.join_last-seat.ensures.seat.2 ∙ many ∙ sym callers ∙ ap (λ x. x.callers) (get_or_from_slice_get c.args.cells.items m c.in-Some.cell c.in-Some.cell at)

pub loop-cell-preserved : goal.loop-cell-preserved
loop-cell-preserved c =
    let m = vec_len c.pop.new.self in
    let rows = map (λ row. row.items) c.args.rows.items in
    let closed = c.loop-cell.invariant.closed in
    let cell = c.in-Some.cell in
    let seat = c.join_last-seat.result in
    let set = c.close-set.result in
    let more : vec_len c.loop-cell.unclosed ≡ suc m = omega (arith, c.in-Some.ensures.cases) in
    let at = last_open c.args.cells.items c.loop-cell.unclosed.items c.pop.new.self.items closed cell m c.loop-cell.invariant.cells c.in-Some.ensures.items (omega arith) in
    let now : map (λ row. row.items) c.deref_mut.result.now ≡ map (take (suc m)) rows = ap (map (λ row. row.items)) c.deref_mut.ensures.value ∙ c.loop-cell.invariant.rows ∙ ap (λ n. map (take n) rows) more in
    let cut = subst (λ rs. AreCut rs (map (λ row. row.items) c.join_last-seat.new.rows)) now c.join_last-seat.ensures.cut in
    let many : length c.deref_mut.result.now ≡ vec_len c.args.rows = omega (arith, c.deref_mut.ensures.len, map_lengths (λ row. row.items) (take (vec_len c.loop-cell.unclosed)) c.loop-cell.left.items (map (λ row. row.items) c.args.rows.items) c.loop-cell.invariant.rows, length-map c.args.rows.items (λ row. row.items)) in
    let kept_len : length c.join_last-seat.new.rows ≡ c.loop-cell.left.len = omega (arith, c.deref_mut.ensures.len, zip_length IsCut (map (λ row. row.items) c.deref_mut.result.now) (map (λ row. row.items) c.join_last-seat.new.rows) c.join_last-seat.ensures.cut, length-map c.deref_mut.result.now (λ row. row.items), length-map c.join_last-seat.new.rows (λ row. row.items)) in
    let seen : set.journal ≡ seat.seen = c.close-set.ensures.journal in
    let callers : own_of 0 (vec_len c.args.rows) set.journal ≡ set.journal
    = ap (λ log. own_of 0 (vec_len c.args.rows) log) seen
    ∙ ap (λ n. own_of 0 n seat.seen) (sym (c.join_last-seat.ensures.seat.2 ∙ many)) ∙ ap (λ f. own_of f seat.count seat.seen) (sym c.join_last-seat.ensures.seat.1)
    ∙ sym c.close-set.ensures.own.0 ∙ c.close-set.ensures.own.1 ∙ sym seen in
    record {
      closed = cell ∷ closed;
      cells = sym (append_assoc c.pop.new.self.items (cell ∷ []) closed) ∙ ap (λ xs. xs ++ closed) (sym c.in-Some.ensures.items) ∙ c.loop-cell.invariant.cells;
      rows = ap (map (λ row. row.items)) (take_at c.join_last-seat.new.rows (drop (length c.join_last-seat.new.rows) c.loop-cell.left.items) c.loop-cell.left.len kept_len)
          ∙ cut_rows c.args.cells.items cell m 0 rows (map (λ row. row.items) c.join_last-seat.new.rows) at c.requires.rows cut;
      sets = subst (AllZip (Closes (vec_len c.args.rows)) (cell ∷ closed)) (sym c.push_front_reserved.ensures.items)
          (record { base = c.close-set.ensures.base; legal = c.facts.ensures.set; callers = callers }, c.loop-cell.invariant.sets);
      kept = subst (AreKeptIn 0 (map (drop m) rows)) (sym c.push_front_reserved.ensures.items)
          (kept_more m 0 rows set c.loop-cell.sets.items
          (subst (λ log. Gathers 0 (map (take (suc m)) rows) log) (sym seen) (subst (λ rs. Gathers 0 rs seat.seen) now c.join_last-seat.ensures.gathers))
          (subst (λ n. AreKeptIn 0 (map (drop n) rows) c.loop-cell.sets.items) more c.loop-cell.invariant.kept));
      room = omega (arith, more, c.loop-cell.invariant.room, c.push_front_reserved.ensures);
    }

pub returns-clause-kept : goal.returns-clause-kept
returns-clause-kept c =
    subst (AreKeptIn 0 (map (λ row. row.items) c.args.rows.items)) (sym c.from.ensures.0)
    (subst (λ rows. AreKeptIn 0 rows c.loop-cell.sets.items) (none_dropped (map (λ row. row.items) c.args.rows.items))
    (subst (λ n. AreKeptIn 0 (map (drop n) (map (λ row. row.items) c.args.rows.items)) c.loop-cell.sets.items) c.in_default.ensures.cases.0 c.loop-cell.invariant.kept))
