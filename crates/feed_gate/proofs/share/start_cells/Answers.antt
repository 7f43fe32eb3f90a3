use Rattle.std.proofs.Common.{rules, ◌≡◌, [], ◌∷◌, ◌++◌, append_assoc, sym, ap, ◌∙◌, subst}
use Rattle.std.specs.List.{AllZip}
use Rattle.feed_gate.specs.Share.{Starts, IsUnused}
use Rattle.feed_runs.proofs.Zips.{zip_append}
use Rattle.feed_gate.proofs.Shares.{taken}
use Rattle.feed_gate.proofs.share.start_cells.Goals as goal

pub loop-set-init : goal.loop-set-init
loop-set-init c = record { started = []; sets = c.from_vec-waiting.ensures.items; cells = search rules; seats = search rules }

pub start-requires-clause-empty : goal.start-requires-clause-empty
start-requires-clause-empty c =
    taken (λ s. s.journal ≡ []) c.args.sets.items c.loop-set.invariant.started c.pop_front.new.self.items c.in-Some.set c.requires.empty
    (ap (λ ys. c.loop-set.invariant.started ++ ys) (sym c.in-Some.ensures.items) ∙ c.loop-set.invariant.sets)

pub loop-set-preserved : goal.loop-set-preserved
loop-set-preserved c =
    let started = c.loop-set.invariant.started in
    let set = c.in-Some.set in
    let cell = c.in_ok-cell.cell in
    let made = c.in_ok-cell.ensures in
    record {
      started = started ++ set ∷ [];
      sets = append_assoc started (set ∷ []) c.pop_front.new.self.items ∙ ap (λ ys. started ++ ys) (sym c.in-Some.ensures.items) ∙ c.loop-set.invariant.sets;
      cells = subst (AllZip (Starts c.args.callers) (started ++ set ∷ [])) (sym c.in_ok-push.ensures.items)
          (zip_append (Starts c.args.callers) started c.loop-set.cells.items (set ∷ []) (cell ∷ []) c.loop-set.invariant.cells (record { base = made.cell.0; callers = made.cell.1 }, tt));
      seats = subst (λ xs. AllZip (IsUnused 0 c.args.callers) xs c.push-in-Some.new.self.items) (sym c.in_ok-push.ensures.items)
          (subst (λ ys. AllZip (IsUnused 0 c.args.callers) (c.loop-set.cells.items ++ cell ∷ []) ys) (sym c.in_ok-push-2.ensures.items)
          (zip_append (IsUnused 0 c.args.callers) c.loop-set.cells.items c.loop-set.seats.items (cell ∷ []) (c.in_ok-cell.seat ∷ []) c.loop-set.invariant.seats
          (record { is = record { of = made.seat.0; first = made.seat.1; count = made.seat.2 }; own = made.seat.4 }, tt)));
    }
