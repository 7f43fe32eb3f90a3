use Rattle.std.proofs.Common.{◌≡◌, arith, [], ◌++◌, map, append-nil, sym, ap, ◌∙◌, subst}
use Rattle.std.proofs.lemmas.List.{nil_from_length}
use Rattle.std.proofs.lemmas.Grind.{common_steps}
use Rattle.pool_gate.proofs.Starting.{AreNew, new_more, are_fresh}
use Rattle.pool_gate.proofs.pool_run.make_jobs.Goals as goal

pub loop-lines-preserved : goal.loop-lines-preserved
loop-lines-preserved g c = record {
  lines = grind (arith, common_steps);
  seats = grind (arith, common_steps);
  new = subst (AreNew 0) (sym c.push_reserved.ensures.items)
      (new_more 0 c.loop-lines.jobs.items c.new.result c.loop-lines.invariant.new (grind (arith, common_steps)) c.new.ensures.report);
  as_many = grind (arith, common_steps);
  count = grind (arith, common_steps);
  room = grind (arith, common_steps);
}

-- no lines wait any more, and so no seats
pub returns-clause-fresh : goal.returns-clause-fresh
returns-clause-fresh g c =
    let jobs = c.loop-lines.jobs.items in
    let no_lines : c.loop-lines.waiting.items ≡ [] = nil_from_length c.loop-lines.waiting.items (omega (arith, c.in_default-pop_front.ensures.cases.0)) in
    let no_seats : c.loop-lines.seats_left.items ≡ [] = nil_from_length c.loop-lines.seats_left.items (omega (arith, c.in_default-pop_front.ensures.cases.0, c.loop-lines.invariant.as_many)) in
    are_fresh 0 c.args.sources.items c.args.seats.items jobs
    (sym (append-nil (map (λ job. job.lines) jobs)) ∙ (ap (λ ws. map (λ job. job.lines) jobs ++ ws) (sym no_lines) ∙ c.loop-lines.invariant.lines))
    (sym (append-nil (map (λ job. job.seat) jobs)) ∙ (ap (λ ws. map (λ job. job.seat) jobs ++ ws) (sym no_seats) ∙ c.loop-lines.invariant.seats))
    c.loop-lines.invariant.new
