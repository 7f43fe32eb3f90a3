use Rattle.std.proofs.Common.{◌≡◌, arith, [], ◌∷◌, ◌++◌, map, sym, ap, ◌∙◌, subst}
use Rattle.std.specs.List.{AllByRecursion}
use Rattle.std.specs.Option.{option_to_list}
use Rattle.std.proofs.lemmas.List.{nil_from_length}
use Rattle.std.proofs.lemmas.Grind.{common_steps}
use Rattle.threshold_pool.specs.Seats.{IsJoined}
use Rattle.pool_gate.specs.Share.{IsPart}
use Rattle.pool_gate.proofs.Gathering.{Gathered, Gathers, gathers_one, gathers_more, gathers_all, all_parts, keeps_rest}
use Rattle.pool_gate.proofs.pool_run.Room.fill.Goals as goal
use Rattle.pool_gate.proofs.pool_run.Room.fill.Goals.{After-apart-all, In_default}

-- the first job and those that wait are all
first : (g : _) (c : After-apart-all g) → c.args.jobs.items ≡ c.unwrap.result ∷ c.pop_front.new.self.items
first g c =
    sym c.from_vec-waiting.ensures.items ∙ (c.pop_front.ensures.items ∙ ap (λ o. option_to_list o ++ c.pop_front.new.self.items) c.unwrap.ensures)

pub loop-job-init : goal.loop-job-init
loop-job-init g c =
    let waiting = c.pop_front.new.self.items in
    let parts = subst (AllByRecursion (λ job. IsPart c.args.pool job.seat)) (first g c) c.requires.seats in
    record {
      sources = grind (arith, common_steps);
      reports = grind (arith, common_steps);
      seats = subst (λ jobs. Gathers c.args.pool (map (λ job. job.seat) waiting) (map (λ job. job.seat) jobs) c.apart-all.result) (sym (first g c))
          (subst (Gathers c.args.pool (map (λ job. job.seat) waiting) (map (λ job. job.seat) (c.unwrap.result ∷ waiting))) (sym c.apart-all.ensures.seat)
          (gathers_one c.args.pool c.unwrap.result.seat (map (λ job. job.seat) waiting) parts.0.of));
      parts = parts.1;
      source_room = grind (arith, common_steps);
      report_room = grind (arith, common_steps);
    }

pub loop-job-preserved : goal.loop-job-preserved
loop-job-preserved g c =
    let waiting = c.pop_front-in-loop-job.new.self.items in
    record {
      sources = grind (arith, common_steps);
      reports = grind (arith, common_steps);
      seats = gathers_more c.args.pool (map (λ job. job.seat) waiting) (map (λ job. job.seat) c.args.jobs.items) c.loop-job.all c.in-Some.job.seat c.join-all.result
          (subst (λ ws. Gathers c.args.pool (map (λ job. job.seat) ws) (map (λ job. job.seat) c.args.jobs.items) c.loop-job.all) c.in-Some.ensures.items c.loop-job.invariant.seats)
          c.join-all.ensures.seat (subst (λ s. IsJoined c.loop-job.all s c.join-all.result) c.apart-seat.ensures.seat c.join-all.ensures.joined);
      parts = (subst (AllByRecursion (λ job. IsPart c.args.pool job.seat)) c.in-Some.ensures.items c.loop-job.invariant.parts).1;
      source_room = grind (arith, common_steps);
      report_room = grind (arith, common_steps);
    }

-- no job waits any more, so the seat is that of all
gathered : (g : _) (c : In_default g) → Gathered c.args.pool (map (λ job. job.seat) c.args.jobs.items) c.loop-job.all
gathered g c =
    let none : c.loop-job.waiting.items ≡ [] = nil_from_length c.loop-job.waiting.items (omega (arith, c.in_default.ensures.cases.0)) in
    gathers_all c.args.pool (map (λ job. job.seat) c.args.jobs.items) c.loop-job.all
    (subst (λ ws. Gathers c.args.pool (map (λ job. job.seat) ws) (map (λ job. job.seat) c.args.jobs.items) c.loop-job.all) none c.loop-job.invariant.seats)

pub close-requires-clause-all : goal.close-requires-clause-all
close-requires-clause-all g c =
    let parts = (gathered g c).parts in
    omega (arith, all_parts (λ job. job.seat) c.args.pool c.args.jobs.items c.requires.seats, c.requires.all)

pub returns-clause-rest : goal.returns-clause-rest
returns-clause-rest g c =
    keeps_rest c.args.pool (map (λ job. job.seat) c.args.jobs.items) c.loop-job.all c.close.result (gathered g c.before.before) c.close.ensures.amounts c.close.ensures.least
