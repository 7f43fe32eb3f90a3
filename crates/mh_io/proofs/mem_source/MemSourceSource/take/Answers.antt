use Rattle.std.proofs.Common.{◌≡◌, ◌≤◌, length, take, drop, rules, arith, ap, ◌∙◌}
use Rattle.std.proofs.lemmas.Grind.{common_steps}
use Rattle.std.proofs.lemmas.List.{length-drop}
use Rattle.mh_io.proofs.MemoryLemmas.{piece_taken}
use Rattle.mh_io.proofs.TakesLemmas.{whole_rest}
use Rattle.mh_io.proofs.mem_source.MemSourceSource.take.Goals as goal

pub returns-clause-takes : goal.returns-clause-takes
returns-clause-takes c =
    let taken = c.min-taken.result in
    let given = c.self.inside.given in
    let bytes = c.self.inside.bytes in
    let piece : c.copy_from_slice.new.self ≡ take taken (drop given bytes) =
    c.copy_from_slice.ensures.after ∙ (ap (λ xs. take taken xs) (whole_rest given c.as_slice.result.now) ∙ ap (λ xs. take taken (drop given xs)) c.as_slice.ensures) in
    let fits : taken ≤ length (drop given bytes) = omega (arith, length-drop given bytes, ap length c.as_slice.ensures) in
    record {
      count = search (rules, common_steps);
      counted = search (rules, common_steps);
      name = search (rules, common_steps);
      within = search (rules, common_steps);
      takes = rw (← c.self.view_is) (piece_taken _ _ _ _ bytes (drop taken c.args.buf.now) c.copy_from_slice.new.self given taken piece fits);
      end = search (rules, common_steps);
      failed = search (rules, common_steps);
      gave_stands = search (rules, common_steps);
      left_stands = search (rules, common_steps);
    }
