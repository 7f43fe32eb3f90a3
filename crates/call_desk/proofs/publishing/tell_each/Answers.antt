use Rattle.std.proofs.Common.{◌≡◌, ◌+◌, length, arith, [], ◌∷◌, ◌++◌}
use Rattle.std.proofs.lemmas.Grind.{common_steps}
use Rattle.call_desk.proofs.Outcomes.{then_stays, then_leaves, within_more}
use Rattle.call_desk.proofs.publishing.tell_each.Goals as goal

pub loop-desk-preserved-in-None-fault : goal.loop-desk-preserved-in-None-fault
loop-desk-preserved-in-None-fault g c =
    let more : length (c.loop-desk.yielded ++ c.in-Some.desk ∷ []) ≡ length c.loop-desk.yielded + 1 = grind (arith, common_steps) in
    let within = within_more _ _ c.args.notices.now c.loop-desk.published c.with-published.result _ _ _ _ c.tell_all-run.ensures c.with-published.ensures more c.loop-desk.invariant.7 c.loop-desk.invariant.8 in (
      tt,
      tt,
      then_stays _ c.args.notices.now c.loop-desk.yielded c.loop-desk.staying.items c.push.new.self.items c.args.retired.now.items c.loop-desk.retired.items c.loop-desk.published c.with-published.result c.loop-desk.invariant.2.0 c.in-Some.desk c.tell_all-run.new.desk _ _ c.in-None-fault.is (rw c.unwrap.ensures at c.push.ensures.items) c.with-published.ensures c.loop-desk.invariant.2.1 c.tell_all-run.ensures,
      grind (arith, common_steps),
      grind (arith, common_steps),
      grind (arith, common_steps),
      grind (arith, common_steps),
      within.0,
      within.1,
    )

pub loop-desk-preserved : goal.loop-desk-preserved
loop-desk-preserved g c =
    let more : length (c.loop-desk.yielded ++ c.in-Some.desk ∷ []) ≡ length c.loop-desk.yielded + 1 = grind (arith, common_steps) in
    let within = within_more _ _ c.args.notices.now c.loop-desk.published c.with-published.result _ _ _ _ c.tell_all-run.ensures c.with-published.ensures more c.loop-desk.invariant.7 c.loop-desk.invariant.8 in (
      tt,
      tt,
      then_leaves _ c.args.notices.now c.loop-desk.yielded c.loop-desk.staying.items c.args.retired.now.items c.loop-desk.retired.items c.push-in-Some-fault.new.self.items c.loop-desk.published c.with-published.result c.loop-desk.invariant.2.0 c.in-Some.desk c.tell_all-run.new.desk _ _ _ c.in-Some-fault.is (rw c.unwrap-in-Some-fault.ensures at c.push-in-Some-fault.ensures.items) c.with-published.ensures c.loop-desk.invariant.2.1 c.tell_all-run.ensures,
      grind (arith, common_steps),
      grind (arith, common_steps),
      grind (arith, common_steps),
      grind (arith, common_steps),
      within.0,
      within.1,
    )
