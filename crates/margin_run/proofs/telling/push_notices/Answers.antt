use Rattle.std.proofs.Common.{◌≡◌, ◌++◌, ap, ◌∙◌, arith}
use Rattle.margin_run.specs.Notices.{notices_by}
use Rattle.feed_gate.proofs.SetCore.JournalEntries.{entry_there}
use Rattle.margin_run.proofs.NoticeLemmas.{few_notices, notices_more}
use Rattle.margin_run.proofs.telling.push_notices.Goals as goal
use Rattle.margin_run.proofs.telling.push_notices.Goals.{in-Some+in_ok-push_notice, in_default}

pub loop-index-preserved : goal.loop-index-preserved
loop-index-preserved c =
    let set = c.args.set.now in
    let name = set.terms.collect.name in
    let before = c.loop-index.notices.items in
    elim c.match-entry.branch [
      | in-Some+in_ok-push_notice w ↦
          let e = w.in-Some.entry.now in
          let more : c.match-entry.notices.items ≡ before ++ notices_by name e.event e.reply =
          rw w.notices-is (w.in_ok-push_notice.ensures ∙ ap (λ n. before ++ notices_by n e.event e.reply) w.name.ensures) in
          notices_more name set.journal c.loop-index.index e c.args.notices.now.items before c.match-entry.notices.items w.in-Some.ensures c.loop-index.invariant more
      | in_default w ↦ absurd (entry_there set.journal c.loop-index.index w.in_default.ensures (omega arith))
    ]

pub returns-in_err-push_notice-clause-few : goal.returns-in_err-push_notice-clause-few
returns-in_err-push_notice-clause-few c =
    omega (arith, few_notices c.args.set.now.terms.collect.name c.args.set.now.journal, c.facts.ensures.set.few)

pub returns-clause-few : goal.returns-clause-few
returns-clause-few c = omega (arith, few_notices c.args.set.now.terms.collect.name c.args.set.now.journal, c.facts.ensures.set.few)
