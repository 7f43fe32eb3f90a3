use Rattle.std.proofs.Common.{◌∙◌, arith}
use Rattle.feed_events.proofs.SetCore.JournalEntries.{entry_there}
use Rattle.audit_file.proofs.EntriesTold.{entry_step}
use Rattle.audit_file.proofs.audit_text.push_entries.Goals as goal
use Rattle.audit_file.proofs.audit_text.push_entries.Goals.{in-Some+in_ok-push_entry, in_default}

pub loop-index-preserved : goal.loop-index-preserved
loop-index-preserved c =
    elim c.match-entry.branch [
      | in-Some+in_ok-push_entry w ↦
          entry_step c.args.name.now c.args.set.now.journal c.loop-index.index w.in-Some.entry.now c.loop-index.text c.match-entry.text w.in-Some.ensures (w.text-is ∙ w.in_ok-push_entry.ensures)
          ∙ c.loop-index.invariant
      | in_default w ↦ absurd (entry_there c.args.set.now.journal c.loop-index.index w.in_default.ensures (omega arith))
    ]
