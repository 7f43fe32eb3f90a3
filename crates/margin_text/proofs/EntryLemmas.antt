-- One step of the loop that prints a journal's entries.
use Rattle.std.proofs.Common.{◌≡◌, ℕ, ◌+◌, List, ◌++◌, drop, Some, ap, ◌∙◌, sym, append_assoc}
use Rattle.held_cell.specs.declared.entry.Entry.{Entry}
use Rattle.feed_gate.specs.SetCore.declared.event.Event.{Event}
use Rattle.feed_gate.specs.SetCore.declared.reply.Reply.{Reply}
use Rattle.feed_gate.specs.SetCore.Set.{entry_at}
use Rattle.feed_gate.proofs.SetCore.JournalEntries.{split_there}
use Rattle.margin_text.specs.Journal.{entry_lines, numbered_lines}

-- the lines of the entry at i, and then those of the entries behind it
pub entry_step : (log : List (Entry Event Reply)) (i : ℕ) (e : Entry Event Reply) (text new : List ℕ) → Some e ≡ entry_at log (i + 1) → new ≡ text ++ entry_lines (i + 1) e → new ++ numbered_lines (i + 1 + 1) (drop (i + 1) log) ≡ text ++ numbered_lines (i + 1) (drop i log)
entry_step log i e text new got h =
    let rest = numbered_lines (i + 1 + 1) (drop (i + 1) log) in
    ap (λ xs. xs ++ rest) h
    ∙ (append_assoc text (entry_lines (i + 1) e) rest ∙ ap (λ es. text ++ numbered_lines (i + 1) es) (sym (split_there log i e got)))
