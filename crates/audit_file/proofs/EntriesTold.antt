-- One step of the loop that writes a journal's entries.
use Rattle.std.proofs.Common.{◌≡◌, ℕ, ◌+◌, List, ◌++◌, drop, flat_map, Some, ap, ◌∙◌, sym, append_assoc}
use Rattle.feed_events.specs.SetCore.HeldCell.declared.entry.Entry.{Entry}
use Rattle.feed_events.specs.SetCore.declared.event.Event.{Event}
use Rattle.feed_events.specs.SetCore.declared.reply.Reply.{Reply}
use Rattle.feed_events.specs.SetCore.Set.{entry_at}
use Rattle.feed_events.proofs.SetCore.JournalEntries.{split_there}
use Rattle.audit_file.specs.Written.{entry_text}

-- the text of the entry at i, and then those of the entries behind it
pub entry_step : (name : List ℕ) (log : List (Entry Event Reply)) (i : ℕ) (e : Entry Event Reply) (text new : List ℕ) → Some e ≡ entry_at log (i + 1) → new ≡ text ++ entry_text name e → new ++ flat_map (entry_text name) (drop (i + 1) log) ≡ text ++ flat_map (entry_text name) (drop i log)
entry_step name log i e text new got h =
    let rest = flat_map (entry_text name) (drop (i + 1) log) in
    ap (λ xs. xs ++ rest) h
    ∙ (append_assoc text (entry_text name e) rest ∙ ap (λ es. text ++ flat_map (entry_text name) es) (sym (split_there log i e got)))
