-- Entries of a journal, as a loop over their places from 1 meets them.
use Rattle.std.proofs.Common.{◌≡◌, ℕ, suc, ◌+◌, ◌<◌, List, ◌∷◌, length, drop, drop-cons, Option, Some, None, slice_get, ap, ◌∙◌, sym, subst, add-one, arith, inl, inr}
use Rattle.std.proofs.lemmas.Option.{slice_get-get_or, slice_get_cases, slice_get_within, same_Some}
use Rattle.held_cell.specs.declared.entry.Entry.{Entry}
use Rattle.set_core.specs.declared.event.Event.{Event}
use Rattle.set_core.specs.declared.reply.Reply.{Reply}
use Rattle.set_core.specs.Set.{entry_at}

pub at_next : (log : List (Entry Event Reply)) (i : ℕ) (o : Option (Entry Event Reply)) → o ≡ entry_at log (i + 1) → slice_get log i ≡ o
at_next log i o h = sym (subst (λ k. o ≡ entry_at log k) (add-one i) h)

-- the entry at i, and those behind it
pub split_there : (log : List (Entry Event Reply)) (i : ℕ) (e : Entry Event Reply) → Some e ≡ entry_at log (i + 1) → drop i log ≡ e ∷ drop (i + 1) log
split_there log i e got =
    let is = at_next log i (Some e) got in
    let here : i < length log = slice_get_within log i e is in
    drop-cons log i e here
    ∙ (ap (λ x. x ∷ drop (suc i) log) (same_Some _ e (sym (slice_get-get_or log i e here) ∙ is)) ∙ ap (λ k. e ∷ drop k log) (sym (add-one i)))

-- no place of the journal is without an entry
pub entry_there : (log : List (Entry Event Reply)) (i : ℕ) → None ≡ entry_at log (i + 1) → i < length log → ⊥
entry_there log i h here = elim (slice_get_cases log i).1 [
  | inl got ↦ cc (sym (at_next log i None h) ∙ got.2)
  | inr past ↦ let behind = past.0 in omega (arith, behind, here)
]
