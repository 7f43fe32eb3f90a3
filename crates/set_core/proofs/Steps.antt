-- A step of a set as a machine: what it does to the base and to the journal.
use Rattle.std.proofs.Common.{◌≡◌, ℕ, [], ◌∷◌, ◌++◌, Result, Ok, Err, IfOk, IfErr, OnOk, OnErr, sym, ap, ◌∙◌, subst}
use Rattle.std.proofs.lemmas.Bool.{false≢true}
use Rattle.held_cell.specs.declared.machine.Halt.{Halt}
use Rattle.held_cell.specs.declared.machine.Halt.TheVariants as halt
use Rattle.held_cell.specs.Entries.{entry}
use Rattle.set_core.specs.declared.event.Event.{Event}
use Rattle.set_core.specs.declared.reply.Reply.{Reply}
use Rattle.set_core.specs.Room.{IsFull}
use Rattle.set_core.specs.Set.{Set, IsSet, IsAnswered, Leaves, base_of}

left_base : (old new : Set) (h : Halt Event) → Leaves old new h → base_of new ≡ base_of old
left_base old new (halt.Full entries weight event) left = ap base_of left
left_base old new (halt.Memory event) left = ap base_of left.stands

left_journal : (old new : Set) (h : Halt Event) → Leaves old new h → new.journal ≡ old.journal
left_journal old new (halt.Full entries weight event) left = ap (λ s. s.journal) left
left_journal old new (halt.Memory event) left = ap (λ s. s.journal) left.stands

pub base_stays : (old new : Set) (caller : ℕ) (event : Event) (r : Result Reply (Halt Event)) → IfOk r (IsAnswered old new caller event) → IfErr r (Leaves old new) → base_of new ≡ base_of old
base_stays old new caller event (Ok reply) answered left = ap base_of answered.after
base_stays old new caller event (Err h) answered left = left_base old new h left

pub stays_legal : (old new : Set) → base_of new ≡ base_of old → IsSet new.params new.terms new.journal → IsSet old.params old.terms new.journal
stays_legal old new same legal = subst (λ b. IsSet b.0 b.1 new.journal) same legal

pub journal_grows : (old new : Set) (caller : ℕ) (event : Event) (r : Result Reply (Halt Event)) → IfOk r (IsAnswered old new caller event) → IfOk r (λ reply. new.journal ≡ old.journal ++ entry caller event reply ∷ [])
journal_grows old new caller event (Ok reply) answered = ap (λ s. s.journal) answered.after
journal_grows old new caller event (Err h) answered = tt

pub had_room : (old new : Set) (caller : ℕ) (event : Event) (r : Result Reply (Halt Event)) → IfOk r (IsAnswered old new caller event) → OnOk r (¬ IsFull old.journal event)
had_room old new caller event (Ok reply) answered = λ full. false≢true (sym answered.room ∙ full)
had_room old new caller event (Err h) answered = tt

pub journal_stays : (old new : Set) (r : Result Reply (Halt Event)) → IfErr r (Leaves old new) → OnErr r (new.journal ≡ old.journal)
journal_stays old new (Ok reply) left = tt
journal_stays old new (Err h) left = left_journal old new h left
