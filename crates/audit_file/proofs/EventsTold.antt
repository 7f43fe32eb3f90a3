-- The event of a message can be told.
use Rattle.std.proofs.Common.{◌≡◌, ℕ, List, nat_lt, length, Ok, sym, ap, subst}
use Rattle.feed_events.specs.CrifReader.Grammar.{Crif, crif_of}
use Rattle.feed_writer.proofs.CrifReader.CrifRecords.Binds.{same_ok}
use Rattle.feed_reader.specs.declared.message.Message.{Message}
use Rattle.feed_reader.specs.declared.message.Message.TheVariants as message
use Rattle.feed_events.specs.SetCore.ParamsFile.Grammar.{params_read}
use Rattle.feed_events.specs.SetCore.ParamsFile.Texts.{ParamText, text_read}
use Rattle.feed_events.specs.SetCore.ParamsFile.declared.text_fault.ParamTextFault.TheVariants as text_fault
use Rattle.feed_events.specs.SetCore.declared.event.Event.{Event}
use Rattle.feed_events.specs.SetCore.declared.event.Event.TheVariants as event
use Rattle.feed_events.specs.declared.block.BlockFault.TheVariants as fault
use Rattle.feed_events.specs.Events.{event_of, set_of}
use Rattle.feed_writer.specs.Conditions.{IsBlock, CanWrite}
use Rattle.feed_writer.proofs.Batches.{batch_block}
use Rattle.audit_file.specs.Written.{HoldsEvent, message_of}
use Rattle.audit_file.proofs.Oks.{map_ok, not_failed}
use Rattle.audit_file.proofs.BatchParts.{batch_parts}

-- the tables of a text keep it
kept_text : (block : List ℕ) (text : ParamText) → text_read block ≡ Ok text → text.text ≡ block
unfolding text_read
kept_text block text h =
    map_ok _ text_fault.Param (params_read block) text (not_failed (nat_lt 1048576 (length block)) (text_fault.Long (length block)) _ text h) (λ params is same. ap (λ (t : ParamText). t.text) (sym same))

pub event_holds : (m : Message) (e : Event) → event_of m ≡ Ok e → HoldsEvent e
event_holds (message.Crif set block) e h =
    map_ok (λ (crif : Crif). event.Submit crif.trades) fault.Batch (crif_of block) e h (λ crif is same. subst HoldsEvent same (batch_parts block crif is))
event_holds (message.Tables set block) e h =
    map_ok event.Tables fault.Tables (text_read block) e h (λ text is same. subst HoldsEvent same (subst (λ b. text_read b ≡ Ok text) (sym (kept_text block text is)) is))
event_holds (message.Withdraw set names) e h = subst HoldsEvent (same_ok (event.Withdraw names) e h) tt
event_holds (message.OnSide set side on) e h = subst HoldsEvent (same_ok (event.OnSide side on) e h) tt

pub event_writes : (m : Message) (e : Event) → CanWrite m → event_of m ≡ Ok e → CanWrite (message_of (set_of m) e)
event_writes (message.Crif set block) e can h =
    map_ok (λ (crif : Crif). event.Submit crif.trades) fault.Batch (crif_of block) e h (λ crif is same.
    let batch = batch_parts block crif is in
    subst (λ x. CanWrite (message_of set x)) same (can.0, batch_block crif.trades batch.0 batch.1))
event_writes (message.Tables set block) e can h =
    map_ok event.Tables fault.Tables (text_read block) e h (λ text is same.
    subst (λ x. CanWrite (message_of set x)) same (can.0, subst IsBlock (sym (kept_text block text is)) can.1))
event_writes (message.Withdraw set names) e can h = subst (λ x. CanWrite (message_of set x)) (same_ok (event.Withdraw names) e h) can
event_writes (message.OnSide set side on) e can h = subst (λ x. CanWrite (message_of set x)) (same_ok (event.OnSide side on) e h) can
