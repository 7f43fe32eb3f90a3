-- What a message is answered, by its event, is what the rule says.
use Rattle.std.proofs.Common.{◌≡◌, ℕ, Bool, true, false, List, Option, Some, None, Result, Ok, Err, slice_get, cond, refl}
use Rattle.feed_reader.specs.CsaTerms.Terms.{Agreements}
use Rattle.feed_reader.specs.declared.message.Message.{Message}
use Rattle.feed_events.specs.SetCore.ParamsFile.TomlValues.Answers.{Unless}
use Rattle.feed_events.specs.SetCore.declared.event.Event.{Event}
use Rattle.feed_events.specs.declared.block.BlockFault.{BlockFault}
use Rattle.feed_events.specs.Blocks.{is_memory}
use Rattle.feed_events.specs.Events.{event_of}
use Rattle.audit_file.specs.declared.replay.Unruled.{Unruled}
use Rattle.audit_file.specs.declared.replay.Unruled.TheVariants as unruled
use Rattle.audit_file.specs.Rules.{NotEvent, Replayed, IsUnruled, Rules}
use Rattle.audit_file.specs.Replays.{ruling_in, rule_of, AnswersEvent}

-- of a message, by its event
pub message_answered : (old new : Replayed) (caller : ℕ) (m : Message) (e : Event) (r : Result (List ℕ) Unruled) → event_of m ≡ Ok e → AnswersEvent old new caller e r → Rules (rule_of old.base) old.log new.log caller m r
unfolding rule_of
message_answered old new caller m e (Ok text) is answers = record {
  event = e;
  reply = answers.0;
  says = rw is answers.1;
  after = answers.2;
  told = answers.3;
}
message_answered old new caller m e (Err unruled.NotEvent) is answers = rw is answers
message_answered old new caller m e (Err unruled.Full) is answers = rw is answers
message_answered old new caller m e (Err unruled.Memory) is answers = tt

no_event : (old : Replayed) (o : Option Agreements) (fault : BlockFault) → ruling_in old.base.params old.log.entries (Err fault) o ≡ NotEvent
no_event old None fault = refl
no_event old (Some t) fault = refl

-- a block that gives no event
pub block_refused : (old : Replayed) (m : Message) (fault : BlockFault) → Unless (is_memory fault) (event_of m ≡ Err fault) → IsUnruled (rule_of old.base old.log m) (cond (is_memory fault) unruled.Memory unruled.NotEvent)
unfolding rule_of
block_refused old m fault gives = by_memory (is_memory fault) gives
  where
    by_memory : (want : Bool) → Unless want (event_of m ≡ Err fault) → IsUnruled (rule_of old.base old.log m) (cond want unruled.Memory unruled.NotEvent)
    by_memory true gives = tt
    by_memory false gives = rw gives (no_event old (slice_get old.base.terms old.log.set) fault)
