-- What a feed does to one set, by the seat of it: nothing yet, one message more, and what is seen without a call.
use Rattle.std.proofs.Common.{◌≡◌, ℕ, List, [], ◌∷◌, ◌++◌, Option, Some, None, cond, refl, sym, ap, ◌∙◌, subst, append_assoc, append-nil}
use Rattle.std.specs.List.{filter_map}
use Rattle.std.specs.Option.{is_none}
use Rattle.std.proofs.lemmas.List.{map-append}
use Rattle.std.proofs.lemmas.List.Elements.{filter_map-append}
use mathlib.Core.List.{IsPrefix}
use Rattle.feed_events.specs.SetCore.HeldCell.declared.entry.Entry.{Entry}
use Rattle.feed_events.specs.SetCore.HeldCell.Entries.{entry, own_of}
use Rattle.feed_events.specs.SetCore.HeldCell.Seats.{HasOwn}
use Rattle.feed_events.specs.SetCore.HeldCell.Calls.{IsSameSeat}
use Rattle.feed_events.proofs.SetCore.HeldCell.Begins.{prefix_self, prefix_trans}
use Rattle.feed_events.specs.SetCore.declared.event.Event.{Event}
use Rattle.feed_events.specs.SetCore.declared.reply.Reply.{Reply}
use Rattle.feed_gate.specs.declared.report.RefusedMessage.{RefusedMessage}
use Rattle.feed_gate.specs.declared.report.RefusedMessage.TheVariants as refused
use Rattle.feed_gate.specs.Calls.{call_on}
use Rattle.feed_gate.specs.Seats.{Seat, Sees, Enters, FindsFull}
use Rattle.feed_gate.specs.Met.{Met, StepsBy, Steps, event_done, events_done, events_of, ShowsFront, ShowFronts}
use Rattle.feed_gate.specs.Jobs.{RanOnSet}

-- ---- fronts of what was seen

front_longer : (first count : ℕ) (xs ys : List (Entry Event Reply)) → IsPrefix xs ys → (before : List Event) (o : Option Event) (r : Option RefusedMessage) → ShowsFront first count xs before o r → ShowsFront first count ys before o r
front_longer first count xs ys pre before None r h = tt
front_longer first count xs ys pre before (Some e) None h = tt
front_longer first count xs ys pre before (Some e) (Some (refused.BadLine line)) h = tt
front_longer first count xs ys pre before (Some e) (Some (refused.UnknownSet line)) h = tt
front_longer first count xs ys pre before (Some e) (Some (refused.BadBatch line fault)) h = tt
front_longer first count xs ys pre before (Some e) (Some (refused.BadTables line fault)) h = tt
front_longer first count xs ys pre before (Some e) (Some (refused.LongTables line bytes)) h = tt
front_longer first count xs ys pre before (Some e) (Some (refused.Full line set entries rows)) h =
    record { front = h.front; begins = prefix_trans h.front xs ys h.begins pre; entries = h.entries; rows = h.rows; full = h.full; own = h.own }

pub fronts_longer : (first count : ℕ) (xs ys : List (Entry Event Reply)) → IsPrefix xs ys → (name : List ℕ) (before : List Event) (mets : List Met) → ShowFronts first count xs name before mets → ShowFronts first count ys name before mets
fronts_longer first count xs ys pre name before [] h = tt
fronts_longer first count xs ys pre name before (m ∷ mets) h =
    (front_longer first count xs ys pre before (call_on name m.item) m.refused h.0, fronts_longer first count xs ys pre name (before ++ events_done name (m ∷ [])) mets h.1)

fronts_more : (first count : ℕ) (seen : List (Entry Event Reply)) (name : List ℕ) (before : List Event) (mets : List Met) (m : Met) → ShowFronts first count seen name before mets → ShowsFront first count seen (before ++ events_done name mets) (call_on name m.item) m.refused → ShowFronts first count seen name before (mets ++ m ∷ [])
fronts_more first count seen name before [] m h last = (subst (λ b. ShowsFront first count seen b (call_on name m.item) m.refused) (append-nil before) last, tt)
fronts_more first count seen name before (x ∷ mets) m h last = (
  h.0,
  fronts_more first count seen name (before ++ events_done name (x ∷ [])) mets m h.1
      (subst (λ b. ShowsFront first count seen b (call_on name m.item) m.refused)
      (ap (λ es. before ++ es) (filter_map-append (event_done name) (x ∷ []) mets) ∙ sym (append_assoc before (events_done name (x ∷ [])) (events_done name mets))) last),
)

-- ---- one message

-- the event that a message adds
abbrev gained : Option Event → Option RefusedMessage → List Event
gained o r = filter_map (λ (x : Option Event). x) (cond (is_none r) o None ∷ [])

record Moves (o : Option Event) (r : Option RefusedMessage) (old new : Seat) : Type 0 where
  same : IsSameSeat old new
  begins : IsPrefix old.seen new.seen
  own : events_of new.own ≡ events_of old.own ++ gained o r
  all : HasOwn old → HasOwn new
  front : ShowsFront old.first old.count new.seen (events_of old.own) o r

same_self : (s : Seat) → IsSameSeat s s
same_self s = record { table = refl; base = refl; first = refl; count = refl }

rests : (o : Option Event) (r : Option RefusedMessage) (old new : Seat) → new ≡ old → gained o r ≡ [] → ((seen : List (Entry Event Reply)) → ShowsFront old.first old.count seen (events_of old.own) o r) → Moves o r old new
rests o r old new is none front =
    subst (λ s. Moves o r old s) (sym is)
    record {
      same = same_self old;
      begins = prefix_self old.seen;
      own = sym (ap (λ es. events_of old.own ++ es) none ∙ append-nil (events_of old.own));
      all = λ h. h;
      front = front old.seen;
    }

enters : (e : Event) (old new : Seat) → Enters e old new → Moves (Some e) None old new
enters e old new h = record {
  same = h.adds.same;
  begins = prefix_trans old.seen h.adds.before new.seen h.adds.begins (entry old.first e h.reply ∷ [], sym h.adds.seen);
  own = ap events_of h.adds.own ∙ map-append (λ (x : Entry Event Reply). x.event) old.own (entry old.first e h.reply ∷ []);
  all = λ _. h.all;
  front = tt;
}

finds_full : (e : Event) (line set entries rows : ℕ) (old new : Seat) → FindsFull e entries rows old new → Moves (Some e) (Some (refused.Full line set entries rows)) old new
finds_full e line set entries rows old new h = record {
  same = h.sees.same;
  begins = h.sees.begins;
  own = ap events_of h.sees.own ∙ sym (append-nil (events_of old.own));
  all = λ _. h.all;
  front = record {
    front = new.seen;
    begins = prefix_self new.seen;
    entries = h.entries;
    rows = h.rows;
    full = h.full;
    own = ap events_of
        (ap (λ f. own_of f old.count new.seen) (sym h.sees.same.first)
        ∙ ap (λ n. own_of new.first n new.seen) (sym h.sees.same.count) ∙ sym h.all ∙ h.sees.own);
  };
}

moves : (o : Option Event) (r : Option RefusedMessage) (old new : Seat) → StepsBy o r old new → Moves o r old new
moves None None old new is = rests None None old new is refl (λ seen. tt)
moves None (Some why) old new is = rests None (Some why) old new is refl (λ seen. tt)
moves (Some e) None old new h = enters e old new h
moves (Some e) (Some (refused.BadLine line)) old new is = rests (Some e) (Some (refused.BadLine line)) old new is refl (λ seen. tt)
moves (Some e) (Some (refused.UnknownSet line)) old new is = rests (Some e) (Some (refused.UnknownSet line)) old new is refl (λ seen. tt)
moves (Some e) (Some (refused.BadBatch line fault)) old new is = rests (Some e) (Some (refused.BadBatch line fault)) old new is refl (λ seen. tt)
moves (Some e) (Some (refused.BadTables line fault)) old new is = rests (Some e) (Some (refused.BadTables line fault)) old new is refl (λ seen. tt)
moves (Some e) (Some (refused.LongTables line bytes)) old new is = rests (Some e) (Some (refused.LongTables line bytes)) old new is refl (λ seen. tt)
moves (Some e) (Some (refused.Full line set entries rows)) old new h = finds_full e line set entries rows old new h

-- ---- the messages so far

same_trans : (a b c : Seat) → IsSameSeat a b → IsSameSeat b c → IsSameSeat a c
same_trans a b c p q = record { table = q.table ∙ p.table; base = q.base ∙ p.base; first = q.first ∙ p.first; count = q.count ∙ p.count }

pub ran_none : (name : List ℕ) (s : Seat) → RanOnSet [] name s s
ran_none name s = record { same = same_self s; begins = prefix_self s.seen; own = sym (append-nil (events_of s.own)); all = λ h. h; fronts = tt }

pub sees_self : (s : Seat) → Sees s s
sees_self s = record { sees = record { same = same_self s; begins = prefix_self s.seen; own = refl }; all = λ h. h }

pub ran_sees : (mets : List Met) (name : List ℕ) (a b c : Seat) → RanOnSet mets name a b → Sees b c → RanOnSet mets name a c
ran_sees mets name a b c p q = record {
  same = same_trans a b c p.same q.sees.same;
  begins = prefix_trans a.seen b.seen c.seen p.begins q.sees.begins;
  own = ap events_of q.sees.own ∙ p.own;
  all = λ h. q.all (p.all h);
  fronts = fronts_longer a.first a.count b.seen c.seen q.sees.begins name (events_of a.own) mets p.fronts;
}

pub ran_step : (mets : List Met) (m : Met) (name : List ℕ) (a b c : Seat) → RanOnSet mets name a b → Steps m name b c → RanOnSet (mets ++ m ∷ []) name a c
ran_step mets m name a b c p s =
    let o = call_on name m.item in
    let q = moves (call_on name m.item) m.refused b c s in
    record {
      same = same_trans a b c p.same q.same;
      begins = prefix_trans a.seen b.seen c.seen p.begins q.begins;
      own = q.own ∙ ap (λ es. es ++ gained o m.refused) p.own ∙ append_assoc (events_of a.own) (events_done name mets) (gained o m.refused)
          ∙ ap (λ es. events_of a.own ++ es) (sym (filter_map-append (event_done name) mets (m ∷ [])));
      all = λ h. q.all (p.all h);
      fronts = fronts_more a.first a.count c.seen name (events_of a.own) mets m
          (fronts_longer a.first a.count b.seen c.seen q.begins name (events_of a.own) mets p.fronts)
          (subst (λ es. ShowsFront a.first a.count c.seen es o m.refused) p.own
          (subst (λ n. ShowsFront a.first n c.seen (events_of b.own) o m.refused) p.same.count
          (subst (λ f. ShowsFront f b.count c.seen (events_of b.own) o m.refused) p.same.first q.front)));
    }
