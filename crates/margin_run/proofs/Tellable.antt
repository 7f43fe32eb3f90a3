-- What a feed leaves in a set's journal can be told: each of its calls is the event of a message that it gave.
use Rattle.std.proofs.Common.{◌≡◌, ℕ, ◌+◌, ◌<◌, ◌≤◌, arith, Bool, true, false, cond, List, [], ◌∷◌, ◌++◌, map, length, Option, Some, None, is_none, IfSome, Result, Ok, Err, inl, inr, refl, sym, subst}
use Rattle.std.specs.List.{AllByRecursion, cons_option}
use Rattle.std.specs.Result.{result_ok}
use Rattle.std.proofs.lemmas.Bool.{cases_lt}
use Rattle.mh_io.specs.Folder.{Reading, FolderSeen}
use Rattle.mh_io.specs.Lines as cut
use Rattle.mh_io.specs.Lines.{lines}
use Rattle.csa_terms.specs.SimmKinds.Order.{same_name}
use Rattle.feed_runs.specs.declared.feed_end.FeedEnd.{FeedEnd}
use Rattle.feed_runs.specs.declared.feed_end.FeedEnd.TheVariants as end_at
use Rattle.feed_gate.specs.FeedReader.declared.message.Message.{Message}
use Rattle.feed_gate.specs.FeedReader.Feed.{Item, Sent, BadAt, FeedRun, items_of, feed}
use Rattle.feed_gate.specs.FeedEvents.declared.block.BlockFault.{BlockFault}
use Rattle.feed_gate.specs.FeedEvents.Events.{set_of, event_of}
use Rattle.feed_gate.specs.SetCore.HeldCell.declared.entry.Entry.{Entry}
use Rattle.feed_gate.specs.SetCore.HeldCell.Entries.{own_of}
use Rattle.feed_gate.specs.SetCore.declared.event.Event.{Event}
use Rattle.feed_gate.specs.SetCore.declared.reply.Reply.{Reply}
use Rattle.feed_gate.specs.SetCore.Set.{Set}
use Rattle.feed_gate.specs.declared.report.FeedReport.{FeedReport}
use Rattle.feed_gate.specs.Calls.{call_on}
use Rattle.feed_gate.specs.Met.{Met, event_done, events_done, events_of}
use Rattle.feed_gate.specs.Run.{IsEnd}
use Rattle.feed_gate.specs.SetsRun.{IsFedBy}
use Rattle.feed_gate.proofs.Names.{one_name}
use Rattle.feed_writer.specs.Conditions.{CanWrite, IsWritable}
use Rattle.audit_file.specs.Written.{HoldsEvent, message_of}
use Rattle.margin_run.specs.Fed.{IsFed, AllFed}

-- an event that the audit text of the set of this name can tell
pub record IsTellable (name : List ℕ) (e : Event) : Type 0 where
  pub holds : HoldsEvent e
  pub writes : CanWrite (message_of name e)

-- the calls of a feed in a journal are
abbrev pub OwnTells : ℕ → List ℕ → List (Entry Event Reply) → Type 0
OwnTells feed name log = AllByRecursion (IsTellable name) (events_of (own_of feed 1 log))

abbrev pub SetTells : ℕ → Set → Type 0
SetTells feed s = OwnTells feed s.terms.collect.name s.journal

kept : {X : Type 0} (P : X → Type 0) (b : Bool) (o : Option X) → IfSome o P → IfSome (cond b o None) P
kept P true o h = h
kept P false o h = tt

joined : {X : Type 0} (P : X → Type 0) (o : Option X) (xs : List X) → IfSome o P → AllByRecursion P xs → AllByRecursion P (cons_option o xs)
joined P None xs one all = all
joined P (Some x) xs one all = (one, all)

-- each message that a feed gives can be written, and the event of each can be told
module _ (feed_can : (taken : List ℕ) (ended : Bool) → AllByRecursion IsWritable (feed taken ended).items)
    (front_can : (taken : List ℕ) (ended : Bool) (before behind : List (List ℕ)) → (lines taken ended).lines ≡ before ++ behind → AllByRecursion IsWritable (items_of 1 0 before cut.Whole).items)
    (event_holds : (m : Message) (e : Event) → event_of m ≡ Ok e → HoldsEvent e)
    (event_writes : (m : Message) (e : Event) → CanWrite m → event_of m ≡ Ok e → CanWrite (message_of (set_of m) e)) where
  -- ---- one call

  event_tells : (name : List ℕ) (m : Message) (named : Bool) (read : Result Event BlockFault) → CanWrite m → same_name (set_of m) name ≡ named → event_of m ≡ read → IfSome (cond named (result_ok read) None) (IsTellable name)
  event_tells name m false read can same is = tt
  event_tells name m true (Err fault) can same is = tt
  event_tells name m true (Ok e) can same is = record {
    holds = event_holds m e is;
    writes = subst (λ set. CanWrite (message_of set e)) (one_name (set_of m) name same) (event_writes m e can is);
  }

  call_tells : (name : List ℕ) (item : Item) → IsWritable item → IfSome (call_on name item) (IsTellable name)
  call_tells name (Sent fed) can = event_tells name fed.message (same_name (set_of fed.message) name) (event_of fed.message) can refl refl
  call_tells name (BadAt line) can = tt

  done_tells : (name : List ℕ) (m : Met) → IsWritable m.item → IfSome (event_done name m) (IsTellable name)
  done_tells name m can = kept (IsTellable name) (is_none m.refused) (call_on name m.item) (call_tells name m.item can)

  all_done_tells : (name : List ℕ) (mets : List Met) → AllByRecursion IsWritable (map (λ m. m.item) mets) → AllByRecursion (IsTellable name) (events_done name mets)
  all_done_tells name [] can = tt
  all_done_tells name (m ∷ mets) can = joined (IsTellable name) (event_done name m) (events_done name mets) (done_tells name m can.0) (all_done_tells name mets can.1)

  -- ---- a feed, and all

  -- items that a feed gave
  items_can : (items : List Item) (end : FeedEnd) (taken : List ℕ) (ended : Bool) → IsEnd end items taken ended → AllByRecursion IsWritable items
  items_can items end_at.End taken ended is = subst (λ (r : FeedRun). AllByRecursion IsWritable r.items) is (feed_can taken ended)
  items_can items (end_at.Cut line) taken ended is = subst (λ (r : FeedRun). AllByRecursion IsWritable r.items) is (feed_can taken ended)
  items_can items (end_at.LineLong line) taken ended is = subst (λ (r : FeedRun). AllByRecursion IsWritable r.items) is (feed_can taken ended)
  items_can items (end_at.TooLong most) taken ended is = subst (λ (r : FeedRun). AllByRecursion IsWritable r.items) is.0 (feed_can taken ended)
  items_can items end_at.ReadFault taken ended is = subst (λ (r : FeedRun). AllByRecursion IsWritable r.items) is (feed_can taken ended)
  items_can items (end_at.Memory line) taken ended is = subst (λ (r : FeedRun). AllByRecursion IsWritable r.items) is.whole (front_can taken ended is.before is.behind is.lines)

  sets_tell : (feed : ℕ) (mets : List Met) (sets : List Set) → AllByRecursion IsWritable (map (λ m. m.item) mets) → AllByRecursion (λ s. IsFedBy feed mets s.terms.collect.name s.journal) sets → AllByRecursion (SetTells feed) sets
  sets_tell feed mets [] can fed = tt
  sets_tell feed mets (s ∷ sets) can fed =
      let name = s.terms.collect.name in
      (subst (AllByRecursion (IsTellable name)) (sym fed.0.own) (all_done_tells name mets can), sets_tell feed mets sets can fed.1)

  feed_tells : (old new : FolderSeen) (sets : List Set) (feed : ℕ) (name : List ℕ) (r : FeedReport) (reading : Reading) → IsFed old new sets feed name r reading → AllByRecursion (SetTells feed) sets
  feed_tells old new sets feed name r reading fed =
      let ran = fed.ran in
      sets_tell feed ran.mets sets (items_can (map (λ m. m.item) ran.mets) r.end reading.taken fed.ended ran.stop) ran.each

  pub feeds_tell : (old new : FolderSeen) (sets : List Set) (from : ℕ) (names : List (List ℕ)) (reports : List FeedReport) (readings : List Reading) → AllFed old new sets from names reports readings → (feed : ℕ) → from ≤ feed → feed < from + length names → AllByRecursion (SetTells feed) sets
  feeds_tell old new sets from [] reports readings fed feed low high = absurd (omega (arith, low, high))
  feeds_tell old new sets from (name ∷ names) (r ∷ reports) (reading ∷ readings) fed feed low high = elim (cases_lt from feed) [
    | inl later ↦ feeds_tell old new sets (from + 1) names reports readings fed.1 feed (omega (arith, later)) (omega (arith, high))
    | inr here ↦ let same : from ≡ feed = omega (arith, low, here) in subst (λ k. AllByRecursion (SetTells k) sets) same (feed_tells old new sets from name r reading fed.0)
  ]
  feeds_tell old new sets from (name ∷ names) [] readings fed feed low high = absurd fed
  feeds_tell old new sets from (name ∷ names) (r ∷ reports) [] fed feed low high = absurd fed
