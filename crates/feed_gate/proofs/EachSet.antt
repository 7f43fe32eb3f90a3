-- What a feed does to all its sets.
use Rattle.std.proofs.Common.{◌≡◌, ◌≢◌, ℕ, zero, suc, ◌<◌, ◌≤◌, arith, List, [], ◌∷◌, ◌++◌, true, false, cond, length, take, drop, get_or, set, length-set, Option, Some, None, Result, Ok, Err, IfOk, OnErr, refl, sym, ap, ◌∙◌, subst, ⊎_elim}
use Rattle.std.specs.List.{slice_get, IsDistinct}
use Rattle.std.specs.Result.{result_ok}
use Rattle.std.specs.declared.alloc.AllocError.{AllocError}
use Rattle.std.proofs.lemmas.Bool.{cases_lt}
use Rattle.std.proofs.lemmas.List.{take_at}
use Rattle.std.proofs.lemmas.Option.{same_Some, slice_get_within, slice_get-get_or}
use Rattle.feed_events.specs.CrifReader.SimmKinds.Order.{same_name}
use Rattle.feed_events.specs.FeedReader.declared.message.Fed.{Fed}
use Rattle.feed_events.specs.FeedReader.Feed.{Sent}
use Rattle.feed_events.specs.SetCore.declared.event.Event.{Event}
use Rattle.feed_gate.specs.declared.fate.Call.{Call}
use Rattle.feed_gate.specs.declared.fate.Fate.{Fate}
use Rattle.feed_gate.specs.declared.fate.Fate.TheVariants as fate
use Rattle.feed_events.specs.declared.block.BlockFault.{BlockFault}
use Rattle.feed_events.specs.declared.block.BlockFault.TheVariants as block
use Rattle.feed_gate.specs.declared.report.RefusedMessage.{RefusedMessage}
use Rattle.feed_gate.specs.declared.report.RefusedMessage.TheVariants as refused
use Rattle.feed_events.specs.Events.{set_of, event_of}
use Rattle.feed_gate.specs.Calls.{call_on}
use Rattle.feed_events.specs.SetCore.ParamsFile.declared.text_fault.ParamTextFault.TheVariants as text
use Rattle.feed_gate.specs.Fates.{place_of, refused_block, by_event, by_place, fate_of}
use Rattle.feed_gate.specs.Seats.{Cell, Seat, AreNamed, AreSeats, Sees, FindsFull, AllSee, ChangesOne, OfEachSet}
use Rattle.feed_gate.specs.Met.{Met, MayBeFull, IsMetBy, IsMet, CallsSeat, MeetsFate, IsWithin, StepsBy, Steps}
use Rattle.feed_gate.specs.Jobs.{RanOnSet}
use Rattle.feed_gate.proofs.Names.{named_here, place_within, unnamed_before, unnamed_behind}
use Rattle.feed_gate.proofs.OneSet.{ran_none, ran_sees, ran_step, sees_self}

-- ---- all sets, one step after another

compose : (P Q R : List ℕ → Seat → Seat → Type 0) (names : List (List ℕ)) (old mid new : List Seat) → ((name : List ℕ) (a b c : Seat) → P name a b → Q name b c → R name a c) → OfEachSet P names old mid → OfEachSet Q names mid new → OfEachSet R names old new
compose P Q R names old mid new both p q = record {
  count = q.count ∙ p.count;
  each = λ place name a c at_name at_old at_new.
      let within : place < length mid = (let w = slice_get_within new place c at_new in omega (arith, w, q.count)) in
      let at_mid = slice_get-get_or mid place c within in
      both name a (get_or mid place c) c (p.each place name a (get_or mid place c) at_name at_old at_mid) (q.each place name (get_or mid place c) c at_name at_mid at_new);
}

pub none_ran : (names : List (List ℕ)) (seats : List Seat) → OfEachSet (RanOnSet []) names seats seats
none_ran names seats = record { count = refl; each = λ place name a b at_name at_a at_b. subst (λ s. RanOnSet [] name a s) (same_Some a b (sym at_a ∙ at_b)) (ran_none name a) }

pub all_see_self : (seats : List Seat) → AllSee seats seats
all_see_self seats = record { count = refl; each = λ place a b at_a at_b. subst (λ s. Sees a s) (same_Some a b (sym at_a ∙ at_b)) (sees_self a) }

pub all_ran_sees : (mets : List Met) (names : List (List ℕ)) (old mid new : List Seat) → OfEachSet (RanOnSet mets) names old mid → AllSee mid new → OfEachSet (RanOnSet mets) names old new
all_ran_sees mets names old mid new p q =
    compose (RanOnSet mets) (λ name a b. Sees a b) (RanOnSet mets) names old mid new (ran_sees mets) p
    record { count = q.count; each = λ place name a b at_name at_a at_b. q.each place a b at_a at_b }

pub all_ran_step : (mets : List Met) (m : Met) (names : List (List ℕ)) (old mid new : List Seat) → OfEachSet (RanOnSet mets) names old mid → OfEachSet (Steps m) names mid new → OfEachSet (RanOnSet (mets ++ m ∷ [])) names old new
all_ran_step mets m names old mid new p q = compose (RanOnSet mets) (Steps m) (RanOnSet (mets ++ m ∷ [])) names old mid new (ran_step mets m) p q

-- ---- one seat changes

get_set_here : (seats : List Seat) (i : ℕ) (b : Seat) → i < length seats → slice_get (set seats i b) i ≡ Some b
get_set_here [] i b lt = absurd (omega (arith, lt))
get_set_here (s ∷ seats) zero b lt = refl
get_set_here (s ∷ seats) (suc i) b lt = get_set_here seats i b (omega (arith, lt))

get_set_else : (seats : List Seat) (i k : ℕ) (b : Seat) → k ≢ i → slice_get (set seats i b) k ≡ slice_get seats k
get_set_else [] i k b ne = refl
get_set_else (s ∷ seats) zero zero b ne = absurd (ne refl)
get_set_else (s ∷ seats) zero (suc k) b ne = refl
get_set_else (s ∷ seats) (suc i) zero b ne = refl
get_set_else (s ∷ seats) (suc i) (suc k) b ne = get_set_else seats i k b (λ e. ne (ap suc e))

set_one : (P : Seat → Seat → Type 0) (seats : List Seat) (place : ℕ) (a b : Seat) → slice_get seats place ≡ Some a → P a b → ChangesOne place P seats (set seats place b)
set_one P seats place a b at holds = record {
  count = length-set seats place b;
  here = λ x y at_x at_y.
      let old : a ≡ x = same_Some a x (sym at ∙ at_x) in
      let new : b ≡ y = same_Some b y (sym (get_set_here seats place b (slice_get_within seats place a at)) ∙ at_y) in
      subst (λ s. P s y) old (subst (λ s. P a s) new holds);
  others = λ k ne. get_set_else seats place k b ne;
}

one_sees : (place : ℕ) (old new : List Seat) → ChangesOne place (λ a b. Sees a b) old new → AllSee old new
one_sees place old new h = record {
  count = h.count;
  each = λ k a b at_a at_b.
      let away : k ≢ place → Sees a b = λ ne. subst (λ s. Sees a s) (same_Some a b (sym at_a ∙ (sym (h.others k ne) ∙ at_b))) (sees_self a) in
      ⊎_elim (λ (lt : k < place). away (λ eq. omega (arith, lt, eq)))
      (λ (le : place ≤ k).
      ⊎_elim (λ (lt : place < k). away (λ eq. omega (arith, lt, eq)))
      (λ (ge : k ≤ place).
      let here : k ≡ place = omega (arith, le, ge) in
      h.here a b (subst (λ i. slice_get old i ≡ Some a) here at_a) (subst (λ i. slice_get new i ≡ Some b) here at_b))
      (cases_lt place k))
      (cases_lt k place);
}

-- what holds of seats that were lent and written holds of the list that they are put back into
pub put_back : (P : List Seat → List Seat → Type 0) (n : ℕ) (lent old new : List Seat) → lent ≡ old → length new ≡ n → P lent new → P old (take n (new ++ drop (length new) old))
put_back P n lent old new same long h = subst (λ seats. P old seats) (sym (take_at new (drop (length new) old) n long)) (subst (λ seats. P seats new) same h)

-- what a call answers and does to the seat at its place
pub one_meets : (call : Call) (seats : List Seat) (a b : Seat) (r : Result (Option RefusedMessage) AllocError) → slice_get seats call.place ≡ Some a → IfOk r (λ why. MayBeFull call why) → IfOk r (λ why. CallsSeat call.event why a b) → IfOk r (λ why. MeetsFate (fate.Calls call) why seats (set seats call.place b))
one_meets call seats a b (Ok why) at may calls = (may, set_one (CallsSeat call.event why) seats call.place a b at calls)
one_meets call seats a b (Err e) at may calls = tt

pub none_meets : (place : ℕ) (seats : List Seat) (a b : Seat) (r : Result (Option RefusedMessage) AllocError) → slice_get seats place ≡ Some a → OnErr r (Sees a b) → OnErr r (AllSee seats (set seats place b))
none_meets place seats a b (Ok why) at sees = tt
none_meets place seats a b (Err e) at sees = one_sees place seats (set seats place b) (set_one (λ x y. Sees x y) seats place a b at sees)

-- each seat is still of its cell
pub seats_stay : (mets : List Met) (names : List (List ℕ)) (cells : List Cell) (old new : List Seat) → AreNamed names cells → AreSeats cells old → OfEachSet (RanOnSet mets) names old new → AreSeats cells new
seats_stay mets names cells old new named seats ran = record {
  count = ran.count ∙ seats.count;
  each = λ place cell b at_cell at_b.
      let within : place < length cells = slice_get_within cells place cell at_cell in
      let at_name = slice_get-get_or names place [] (omega (arith, within, named.count)) in
      let at_old = slice_get-get_or old place b (omega (arith, within, seats.count)) in
      let is = seats.each place cell (get_or old place b) at_cell at_old in
      let it = ran.each place (get_or names place []) (get_or old place b) b at_name at_old at_b in
      (it.same.table ∙ is.0, it.same.base ∙ is.1);
}

-- ---- one message

-- a refusal by the message alone
abbrev IsOther : RefusedMessage → Type 0
IsOther (refused.BadLine line) = Unit {0}
IsOther (refused.UnknownSet line) = Unit {0}
IsOther (refused.BadBatch line fault) = Unit {0}
IsOther (refused.Full line set entries rows) = ⊥
IsOther (refused.BadTables line fault) = Unit {0}
IsOther (refused.LongTables line bytes) = Unit {0}

seat_rests : (o : Option Event) (why : RefusedMessage) (a b : Seat) → IsOther why → b ≡ a → StepsBy o (Some why) a b
seat_rests None why a b other is = is
seat_rests (Some e) (refused.BadLine line) a b other is = is
seat_rests (Some e) (refused.UnknownSet line) a b other is = is
seat_rests (Some e) (refused.BadBatch line fault) a b other is = is
seat_rests (Some e) (refused.Full line set entries rows) a b other is = absurd other
seat_rests (Some e) (refused.BadTables line fault) a b other is = is
seat_rests (Some e) (refused.LongTables line bytes) a b other is = is

block_other : (line : ℕ) (fault : BlockFault) → IsOther (refused_block line fault)
block_other line (block.Batch fault) = tt
block_other line (block.Tables (text.Long bytes)) = tt
block_other line (block.Tables (text.Param fault)) = tt

pub all_rest : (names : List (List ℕ)) (m : Met) (old new : List Seat) (why : RefusedMessage) → IsOther why → m.refused ≡ Some why → new ≡ old → OfEachSet (Steps m) names old new
all_rest names m old new why other refused is = record {
  count = ap length is;
  each = λ place name a b at_name at_a at_b.
      subst (λ r. StepsBy (call_on name m.item) r a b) (sym refused)
      (seat_rests (call_on name m.item) why a b other (same_Some b a (sym at_b ∙ (ap (λ xs. slice_get xs place) is ∙ at_a))));
}

-- a message of another set
call_elsewhere : (fed : Fed) (name : List ℕ) → same_name (set_of fed.message) name ≡ false → call_on name (Sent fed) ≡ None
call_elsewhere fed name h = ap (λ b. cond b (result_ok (event_of fed.message)) None) h

call_here : (fed : Fed) (name : List ℕ) (e : Event) → same_name (set_of fed.message) name ≡ true → event_of fed.message ≡ Ok e → call_on name (Sent fed) ≡ Some e
call_here fed name e h is = ap (λ b. cond b (result_ok (event_of fed.message)) None) h ∙ ap result_ok is

one_calls : (names : List (List ℕ)) (fed : Fed) (e : Event) (place : ℕ) (r : Option RefusedMessage) (old new : List Seat) → IsDistinct same_name names → place_of (set_of fed.message) names ≡ Some place → event_of fed.message ≡ Ok e → ChangesOne place (CallsSeat e r) old new → OfEachSet (Steps (record { item = Sent fed; refused = r })) names old new
one_calls names fed e place r old new apart found is h = record {
  count = h.count;
  each = λ k name a b at_name at_a at_b.
      let at_place = slice_get-get_or names place [] (place_within (set_of fed.message) names place found) in
      let away : k ≢ place → same_name (set_of fed.message) name ≡ false → StepsBy (call_on name (Sent fed)) r a b
      = λ ne other. subst (λ o. StepsBy o r a b) (sym (call_elsewhere fed name other)) (same_Some b a (sym at_b ∙ (h.others k ne ∙ at_a))) in
      ⊎_elim (λ (lt : k < place). away (λ eq. omega (arith, lt, eq)) (unnamed_before (set_of fed.message) name names place k found at_name lt))
      (λ (le : place ≤ k).
      ⊎_elim (λ (lt : place < k). away (λ eq. omega (arith, lt, eq)) (unnamed_behind (set_of fed.message) (get_or names place []) name names place k apart found at_place at_name lt))
      (λ (ge : k ≤ place).
      let here : k ≡ place = omega (arith, le, ge) in
      subst (λ o. StepsBy o r a b)
      (sym (call_here fed name e (named_here (set_of fed.message) name names place found (subst (λ i. slice_get names i ≡ Some name) here at_name)) is))
      (h.here a b (subst (λ i. slice_get old i ≡ Some a) here at_a) (subst (λ i. slice_get new i ≡ Some b) here at_b)))
      (cases_lt place k))
      (cases_lt k place);
}

-- a message of this fate met its set
pub record MeetsSet (names : List (List ℕ)) (fed : Fed) (r : Option RefusedMessage) (old new : List Seat) : Type 0 where
  pub met : IsMet names (record { item = Sent fed; refused = r })
  pub sets : OfEachSet (Steps (record { item = Sent fed; refused = r })) names old new

pub meets_set : (names : List (List ℕ)) (fed : Fed) (f : Fate) (r : Option RefusedMessage) (old new : List Seat) → IsDistinct same_name names → f ≡ fate_of names (Sent fed) → MeetsFate f r old new → MeetsSet names fed r old new
meets_set names fed f r old new apart is h =
    let it = by_name (place_of (set_of fed.message) names) refl (subst (λ x. MeetsFate x r old new) is h) in
    record { met = it.0; sets = it.1 }
  where
    by_read : (place : ℕ) → place_of (set_of fed.message) names ≡ Some place → (read : Result Event BlockFault) → event_of fed.message ≡ read → MeetsFate (by_event fed.line place read) r old new
        → IsMetBy (by_event fed.line place read) r × OfEachSet (Steps (record { item = Sent fed; refused = r })) names old new
    by_read place found (Err fault) read h = (h.0, all_rest names (record { item = Sent fed; refused = r }) old new (refused_block fed.line fault) (block_other fed.line fault) h.0 h.1)
    by_read place found (Ok e) read h = (h.0, one_calls names fed e place r old new apart found read h.1)

    by_name : (place : Option ℕ) → place_of (set_of fed.message) names ≡ place → MeetsFate (by_place fed place) r old new → IsMetBy (by_place fed place) r × OfEachSet (Steps (record { item = Sent fed; refused = r })) names old new
    by_name None found h = (h.0, all_rest names (record { item = Sent fed; refused = r }) old new (refused.UnknownSet fed.line) tt h.0 h.1)
    by_name (Some place) found h = by_read place found (event_of fed.message) refl h

-- the call of a message is on one of the sets
pub fate_within : (names : List (List ℕ)) (fed : Fed) (f : Fate) → f ≡ fate_of names (Sent fed) → IsWithin (length names) f
fate_within names fed f is = subst (IsWithin (length names)) (sym is) (by_name (place_of (set_of fed.message) names) refl)
  where
    by_read : (place : ℕ) → place < length names → (read : Result Event BlockFault) → IsWithin (length names) (by_event fed.line place read)
    by_read place within (Err fault) = tt
    by_read place within (Ok e) = within

    by_name : (place : Option ℕ) → place_of (set_of fed.message) names ≡ place → IsWithin (length names) (by_place fed place)
    by_name None found = tt
    by_name (Some place) found = by_read place (place_within (set_of fed.message) names place found) (event_of fed.message)

-- a refusal makes no entry, whatever its cause
changes_so : (P Q : Seat → Seat → Type 0) (place : ℕ) (old new : List Seat) → ((a b : Seat) → P a b → Q a b) → ChangesOne place P old new → ChangesOne place Q old new
changes_so P Q place old new so h = record { count = h.count; here = λ a b at_a at_b. so a b (h.here a b at_a at_b); others = h.others }

pub refusal_sees : (f : Fate) (why : RefusedMessage) (old new : List Seat) → MeetsFate f (Some why) old new → AllSee old new
refusal_sees (fate.Refused other) why old new h = subst (λ seats. AllSee old seats) (sym h.1) (all_see_self old)
refusal_sees (fate.Calls call) (refused.BadLine line) old new h = absurd h.0
refusal_sees (fate.Calls call) (refused.UnknownSet line) old new h = absurd h.0
refusal_sees (fate.Calls call) (refused.BadBatch line fault) old new h = absurd h.0
refusal_sees (fate.Calls call) (refused.BadTables line fault) old new h = absurd h.0
refusal_sees (fate.Calls call) (refused.LongTables line bytes) old new h = absurd h.0
refusal_sees (fate.Calls call) (refused.Full line set entries rows) old new h =
    one_sees call.place old new (changes_so (FindsFull call.event entries rows) (λ a b. Sees a b) call.place old new (λ a b found. record { sees = found.sees; all = λ _. found.all }) h.1)
