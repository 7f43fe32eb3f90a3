-- The outstanding calls after one entry more.
use Rattle.std.proofs.Common.{◌≡◌, ℕ, ◌+◌, ◌≤◌, arith, List, [], ◌∷◌, ◌++◌, length, Bool, true, false, ◌==◌, ◌&&◌, ◌||◌, not, cond, refl, sym, ap, ◌∙◌, append_assoc, append-nil}
use Rattle.std.specs.List.{list_any}
use Rattle.std.proofs.lemmas.List.Folds.{list_any-append}
use Rattle.collateral_ledger.specs.SimmKinds.declared.margin_side.MarginSide.{MarginSide}
use Rattle.held_cell.specs.declared.entry.Entry.{Entry}
use Rattle.set_core.specs.declared.event.Event.{Event}
use Rattle.side_events.specs.declared.side_event.SideEvent.TheVariants as side
use Rattle.set_core.specs.declared.event.Event.TheVariants as event
use Rattle.set_core.specs.declared.reply.Reply.{Reply}
use Rattle.set_core.specs.declared.reply.Reply.TheVariants as reply
use Rattle.collateral_ledger.specs.Holdings.{Call}
use Rattle.collateral_ledger.specs.Changes.{without_call}
use Rattle.set_core.specs.Events.{if_side}
use Rattle.set_core.specs.Book.{is_accepted}
use Rattle.set_core.specs.Calls.{calls_by, made, closes, is_closed_by, call_made, stays_open, outstanding_after, outstanding}
use Rattle.set_core.proofs.Words.{Log}

pub stays_open-none : (cs : List Call) → stays_open [] cs ≡ cs
stays_open-none [] = refl
stays_open-none (call ∷ cs) = ap (λ others. call ∷ others) (stays_open-none cs)

stays_open-append : (after : Log) (cs others : List Call) → stays_open after (cs ++ others) ≡ stays_open after cs ++ stays_open after others
stays_open-append after [] others = refl
stays_open-append after (call ∷ cs) others = at (list_any (is_closed_by call.number) after) (stays_open-append after cs others)
  where
    at : (closed : Bool) → stays_open after (cs ++ others) ≡ stays_open after cs ++ stays_open after others → cond closed (stays_open after (cs ++ others)) (call ∷ stays_open after (cs ++ others)) ≡ cond closed (stays_open after cs) (call ∷ stays_open after cs) ++ stays_open after others
    at true h = h
    at false h = ap (λ rest. call ∷ rest) h

-- entries and then others
stays_open-both : (log after : Log) (cs : List Call) → stays_open (log ++ after) cs ≡ stays_open after (stays_open log cs)
stays_open-both log after [] = refl
stays_open-both log after (call ∷ cs) =
    ap (λ closed. cond closed (stays_open (log ++ after) cs) (call ∷ stays_open (log ++ after) cs)) (list_any-append (is_closed_by call.number) log after)
    ∙ at (list_any (is_closed_by call.number) log) (stays_open-both log after cs)
  where
    at : (before : Bool) → stays_open (log ++ after) cs ≡ stays_open after (stays_open log cs) → cond (before || list_any (is_closed_by call.number) after) (stays_open (log ++ after) cs) (call ∷ stays_open (log ++ after) cs) ≡ stays_open after (cond before (stays_open log cs) (call ∷ stays_open log cs))
    at true h = h
    at false h = ap (λ rest. cond (list_any (is_closed_by call.number) after) rest (call ∷ rest)) h

pub made-push : (log : Log) (e : Entry Event Reply) → made (log ++ e ∷ []) ≡ made log + calls_by e.reply
made-push [] e = omega arith
made-push (x ∷ log) e = omega (arith, made-push log e)

one_at_most : (r : Reply) → calls_by r ≤ 1
one_at_most (reply.Called note) = omega arith
one_at_most reply.Accepted = omega arith
one_at_most (reply.Refused why) = omega arith
one_at_most (reply.Margin b) = omega arith
one_at_most (reply.NoCall excess margin booked) = omega arith

pub made_few : (log : Log) → made log ≤ length log
made_few [] = omega arith
made_few (e ∷ log) = omega (arith, made_few log, one_at_most e.reply)

outstanding_after-push : (before : ℕ) (log : Log) (e : Entry Event Reply) → outstanding_after before (log ++ e ∷ []) ≡ stays_open (e ∷ []) (outstanding_after before log) ++ call_made (before + made log + 1) e.reply
outstanding_after-push before [] e =
    append-nil (stays_open [] (call_made (before + 1) e.reply)) ∙ stays_open-none (call_made (before + 1) e.reply)
    ∙ ap (λ number. call_made (number + 1) e.reply) (omega arith)
outstanding_after-push before (x ∷ log) e =
    let first : List Call = call_made (before + 1) x.reply in
    let rest : List Call = outstanding_after (before + calls_by x.reply) log in
    ap (λ cs. cs ++ outstanding_after (before + calls_by x.reply) (log ++ e ∷ [])) (stays_open-both log (e ∷ []) first)
    ∙ ap (λ cs. stays_open (e ∷ []) (stays_open log first) ++ cs) (outstanding_after-push (before + calls_by x.reply) log e)
    ∙ sym (append_assoc (stays_open (e ∷ []) (stays_open log first)) (stays_open (e ∷ []) rest) (call_made (before + calls_by x.reply + made log + 1) e.reply))
    ∙ ap (λ cs. cs ++ call_made (before + calls_by x.reply + made log + 1) e.reply) (sym (stays_open-append (e ∷ []) (stays_open log first) rest))
    ∙ ap (λ number. stays_open (e ∷ []) (stays_open log first ++ rest) ++ call_made (number + 1) e.reply) (omega arith)

pub outstanding-push : (log : Log) (e : Entry Event Reply) → outstanding (log ++ e ∷ []) ≡ stays_open (e ∷ []) (outstanding log) ++ call_made (made log + 1) e.reply
outstanding-push log e =
    outstanding_after-push 0 log e ∙ ap (λ number. stays_open (e ∷ []) (outstanding log) ++ call_made (number + 1) e.reply) (omega arith)

-- ---- one entry

-- the same by whether the entry is accepted
abbrev pub closed : Bool → Event → List Call → List Call
closed accepted e [] = []
closed accepted e (call ∷ cs) = cond ((accepted && if_side (closes call.number) false e) || false) (closed accepted e cs) (call ∷ closed accepted e cs)

pub closed_by : (e : Entry Event Reply) (cs : List Call) → stays_open (e ∷ []) cs ≡ closed (is_accepted e.reply) e.event cs
closed_by e [] = refl
closed_by e (call ∷ cs) = ap (λ rest. cond (list_any (is_closed_by call.number) (e ∷ [])) rest (call ∷ rest)) (closed_by e cs)

pub refused_open : (e : Event) (cs : List Call) → closed false e cs ≡ cs
refused_open e [] = refl
refused_open e (call ∷ cs) = ap (λ rest. call ∷ rest) (refused_open e cs)

-- an event that closes no call
pub others_open : (e : Event) → ((number : ℕ) → if_side (closes number) false e ≡ false) → (accepted : Bool) (cs : List Call) → closed accepted e cs ≡ cs
others_open e still false cs = refused_open e cs
others_open e still true [] = refl
others_open e still true (call ∷ cs) =
    ap (λ now. cond (now || false) (closed true e cs) (call ∷ closed true e cs)) (still call.number) ∙ ap (λ rest. call ∷ rest) (others_open e still true cs)

-- a call that is closed
pub closed_without : (on : MarginSide) (number : ℕ) (cs : List Call) → closed true (event.OnSide on (side.CloseCall number)) cs ≡ without_call number cs
closed_without on number [] = refl
closed_without on number (call ∷ cs) = at (number == call.number) (closed_without on number cs)
  where
    at : (now : Bool) → closed true (event.OnSide on (side.CloseCall number)) cs ≡ without_call number cs → cond (now || false) (closed true (event.OnSide on (side.CloseCall number)) cs) (call ∷ closed true (event.OnSide on (side.CloseCall number)) cs) ≡ cond (not now) (call ∷ without_call number cs) (without_call number cs)
    at true h = h
    at false h = ap (λ rest. call ∷ rest) h
