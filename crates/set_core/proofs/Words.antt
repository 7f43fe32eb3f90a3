-- One entry more at the end of a journal: what is said last, and which trades start where.
use Rattle.std.proofs.Common.{◌≡◌, ℕ, List, [], ◌∷◌, ◌++◌, Bool, true, false, ◌&&◌, ◌||◌, not, refl, sym, ap, ◌∙◌, append_assoc, append-nil}
use Rattle.std.specs.List.{filter}
use Rattle.std.proofs.lemmas.List.Elements.{filter-append, filter_agree}
use Rattle.std.proofs.lemmas.List.Folds.{list_any-append}
use Rattle.set_core.proofs.Filters.{filter_both}
use Rattle.collateral_ledger.specs.SimmKinds.declared.row.TradeRows.{TradeRows}
use Rattle.held_cell.specs.declared.entry.Entry.{Entry}
use Rattle.set_core.specs.declared.event.Event.{Event}
use Rattle.set_core.specs.declared.reply.Reply.{Reply}
use Rattle.set_core.specs.Book.{Word, Given, Taken, Silent, word, then_said, last_word, is_taken, is_current, is_withdrawn, accepted_trades, starts_at, starts}

abbrev pub Log : Type 0
Log = List (Entry Event Reply)

silent_left : (w : Word) → then_said Silent w ≡ w
silent_left (Given rows) = refl
silent_left Taken = refl
silent_left Silent = refl

said_assoc : (a b c : Word) → then_said a (then_said b c) ≡ then_said (then_said a b) c
said_assoc a b (Given rows) = refl
said_assoc a b Taken = refl
said_assoc a b Silent = refl

pub last_word-push : (name : List ℕ) (log : Log) (e : Entry Event Reply) → last_word name (log ++ e ∷ []) ≡ then_said (last_word name log) (word name e)
last_word-push name [] e = sym (silent_left (word name e))
last_word-push name (x ∷ log) e = ap (then_said (word name x)) (last_word-push name log e) ∙ said_assoc (word name x) (last_word name log) (word name e)

-- the entry doesn't withdraw the trade
abbrev pub stays : Entry Event Reply → TradeRows → Bool
stays e t = not (is_taken (word t.trade e))

starts_split : (c w s : Bool) → (c && not (w || (s || false))) ≡ ((c && not w) && not s)
starts_split true true s = refl
starts_split true false true = refl
starts_split true false false = refl
starts_split false w s = refl

filter_twice : {X : Type 0} (p q r : X → Bool) → ((x : X) → r x ≡ (p x && q x)) → (xs : List X) → filter r xs ≡ filter q (filter p xs)
filter_twice p q r e xs = filter_agree r (λ x. p x && q x) e xs ∙ sym (filter_both q p xs)

starts_at-push : (before after : Log) (x e : Entry Event Reply) → starts_at before x (after ++ e ∷ []) ≡ filter (stays e) (starts_at before x after)
starts_at-push before after x e = filter_twice
    (λ t. not (is_current before t.trade) && not (is_withdrawn after t.trade)) (stays e)
    (λ t. not (is_current before t.trade) && not (is_withdrawn (after ++ e ∷ []) t.trade))
    (λ t. ap (λ w. not (is_current before t.trade) && not w) (list_any-append (λ a. is_taken (word t.trade a)) after (e ∷ []))
    ∙ starts_split (not (is_current before t.trade)) (is_withdrawn after t.trade) (is_taken (word t.trade e)))
    (accepted_trades x)

pub starts-push : (before after : Log) (e : Entry Event Reply) → starts before (after ++ e ∷ []) ≡ filter (stays e) (starts before after) ++ starts_at (before ++ after) e []
starts-push before [] e = append-nil (starts_at before e []) ∙ ap (λ b. starts_at b e []) (sym (append-nil before))
starts-push before (x ∷ after) e =
    ap (λ ts. ts ++ starts (before ++ x ∷ []) (after ++ e ∷ [])) (starts_at-push before after x e)
    ∙ ap (λ ts. filter (stays e) (starts_at before x after) ++ ts) (starts-push (before ++ x ∷ []) after e)
    ∙ sym (append_assoc (filter (stays e) (starts_at before x after)) (filter (stays e) (starts (before ++ x ∷ []) after)) (starts_at ((before ++ x ∷ []) ++ after) e []))
    ∙ ap (λ ts. ts ++ starts_at ((before ++ x ∷ []) ++ after) e []) (sym (filter-append (stays e) (starts_at before x after) (starts (before ++ x ∷ []) after)))
    ∙ ap (λ b. filter (stays e) (starts before (x ∷ after)) ++ starts_at b e []) (append_assoc before (x ∷ []) after)
