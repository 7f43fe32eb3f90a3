-- What the ledgers hold after one entry more: that of its side what the entry leaves of it, and the other what it held.
use Rattle.std.proofs.Common.{◌≡◌, ℕ, ◌≤◌, arith, [], ◌∷◌, ◌++◌, length, true, false, cond, refl, sym, ap, ◌∙◌, append-nil}
use Rattle.std.proofs.lemmas.List.Elements.{filter-append}
use Rattle.std.proofs.lemmas.List.Sums.{length-filter, count_by-le-length}
use Rattle.collateral_ledger.specs.SimmKinds.declared.margin_side.MarginSide.{MarginSide}
use Rattle.collateral_ledger.specs.SimmKinds.declared.margin_side.MarginSide.TheVariants.{Collect, Post}
use Rattle.collateral_ledger.specs.CsaTerms.Terms.{Agreements}
use Rattle.held_cell.specs.declared.entry.Entry.{Entry}
use Rattle.held_cell.specs.Entries.{entry}
use Rattle.set_core.specs.declared.event.Event.{Event}
use Rattle.set_core.specs.declared.event.Event.TheVariants as event
use Rattle.set_core.specs.declared.ledgers.Ledgers.{Ledgers}
use Rattle.set_core.specs.declared.reply.Reply.{Reply}
use Rattle.set_core.specs.Book.{is_accepted}
use Rattle.set_core.specs.Lots.{lots}
use Rattle.set_core.specs.Sides.{terms_on, is_of_side, entries_of}
use Rattle.set_core.specs.Ledger.{holdings, ledger_on, terms_of, ledgers, ledgers_after}
use Rattle.set_core.proofs.Words.{Log}
use Rattle.set_core.proofs.Held.{IsNew, holdings_are}

pub held_on : (on : MarginSide) (both : Agreements) (log : Log) → ledger_on on (ledgers both log) ≡ holdings (terms_on on both) (entries_of on log)
held_on Collect both log = refl
held_on Post both log = refl

pub terms_stay : (held : Ledgers) (e : Event) (r : Reply) → terms_of (ledgers_after held e r) ≡ terms_of held
terms_stay held (event.Submit trades) r = refl
terms_stay held (event.Withdraw names) r = refl
terms_stay held (event.Tables text) r = refl
terms_stay held (event.OnSide Collect e) r = refl
terms_stay held (event.OnSide Post e) r = refl

pub few_entries : (on : MarginSide) (log : Log) → length (entries_of on log) ≤ length log
few_entries on log =
    let its = λ (e : Entry Event Reply). is_of_side on e.event in
    omega (arith, length-filter its log, count_by-le-length its log)

-- an entry of the side
its_side : (on : MarginSide) (log : Log) (e : Entry Event Reply) → is_of_side on e.event ≡ true → entries_of on log ++ e ∷ [] ≡ entries_of on (log ++ e ∷ [])
its_side on log e its = sym (filter-append (λ (x : Entry Event Reply). is_of_side on x.event) log (e ∷ []) ∙ ap (λ s. entries_of on log ++ cond s (e ∷ []) []) its)

-- an entry of the other side, or of none
other_side : (on : MarginSide) (log : Log) (e : Entry Event Reply) → is_of_side on e.event ≡ false → entries_of on log ≡ entries_of on (log ++ e ∷ [])
other_side on log e other =
    sym (filter-append (λ (x : Entry Event Reply). is_of_side on x.event) log (e ∷ []) ∙ ap (λ s. entries_of on log ++ cond s (e ∷ []) []) other ∙ append-nil (entries_of on log))

neither : (both : Agreements) (log : Log) (e : Entry Event Reply) → ((on : MarginSide) → is_of_side on e.event ≡ false) → ledgers both log ≡ ledgers both (log ++ e ∷ [])
neither both log e none = λ i. record {
  collect = holdings both.collect (other_side Collect log e (none Collect) i);
  post = holdings both.post (other_side Post log e (none Post) i);
}

-- the lots of its side have no lot of the name that an event puts
abbrev pub IsNewThere : Log → Event → Type 0
IsNewThere log (event.OnSide on e) = IsNew (lots (entries_of on log)) e
IsNewThere log _ = Unit {0}

pub ledgers_are : (both : Agreements) (log : Log) (caller : ℕ) (e : Event) (r : Reply) → (is_accepted r ≡ true → IsNewThere log e) → ledgers_after (ledgers both log) e r ≡ ledgers both (log ++ entry caller e r ∷ [])
ledgers_are both log caller (event.Submit trades) r new = neither both log (entry caller (event.Submit trades) r) (λ on. refl)
ledgers_are both log caller (event.Withdraw names) r new = neither both log (entry caller (event.Withdraw names) r) (λ on. refl)
ledgers_are both log caller (event.Tables text) r new = neither both log (entry caller (event.Tables text) r) (λ on. refl)
ledgers_are both log caller (event.OnSide Collect e) r new =
    let it : Entry Event Reply = entry caller (event.OnSide Collect e) r in
    let moved = holdings_are both.collect Collect (entries_of Collect log) caller e r new ∙ ap (holdings both.collect) (its_side Collect log it refl) in
    (λ i. record { collect = moved i; post = holdings both.post (other_side Post log it refl i) })
ledgers_are both log caller (event.OnSide Post e) r new =
    let it : Entry Event Reply = entry caller (event.OnSide Post e) r in
    let moved = holdings_are both.post Post (entries_of Post log) caller e r new ∙ ap (holdings both.post) (its_side Post log it refl) in
    (λ i. record { collect = holdings both.collect (other_side Collect log it refl i); post = moved i })
