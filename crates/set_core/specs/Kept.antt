-- What a set keeps beside its journal: the live margin has the journal's tables and its book, the ledger of each side its lots and
-- calls, and the rows are counted.
use Rattle.std.specs.Prelude.{◌≡◌, ℕ, List, [], ◌∷◌, false}
use Rattle.collateral_ledger.specs.SimmKinds.declared.row.TradeRows.{TradeRows}
use Rattle.held_cell.specs.declared.entry.Entry.{Entry}
use Rattle.bucket_cache.specs.SimmRules.Params.{Params}
use Rattle.bucket_cache.specs.Live.{is_current}
use Rattle.set_core.specs.declared.event.Event.{Event}
use Rattle.set_core.specs.declared.ledgers.Ledgers.{Ledgers}
use Rattle.set_core.specs.declared.reply.Reply.{Reply}
use Rattle.collateral_ledger.specs.CsaTerms.Terms.{IsOneSet}
use Rattle.set_core.specs.Book.{book, starts}
use Rattle.set_core.specs.Tables.{tables}
use Rattle.set_core.specs.Room.{journal_rows}
use Rattle.set_core.specs.Set.{IsSet}
use Rattle.set_core.specs.Ledger.{terms_of, ledgers}
use Rattle.set_core.specs.Live.{Traded}

-- no trade stands twice
abbrev pub AreDifferent : List TradeRows → Type 0
AreDifferent [] = Unit {0}
AreDifferent (t ∷ trades) = (is_current trades t.trade ≡ false) × AreDifferent trades

pub record IsKept (p : Params) (live : Traded) (held : Ledgers) (count : ℕ) (log : List (Entry Event Reply)) : Type 0 where
  pub one : IsOneSet held.collect.terms held.post.terms
  pub set : IsSet p (terms_of held) log
  pub tables : live.params ≡ tables p log
  pub book : live.book ≡ book log
  pub ledger : held ≡ ledgers (terms_of held) log
  pub rows : count ≡ journal_rows log
  pub different : AreDifferent (starts [] log)
