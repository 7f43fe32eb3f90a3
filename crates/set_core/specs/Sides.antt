-- The sides of the margin in the journal of a netting set: each has terms and entries of its own.
use Rattle.std.specs.Prelude.{List, Bool, true, false}
use Rattle.std.specs.List.{filter}
use Rattle.collateral_ledger.specs.SimmKinds.declared.margin_side.MarginSide.{MarginSide}
use Rattle.collateral_ledger.specs.SimmKinds.declared.margin_side.MarginSide.TheVariants.{Collect, Post}
use Rattle.collateral_ledger.specs.CsaTerms.Terms.{Agreement, Agreements}
use Rattle.held_cell.specs.declared.entry.Entry.{Entry}
use Rattle.set_core.specs.declared.event.Event.{Event}
use Rattle.set_core.specs.declared.event.Event.TheVariants as event
use Rattle.set_core.specs.declared.reply.Reply.{Reply}

-- the terms by which a side's collateral is called for
abbrev pub terms_on : MarginSide → Agreements → Agreement
terms_on Collect both = both.collect
terms_on Post both = both.post

abbrev pub same_side : MarginSide → MarginSide → Bool
same_side Collect Collect = true
same_side Collect Post = false
same_side Post Collect = false
same_side Post Post = true

-- the trades and the tables are of no side
abbrev pub is_of_side : MarginSide → Event → Bool
is_of_side on (event.Submit trades) = false
is_of_side on (event.Withdraw names) = false
is_of_side on (event.Tables text) = false
is_of_side on (event.OnSide of e) = same_side on of

-- the entries of a side, which its lots and its calls hang on alone
abbrev pub entries_of : MarginSide → List (Entry Event Reply) → List (Entry Event Reply)
entries_of on log = filter (λ (e : Entry Event Reply). is_of_side on e.event) log
