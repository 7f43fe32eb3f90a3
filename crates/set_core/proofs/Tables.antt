-- The tables after one entry more.
use Rattle.std.proofs.Common.{◌≡◌, [], ◌∷◌, ◌++◌, refl}
use Rattle.bucket_cache.specs.SimmRules.Params.{Params}
use Rattle.held_cell.specs.declared.entry.Entry.{Entry}
use Rattle.set_core.specs.declared.event.Event.{Event}
use Rattle.set_core.specs.declared.reply.Reply.{Reply}
use Rattle.set_core.specs.Tables.{tables_with, tables}
use Rattle.set_core.proofs.Words.{Log}

pub tables-push : (p : Params) (log : Log) (e : Entry Event Reply) → tables p (log ++ e ∷ []) ≡ tables_with (tables p log) e
tables-push p [] e = refl
tables-push p (x ∷ log) e = tables-push (tables_with p x) log e
