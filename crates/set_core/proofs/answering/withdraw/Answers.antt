use Rattle.std.proofs.Common.{refl, sym, ap, Err}
use Rattle.collateral_ledger.specs.SimmKinds.Batch.{rows_of}
use Rattle.bucket_cache.specs.Live.{named}
use Rattle.set_core.specs.Answer.{if_known}
use Rattle.set_core.specs.Live.{traded}
use Rattle.set_core.specs.declared.event.Event.TheVariants as events
use Rattle.set_core.proofs.Caching.{caches_moved}
use Rattle.set_core.proofs.Changes.{other_trades}
use Rattle.set_core.proofs.answering.withdraw.Goals as goal

pub returns-in-Ok-clause-does : goal.returns-in-Ok-clause-does
returns-in-Ok-clause-does c = λ h. record {
  value = ap if_known (sym c.in-Ok.ensures.known);
  live = other_trades c.withdraw.new.self c.args.live.now _ c.in-Ok.ensures.params c.in-Ok.ensures.book;
  ledger = refl;
}

pub returns-in-Err-UnknownTrade-clause-does : goal.returns-in-Err-UnknownTrade-clause-does
returns-in-Err-UnknownTrade-clause-does c = λ h. record {
  value = ap if_known (sym (c.in-Err-UnknownTrade.ensures.unknown c.in-Err-UnknownTrade.place (ap Err c.in-Err-UnknownTrade.field-0-is)));
  live = ap traded c.in-Err-UnknownTrade.ensures.unchanged;
  ledger = refl;
}

pub returns-in-Ok-clause-caches : goal.returns-in-Ok-clause-caches
returns-in-Ok-clause-caches c =
    caches_moved c.args.live.now c.withdraw.new.self (events.Withdraw c.args.names.now) (rows_of (named c.args.names.now c.args.live.now.book)) refl (λ place. refl)
    c.in-Ok.ensures.stale c.in-Ok.ensures.kept c.in-Ok.ensures.elsewhere
