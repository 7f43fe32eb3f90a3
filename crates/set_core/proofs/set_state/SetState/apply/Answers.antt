use Rattle.std.proofs.Common.{rules, arith, ◌≡◌, ℕ, zero, suc, refl, sym, ap, ◌∙◌, subst, ◌+◌, ◌-◌, ◌*◌, ◌≤◌, ◌<◌, List, ◌++◌, ◌∷◌, [], false}
use Rattle.held_cell.specs.Entries.{entry}
use Rattle.set_core.specs.Kept.{IsKept}
use Rattle.collateral_ledger.specs.SimmKinds.declared.row.TradeRows.{TradeRows}
use Rattle.collateral_ledger.specs.SimmKinds.Batch.{rows_of}
use Rattle.bucket_cache.specs.Cached.{touches, is_cached}
use Rattle.set_core.specs.Cached.{touched_by, is_kept, AreCached}
use Rattle.set_core.specs.Ledger.{terms_of}
use Rattle.set_core.specs.declared.ledgers.Ledgers.{Ledgers}
use Rattle.set_core.specs.Live.{Traded, traded}
use Rattle.set_core.specs.Room.{is_full}
use Rattle.set_core.specs.Set.{Set, IsAnswered}
use Rattle.set_core.proofs.Applies.{Applied, applied, few_calls}
use Rattle.set_core.proofs.Caching.{stays_same, cached_next, cached_still, seen, keeps_more}
use Rattle.set_core.proofs.set_state.SetState.apply.Goals as goal

pub answer_twice-answers-requires : goal.answer_twice-answers-requires
answer_twice-answers-requires c = few_calls c.self.inside.params (traded c.self.inside.live) c.self.inside.ledgers c.self.inside.rows c.self.inside.journal.items c.self.invariant.0

-- room that was put by for margins twice is all there
still_twice : (spare had has : ℕ) → 2 * spare ≤ had → (1 < had → has ≡ had) → 2 * spare ≤ has
still_twice zero had has twice none = omega arith
still_twice (suc spare) had has twice none = let same = none (omega (arith, twice)) in omega (arith, twice, same)

pub invariant_of-self-in_default : goal.invariant_of-self-in_default
invariant_of-self-in_default c = (
  subst (λ log. IsKept c.self.inside.params (traded c.answer_twice-answers.new.live) c.answer_twice-answers.new.ledgers c.self.inside.rows log) (sym c.reserve.ensures.items)
      (subst (λ (l : Traded). IsKept c.self.inside.params l c.answer_twice-answers.new.ledgers c.self.inside.rows c.self.inside.journal.items) (sym c.in_default.ensures.trades)
      (subst (λ (held : Ledgers). IsKept c.self.inside.params (traded c.self.inside.live) held c.self.inside.rows c.self.inside.journal.items) (sym c.in_default.ensures.collateral) c.self.invariant.0)),
  subst (AreCached c.answer_twice-answers.new.live) (sym c.reserve.ensures.items)
      (cached_still c.self.inside.live c.answer_twice-answers.new.live c.self.inside.journal.items c.self.invariant.1 c.in_default.ensures.stays),
  record {
    entries = omega (arith, c.reserve.ensures.len, c.reserve.ensures.capacity, c.self.invariant.2.entries);
    margins_twice = still_twice c.self.inside.spare c.self.inside.put_by c.answer_twice-answers.new.put_by c.self.invariant.2.margins_twice c.in_default.ensures.none_taken;
  },
)

had_room : (c : goal.After-push_reserved) → is_full c.self.inside.journal.items c.args.event ≡ false
had_room c = search rules

it : (c : goal.After-push_reserved) → Applied c.self.inside.params (traded c.answer_twice-answers.new.live) c.self.inside.ledgers c.answer_twice-answers.new.ledgers c.self.inside.rows c.args.caller c.self.inside.journal.items c.args.event c.in-Ok.reply
it c = applied c.self.inside.params (traded c.self.inside.live) (traded c.answer_twice-answers.new.live) c.self.inside.ledgers c.answer_twice-answers.new.ledgers c.self.inside.rows c.args.caller c.self.inside.journal.items c.args.event c.in-Ok.reply c.self.invariant.0 (had_room c) c.facts.ensures c.in-Ok.ensures.does

pushed : (c : goal.After-push_reserved) → c.push_reserved.new.self.items ≡ c.self.inside.journal.items ++ entry c.args.caller c.args.event c.in-Ok.reply ∷ []
pushed c =
    c.push_reserved.ensures.items ∙ ap (λ log. log ++ entry c.args.caller c.args.event c.in-Ok.kept ∷ []) c.reserve.ensures.items
    ∙ ap (λ r. c.self.inside.journal.items ++ entry c.args.caller c.args.event r ∷ []) c.in-Ok.ensures.same

left : (c : goal.After-push_reserved) → c.saturating_sub-self-inside.result ≡ c.self.inside.spare - 1
left c = c.saturating_sub-self-inside.ensures

pub invariant_of-self-2 : goal.invariant_of-self-2
invariant_of-self-2 c = (
  subst (λ log. IsKept c.self.inside.params (traded c.answer_twice-answers.new.live) c.answer_twice-answers.new.ledgers (c.self.inside.rows + c.row_count-rows.result) log) (sym (pushed c))
      (subst (λ n. IsKept c.self.inside.params (traded c.answer_twice-answers.new.live) c.answer_twice-answers.new.ledgers (c.self.inside.rows + n) (c.self.inside.journal.items ++ entry c.args.caller c.args.event c.in-Ok.reply ∷ [])) (sym c.row_count-rows.ensures) (it c).kept),
  subst (AreCached c.answer_twice-answers.new.live) (sym (pushed c))
      (cached_next c.self.inside.live c.answer_twice-answers.new.live c.args.caller c.self.inside.journal.items c.args.event c.in-Ok.reply c.self.invariant.0.book c.self.invariant.1 c.in-Ok.ensures.caches),
  record {
    entries = omega (arith, left c, c.push_reserved.ensures.len, c.push_reserved.ensures.capacity, c.reserve.ensures.len, c.reserve.ensures.capacity, c.self.invariant.2.entries, c.push_reserved.new.self.ok.0);
    margins_twice = omega (arith, left c, c.answer_twice-answers.ensures.taken, c.self.invariant.2.margins_twice);
  },
)

answered : (c : goal.After-push_reserved) → IsAnswered (seen c.self.inside.params c.self.inside.live (terms_of c.self.inside.ledgers) c.self.inside.journal.items c.self.inside.spare) (seen c.self.inside.params c.answer_twice-answers.new.live (terms_of c.answer_twice-answers.new.ledgers) c.push_reserved.new.self.items c.saturating_sub-self-inside.result) c.args.caller c.args.event c.in-Ok.reply
answered c = record {
  room = had_room c;
  value = (it c).value;
  after = λ i. record {
    params = c.self.inside.params;
    terms = (it c).terms i;
    journal = pushed c i;
    is_fresh = c.in-Ok.ensures.caches.fresh i;
    kept = c.answer_twice-answers.new.live.kept.values;
    spare = left c i;
  };
  cached = λ place.
      c.in-Ok.ensures.caches.cached place
      ∙ ap (λ (trades : List TradeRows). is_kept (is_cached c.self.inside.live.kept.values place) (touched_by place trades c.args.event) (touches place (rows_of trades)) c.in-Ok.reply)
      c.self.invariant.0.book;
}

pub returns-clause-answered : goal.returns-clause-answered
returns-clause-answered c =
    subst (λ (s : Set). IsAnswered s (seen c.self.inside.params c.answer_twice-answers.new.live (terms_of c.answer_twice-answers.new.ledgers) c.push_reserved.new.self.items c.saturating_sub-self-inside.result) c.args.caller c.args.event c.in-Ok.reply) c.self.view_is (answered c)

pub returns-then-is_err-clause-unchanged : goal.returns-then-is_err-clause-unchanged
returns-then-is_err-clause-unchanged c =
    keeps_more c.args.self.now c.self.inside.params c.self.inside.live c.self.inside.live (terms_of c.self.inside.ledgers) (terms_of c.self.inside.ledgers) c.self.inside.journal.items c.reserve.new.self.items c.self.inside.spare
    c.self.view_is refl c.reserve.ensures.items (stays_same c.self.inside.live c.self.inside.live refl)

pub returns-in_default-clause-unchanged : goal.returns-in_default-clause-unchanged
returns-in_default-clause-unchanged c =
    keeps_more c.args.self.now c.self.inside.params c.self.inside.live c.answer_twice-answers.new.live (terms_of c.self.inside.ledgers) (terms_of c.answer_twice-answers.new.ledgers) c.self.inside.journal.items c.reserve.new.self.items c.self.inside.spare
    c.self.view_is (ap terms_of c.in_default.ensures.collateral) c.reserve.ensures.items c.in_default.ensures.stays
