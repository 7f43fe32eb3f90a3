use Rattle.std.proofs.Common.{[], refl, sym, ◌∙◌, subst, arith}
use Rattle.bucket_cache.specs.SimmRules.Params.{Params}
use Rattle.collateral_ledger.specs.CsaTerms.Terms.{Agreements, IsOneSet}
use Rattle.set_core.specs.declared.ledgers.Ledgers.{Ledgers}
use Rattle.set_core.specs.Kept.{IsKept}
use Rattle.set_core.specs.Cached.{AreCached}
use Rattle.set_core.proofs.Start.{set_none}
use Rattle.set_core.specs.Ledger.{terms_of, ledgers}
use Rattle.set_core.specs.Live.{Traded}
use Rattle.set_core.proofs.Caching.{cached_none}
use Rattle.set_core.proofs.Words.{Log}
use Rattle.set_core.proofs.set_state.SetState.new.Goals as goal

abbrev live_none : Params → Traded
live_none p = record { params = p; book = [] }

kept_none : (p : Params) (t : Agreements) → IsOneSet t.collect t.post → IsKept p (live_none p) (ledgers t []) 0 []
kept_none p t one = record {
  one = one;
  set = set_none p t;
  tables = refl;
  book = refl;
  ledger = refl;
  rows = refl;
  different = tt;
}

pub invariant_of-result : goal.invariant_of-result
invariant_of-result c = (
  subst (λ (live : Traded). IsKept c.args.params live c.new-2.result 0 c.new-3.result.items) (λ i. record { params = sym (c.in_ok-live.ensures.params ∙ c.in_ok-opened.ensures) i; book = sym c.in_ok-live.ensures.book i })
      (subst (λ (held : Ledgers). IsKept c.args.params (live_none c.args.params) held 0 c.new-3.result.items) (sym c.new-2.ensures)
      (subst (λ (log : Log). IsKept c.args.params (live_none c.args.params) (ledgers c.args.terms []) 0 log) (sym c.new-3.ensures.items) (kept_none c.args.params c.args.terms c.facts.ensures.set))),
  subst (λ (log : Log). AreCached c.in_ok-live.live log) (sym c.new-3.ensures.items) (cached_none c.in_ok-live.live c.in_ok-live.ensures.book c.in_ok-live.ensures.fresh),
  record { entries = omega (arith, c.new-3.result.ok.0, c.new-3.ensures.len); margins_twice = omega arith },
)

pub returns : goal.returns
returns c = λ i. record {
  params = c.args.params;
  terms = terms_of (c.new-2.ensures i);
  journal = c.new-3.ensures.items i;
  is_fresh = c.in_ok-live.ensures.fresh i;
  kept = c.in_ok-live.ensures.none i;
  spare = 0;
}
